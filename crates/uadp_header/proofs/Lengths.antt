-- How long a written header is.
use Rattle.std.proofs.Common.{◌≡◌, ℕ, ◌+◌, ◌<◌, ◌≤◌, Bool, true, false, List, [], ◌∷◌, ◌++◌, length, Option, Some, None, refl, arith}
use Rattle.std.specs.Prelude.{nat_lt, is_some, IfSome, if◌then◌else◌}
use Rattle.std.specs.Int.{w16, w32, to_le_bytes}
use Rattle.std.proofs.lemmas.Bool.{lt-ltb}
use Rattle.std.proofs.lemmas.List.{length-append}
use Rattle.ua_binary.specs.Wire.{flag, optional}
use Rattle.uadp_header.specs.Headers.{PublisherValue, U8, U16, U32, U64, Text, IdsValue, NoIds, ListOf, ChunkOf, SecurityValue, HeaderValue}
use Rattle.uadp_header.specs.Spelling.{type_in, is_chunk, publisher_bytes, ids_bytes, extended1_in, extended_bytes, flags_bytes, group_flags, group_bytes, security_flags, security_bytes, header_bytes, publisher_len, ids_len, len_if, extended_len, group_len, security_len, header_len, IsAlike, IsHeader, IsSendersSecurity}

-- part after part
pub length-parts : (h : HeaderValue) → length (header_bytes h)
    ≡ length (flags_bytes h) + length (optional publisher_bytes h.publisher) + length (optional (λ guid. guid) h.class_id)
    + length (group_bytes h) + length (ids_bytes h.ids) + length (optional security_bytes h.security)
unfolding header_bytes
length-parts h =
    let flags = flags_bytes h in
    let publisher = optional publisher_bytes h.publisher in
    let class_id = optional (λ guid. guid) h.class_id in
    let group = group_bytes h in
    let ids = ids_bytes h.ids in
    let security = optional security_bytes h.security in
    omega (
      arith,
      length-append flags publisher,
      length-append (flags ++ publisher) class_id,
      length-append (flags ++ publisher ++ class_id) group,
      length-append (flags ++ publisher ++ class_id ++ group) ids,
      length-append (flags ++ publisher ++ class_id ++ group ++ ids) security,
    )

length-extended : (extended1 : ℕ) (chunk : Bool) → (chunk ≡ true → 0 < extended1) → length (extended_bytes extended1 chunk) ≡ flag (nat_lt 0 extended1) 1 + flag chunk 1
length-extended extended1 true positive = rw (lt-ltb 0 extended1 (positive refl)) refl
length-extended extended1 false positive = by_flag (nat_lt 0 extended1)
  where
    by_flag : (there : Bool) → length (if there then extended1 ∷ [] else []) ≡ flag there 1 + 0
    by_flag true = refl
    by_flag false = refl

positive : (type class security : ℕ) (chunk : Bool) → chunk ≡ true → 0 < type + class + security + flag chunk 0x80
positive type class security true is = omega arith
positive type class security false is = absurd cc

length-flags : (h : HeaderValue) → length (flags_bytes h) ≡ 1 + extended_len h
unfolding flags_bytes
length-flags h =
    let behind = length-extended (extended1_in h) (is_chunk h.ids) (positive (type_in h.publisher) (flag (is_some h.class_id) 0x08) (flag (is_some h.security) 0x10) (is_chunk h.ids)) in
    omega (arith, behind)

length-optional : {A : Type 0} (bytes : A → List ℕ) (len : A → ℕ) (o : Option A) → ((x : A) → length (bytes x) ≡ len x) → length (optional bytes o) ≡ len_if len o
length-optional bytes len None same = refl
length-optional bytes len (Some x) same = same x

length-publisher : (publisher : PublisherValue) → length (publisher_bytes publisher) ≡ publisher_len publisher
length-publisher (U8 id) = refl
length-publisher (U16 id) = refl
length-publisher (U32 id) = refl
length-publisher (U64 id) = refl
length-publisher (Text text) = length-append (to_le_bytes w32 (length text)) text

length-u16 : (o : Option ℕ) → length (optional (to_le_bytes w16) o) ≡ flag (is_some o) 2
length-u16 None = refl
length-u16 (Some n) = refl

length-u32 : (o : Option ℕ) → length (optional (to_le_bytes w32) o) ≡ flag (is_some o) 4
length-u32 None = refl
length-u32 (Some n) = refl

length-group : (h : HeaderValue) → length (group_bytes h) ≡ group_len h
unfolding group_bytes
length-group h =
    let first = group_flags h ∷ optional (to_le_bytes w16) h.group in
    let second = optional (to_le_bytes w32) h.version in
    let third = optional (to_le_bytes w16) h.message_number in
    omega (
      arith,
      length-append first second,
      length-append (first ++ second) third,
      length-append (first ++ second ++ third) (optional (to_le_bytes w16) h.sequence),
      length-u16 h.group,
      length-u32 h.version,
      length-u16 h.message_number,
      length-u16 h.sequence,
    )

length-ids : (ids : IdsValue) → length (ids_bytes ids) ≡ ids_len ids
length-ids NoIds = refl
length-ids (ListOf bytes) = omega arith
length-ids (ChunkOf id) = refl

length-security : (s : SecurityValue) → length (security_bytes s) ≡ security_len s
unfolding security_bytes
length-security s = omega (arith, length-append (security_flags s ∷ to_le_bytes w32 s.token) (length s.nonce ∷ s.nonce))

-- with a class id of 16 bytes, where there is one
pub length-header : (h : HeaderValue) → len_if length h.class_id ≡ flag (is_some h.class_id) 16 → length (header_bytes h) ≡ header_len h
unfolding header_len
length-header h guid =
    let flags = length-flags h in
    let publisher = length-optional publisher_bytes publisher_len h.publisher length-publisher in
    let class_id : length (optional (λ guid. guid) h.class_id) ≡ len_if length h.class_id = length-optional (λ guid. guid) length h.class_id (λ bytes. refl) in
    let group = length-group h in
    let ids = length-ids h.ids in
    let security = length-optional security_bytes security_len h.security length-security in
    omega (arith, length-parts h, flags, publisher, class_id, guid, group, ids, security)

sixteen : (o : Option (List ℕ)) → IfSome o (λ guid. length guid ≡ 16) → len_if length o ≡ flag (is_some o) 16
sixteen None there = refl
sixteen (Some guid) there = there

pub length-is_header : (h : HeaderValue) → IsHeader h → length (header_bytes h) ≡ header_len h
length-is_header h is = length-header h (sixteen h.class_id is.class_id)

-- a sender's header is no longer than it would be with all flags, all numbers of a group and a security header
flag-most : (there : Bool) (n : ℕ) → flag there n ≤ n
flag-most true n = omega arith
flag-most false n = omega arith

security-most : (security : Option SecurityValue) → IfSome security IsSendersSecurity → len_if security_len security ≤ 14
security-most None senders = omega arith
security-most (Some s) senders = omega (arith, senders.nonce)

pub length-most : (h : HeaderValue) → len_if length h.class_id ≡ flag (is_some h.class_id) 16 → IfSome h.security IsSendersSecurity
    → length (header_bytes h) ≤ 28 + len_if publisher_len h.publisher + len_if length h.class_id + ids_len h.ids
unfolding header_len
length-most h guid senders =
    omega (
      arith,
      length-header h guid,
      guid,
      flag-most (nat_lt 0 (extended1_in h)) 1,
      flag-most (is_chunk h.ids) 1,
      flag-most (is_some h.group) 2,
      flag-most (is_some h.version) 4,
      flag-most (is_some h.message_number) 2,
      flag-most (is_some h.sequence) 2,
      security-most h.security senders,
    )

-- no number counts
pub alike-len : (one other : HeaderValue) → IsAlike one other → header_len one ≡ header_len other
unfolding header_len
alike-len one other a = rw (a.type, a.publisher, a.class_id, a.group, a.version, a.message_number, a.sequence, a.chunk, a.ids, a.secured, a.security) refl
