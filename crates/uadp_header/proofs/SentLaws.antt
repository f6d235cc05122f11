-- What a sender writes is a header as it stands on the wire.
use Rattle.std.proofs.Common.{◌≡◌, ℕ, ◌+◌, ◌*◌, ◌/◌, ◌<◌, Bool, true, false, List, [], ◌∷◌, ◌++◌, length, Option, Some, None, refl, sym, ap, ◌∙◌, append_assoc, append-nil, arith}
use Rattle.std.specs.Prelude.{nat_lt, is_some, if◌then◌else◌}
use Rattle.std.specs.Int.{w32, to_le_bytes}
use Rattle.std.proofs.lemmas.Bool.{ltb-false}
use Rattle.ua_binary.specs.Wire.{flag, optional}
use Rattle.uadp_header.specs.Headers.{PublisherValue, IdsValue, NoIds, ListOf, ChunkOf, SecurityValue, HeaderValue, if_there, ids_of}
use Rattle.uadp_header.specs.Spelling.{type_in, publisher_bytes, ids_bytes, extended1_in, extended_bytes, flags_byte, flags_bytes, group_bytes, security_flags, security_bytes, header_bytes, header_len, of_writers, AreIds, IsSendersSecurity, IsSenders}
use Rattle.uadp_header.specs.Spelling as spelling
use Rattle.uadp_header.specs.Wire.{Given, is_chunk, has_ids, flags, extended1, extended2, byte_if, publisher_as, group_as, ids_as, security_as, wire_bytes, ids_sent, security_sent, header_sent, HasIdBytes}
use Rattle.uadp_header.proofs.IdLaws.{ids-spelled, ids-count}
use Rattle.uadp_header.proofs.WireAgain.{ids_long}

still_there : {A B : Type 0} (make : A → B) (o : Option A) → is_some (if_there make o) ≡ is_some o
still_there make None = refl
still_there make (Some a) = refl

same_chunk : (ids : IdsValue) → is_chunk (ids_sent ids) ≡ spelling.is_chunk ids
same_chunk NoIds = refl
same_chunk (ListOf bytes) = refl
same_chunk (ChunkOf id) = refl

same_ids : (ids : IdsValue) → has_ids (ids_sent ids) ≡ spelling.has_ids ids
same_ids NoIds = refl
same_ids (ListOf bytes) = refl
same_ids (ChunkOf id) = refl

-- ---- the flags

same_extended1 : (h : HeaderValue) → extended1 (header_sent h) ≡ extended1_in h
same_extended1 h =
    let security = still_there security_sent h.security in
    let chunk = same_chunk h.ids in
    rw (security, chunk) (omega arith)

sent_extended : (n : ℕ) (chunk : Bool) → (chunk ≡ true → 0 < n) → extended_bytes n chunk ≡ byte_if (nat_lt 0 n) n ++ byte_if chunk (flag chunk 1 + 0)
sent_extended n chunk positive = by_flag (nat_lt 0 n) chunk refl positive
  where
    by_flag : (there chunk : Bool) → nat_lt 0 n ≡ there → (chunk ≡ true → 0 < n) → (if there then n ∷ (if chunk then 1 ∷ [] else []) else []) ≡ byte_if there n ++ byte_if chunk (flag chunk 1 + 0)
    by_flag true true is positive = refl
    by_flag true false is positive = refl
    by_flag false false is positive = refl
    by_flag false true is positive = absurd (let none = ltb-false 0 n is in let some = positive refl in omega arith)

positive : (type class security : ℕ) (chunk : Bool) → chunk ≡ true → 0 < type + class + security + flag chunk 0x80
positive type class security true is = omega arith
positive type class security false is = absurd cc

sent_flags : (h : HeaderValue) → is_some h.publisher ≡ true → flags_bytes h ≡ (flags (header_sent h) ∷ []) ++ (byte_if (nat_lt 0 (extended1_in h)) (extended1 (header_sent h)) ++ byte_if (is_chunk (ids_sent h.ids)) (extended2 (header_sent h)))
unfolding flags_bytes
sent_flags h there =
    let e1 = extended1_in h in
    let chunk = spelling.is_chunk h.ids in
    let publisher = still_there Given h.publisher ∙ there in
    let first : flags_byte (spelling.has_ids h.ids) e1 ≡ flags (header_sent h) = let ids = same_ids h.ids in rw (publisher, ids) (omega arith) in
    let more = sent_extended e1 chunk (positive (type_in h.publisher) (flag (is_some h.class_id) 0x08) (flag (is_some h.security) 0x10) chunk) in
    ap (λ (n : ℕ). n ∷ extended_bytes e1 chunk) first
    ∙ ap (λ (l : List ℕ). flags (header_sent h) ∷ l) (more ∙ ap (λ (n : ℕ). byte_if (nat_lt 0 e1) n ++ byte_if chunk (flag chunk 1 + 0)) (sym (same_extended1 h))
    ∙ ap (λ (b : Bool). byte_if (nat_lt 0 e1) (extended1 (header_sent h)) ++ byte_if b (flag b 1 + 0)) (sym (same_chunk h.ids)))

-- ---- the parts

sent_publisher : (o : Option PublisherValue) → optional publisher_bytes o ≡ optional publisher_as (if_there Given o)
sent_publisher None = refl
sent_publisher (Some id) = refl

sent_group : (h : HeaderValue) → is_some h.group ≡ true → group_bytes h ≡ group_as (record { id = h.group; version = h.version; message_number = h.message_number; sequence = h.sequence })
unfolding group_bytes group_as
sent_group h there = rw there refl

sent_ids : (ids : IdsValue) → AreIds ids → HasIdBytes ids → ids_bytes ids ≡ ids_as (ids_sent ids)
sent_ids NoIds are bytes = refl
sent_ids (ChunkOf id) are bytes = refl
sent_ids (ListOf list) are bytes =
    let ids = ids-spelled (length list / 2) list (sym are.1) bytes in
    ap (λ (n : ℕ). n ∷ list) (sym (ids-count list)) ∙ ap (λ (l : List ℕ). length (ids_of list) ∷ l) (sym ids.spelled)

sent_security : (o : Option SecurityValue) → optional security_bytes o ≡ optional security_as (if_there security_sent o)
unfolding security_bytes security_as
sent_security None = refl
sent_security (Some s) =
    let front : security_flags s ≡ flag s.signed 1 + flag s.encrypted 2 + 0 + 0 = omega arith in
    ap (λ (n : ℕ). n ∷ to_le_bytes w32 s.token ++ (length s.nonce ∷ s.nonce)) front
    ∙ sym (append-nil ((flag s.signed 1 + flag s.encrypted 2 + 0 + 0) ∷ to_le_bytes w32 s.token ++ (length s.nonce ∷ s.nonce)))

in_order : (a b c d e f g h : List ℕ) → (a ++ (b ++ c)) ++ d ++ e ++ f ++ g ++ h ≡ a ++ b ++ c ++ d ++ e ++ f ++ g ++ [] ++ [] ++ [] ++ h
in_order a b c d e f g h = simp (append_assoc, append-nil)

pub sent-spelled : (h : HeaderValue) → IsSenders h → HasIdBytes h.ids → header_bytes h ≡ wire_bytes (header_sent h)
unfolding header_bytes wire_bytes
sent-spelled h is bytes =
    let w = header_sent h in
    let e1 = byte_if (nat_lt 0 (extended1_in h)) (extended1 w) in
    let e2 = byte_if (is_chunk (ids_sent h.ids)) (extended2 w) in
    let class = optional (λ guid. guid) h.class_id in
    rw (sent_flags h is.publisher, sent_publisher h.publisher, sent_group h is.group, sent_ids h.ids is.ids bytes, sent_security h.security)
    (in_order (flags w ∷ []) e1 e2 (optional publisher_as w.publisher) class (group_as (record { id = h.group; version = h.version; message_number = h.message_number; sequence = h.sequence })) (ids_as w.ids) (optional security_as w.security))

-- ---- writer ids

pub further-ids : (h : HeaderValue) (id : ℕ) (ids : List ℕ) → header_len (of_writers h (id ∷ ids)) ≡ header_len (of_writers h (id ∷ [])) + 2 * length ids
unfolding header_len
further-ids h id ids = let more = ids_long (id ∷ ids) in let one = ids_long (id ∷ []) in omega (arith, more, one)
