-- Each header that stands on the wire is read as what it tells, whatever follows it.
use Rattle.std.proofs.Common.{◌≡◌, ℕ, ◌*◌, ◌%◌, ◌^◌, ◌<◌, Bool, true, false, List, [], ◌∷◌, ◌++◌, length, Option, Some, None, Result, Ok, pos, refl, sym, ap, subst, ◌∙◌, append_assoc, arith}
use Rattle.std.specs.Prelude.{is_some, IfSome}
use Rattle.std.specs.Int.{w16, w32, w64, to_le_bytes, cast_signed}
use Rattle.std.specs.List.{flat_map}
use Rattle.std.specs.Str.{IsUtf8, is_utf8}
use Rattle.std.proofs.lemmas.Int.{to_z_pos}
use Rattle.std.proofs.lemmas.Nat.{from_le_bytes-to_le_bytes_4}
use Rattle.std.proofs.lemmas.Str.{is_utf8-from_IsUtf8}
use Rattle.ua_binary.specs.ReadingValues.{has}
use Rattle.ua_binary.specs.Wire.{optional}
use Rattle.uadp_header.specs.declared.fault.HeaderFault.{HeaderFault}
use Rattle.uadp_header.specs.Formats.{Format, Told, Part, ◌>>=◌, read}
use Rattle.uadp_header.specs.Headers.{U8, U16, U32, U64, Text, ChunkOf, ListOf, SecurityValue, GroupValue, if_there}
use Rattle.uadp_header.specs.Layout.{byte, number, block, when, byte_when, any_byte, text_len, fault_in, told_in, len_in, utf8_fault, text, publisher_id, group_numbers, group_when, payload_header, ids_when, extras, security_header, header_of, parts, header, header_at, reserved_fault, flags_fault, extended1_fault, extended2_fault}
use Rattle.uadp_header.specs.Spelling.{type_of}
use Rattle.uadp_header.specs.Wire.{WirePublisher, Given, NullText, WireIds, NoPayloadHeader, Listed, OfChunk, WireSecurity, WireHeader, has_ids, is_chunk, flags, extended1, extended2, byte_if, publisher_as, group_flags, group_as, ids_as, promoted_as, security_flags, security_as, wire_bytes, publisher_read, group_read, ids_read, security_read, header_read, IsWirePublisher, IsWireGroup, AreWireIds, IsWireSecurity, IsWireHeader}
use Rattle.uadp_header.proofs.FlagLaws.{TellsFlags, flags_tell, TellsExtended1, extended1_tell, TellsExtended2, extended2_tell, TellsLow, low_tell}
use Rattle.uadp_header.proofs.FormatLaws.{part-read}
use Rattle.uadp_header.proofs.TextLaws.{IsTextOf, told_text, then_text, last_text, byte_text, block_text, u16_text, u32_text, u64_text, when_text, byte_when_text}

-- ---- PublisherId

abbrev len_part : Format ℕ
len_part = Part 4 (λ part. fault_in (len_in part)) (λ part. Told (told_in (len_in part)))

-- an Int32 that is a length
len_text : (field : List ℕ) (len : ℕ) → length field ≡ 4 → len_in field ≡ Ok len → IsTextOf len_part len field
unfolding read
len_text field len four is = λ rest.
    part-read 4 (λ part. fault_in (len_in part)) (λ part. Told (told_in (len_in part))) field rest four (ap fault_in is) ∙ ap (λ (r : Result ℕ HeaderFault). Ok (told_in r, rest)) is

utf8_text : (line : List ℕ) → IsUtf8 line → IsTextOf (Part (length line) utf8_fault Told) line line
unfolding read
utf8_text line is = λ rest.
    part-read (length line) utf8_fault Told line rest refl (let utf8 : is_utf8 line ≡ true = is_utf8-from_IsUtf8 line is in rw utf8 refl)

string_text : (field line : List ℕ) → length field ≡ 4 → len_in field ≡ Ok (length line) → IsUtf8 line → IsTextOf text line (field ++ line)
unfolding text
string_text field line four is utf8 = then_text len_part (λ len. Part len utf8_fault Told) (length line) line field line (len_text field (length line) four is) (utf8_text line utf8)

len_again : (n : ℕ) → n < 2 ^ 31 → len_in (to_le_bytes w32 n) ≡ Ok n
len_again n short =
    let signed : cast_signed w32 n ≡ pos n = to_z_pos w32 n (omega arith) in
    ap (λ (k : ℕ). text_len (cast_signed w32 k)) (from_le_bytes-to_le_bytes_4 n (omega arith)) ∙ ap text_len signed

publisher_text : (wire : WirePublisher) → IsWirePublisher wire → IsTextOf (publisher_id (type_of (publisher_read wire))) (publisher_read wire) (publisher_as wire)
unfolding publisher_id
publisher_text (Given (U8 id)) is = last_text (byte any_byte) U8 id (id ∷ []) (byte_text any_byte id refl)
publisher_text (Given (U16 id)) is = last_text (number w16) U16 id (to_le_bytes w16 id) (u16_text id is.0)
publisher_text (Given (U32 id)) is = last_text (number w32) U32 id (to_le_bytes w32 id) (u32_text id is.0)
publisher_text (Given (U64 id)) is = last_text (number w64) U64 id (to_le_bytes w64 id) (u64_text id is.0)
publisher_text (Given (Text line)) is =
    last_text text Text line (to_le_bytes w32 (length line) ++ line) (string_text (to_le_bytes w32 (length line)) line refl (len_again (length line) is.1) is.0)
publisher_text NullText is =
    last_text text Text [] (0xff ∷ 0xff ∷ 0xff ∷ 0xff ∷ []) (string_text (0xff ∷ 0xff ∷ 0xff ∷ 0xff ∷ []) [] refl refl is.0)

publisher_if : (type : ℕ) (o : Option WirePublisher) → IfSome o (λ wire. type_of (publisher_read wire) ≡ type) → IfSome o IsWirePublisher
    → IfSome o (λ wire. IsTextOf (publisher_id type) (publisher_read wire) (publisher_as wire))
publisher_if type None type_is is = tt
publisher_if type (Some wire) type_is is = subst (λ (n : ℕ). IsTextOf (publisher_id n) (publisher_read wire) (publisher_as wire)) type_is (publisher_text wire is)

-- what every part of a kind has, where it is there
every : {A : Type 0} (P Q : A → Type 0) (o : Option A) → IfSome o P → ((a : A) → P a → Q a) → IfSome o Q
every P Q None is more = tt
every P Q (Some a) is more = more a is

itself : {A : Type 0} (o : Option A) → if_there (λ (a : A). a) o ≡ o
itself None = refl
itself (Some a) = refl

-- a number or a block that isn't always there
u16_if : (there : Bool) (o : Option ℕ) → there ≡ is_some o → IfSome o (λ n. n < 2 ^ 16) → IsTextOf (when there (number w16)) o (optional (to_le_bytes w16) o)
u16_if there o is small =
    subst (λ (told : Option ℕ). IsTextOf (when there (number w16)) told (optional (to_le_bytes w16) o)) (itself o)
    (when_text there (number w16) (λ (n : ℕ). n) (to_le_bytes w16) o is (every (λ (n : ℕ). n < 2 ^ 16) (λ n. IsTextOf (number w16) n (to_le_bytes w16 n)) o small u16_text))

u32_if : (there : Bool) (o : Option ℕ) → there ≡ is_some o → IfSome o (λ n. n < 2 ^ 32) → IsTextOf (when there (number w32)) o (optional (to_le_bytes w32) o)
u32_if there o is small =
    subst (λ (told : Option ℕ). IsTextOf (when there (number w32)) told (optional (to_le_bytes w32) o)) (itself o)
    (when_text there (number w32) (λ (n : ℕ). n) (to_le_bytes w32) o is (every (λ (n : ℕ). n < 2 ^ 32) (λ n. IsTextOf (number w32) n (to_le_bytes w32 n)) o small u32_text))

guid_if : (there : Bool) (o : Option (List ℕ)) → there ≡ is_some o → IfSome o (λ guid. length guid ≡ 16) → IsTextOf (when there (block 16)) o (optional (λ guid. guid) o)
guid_if there o is len =
    subst (λ (told : Option (List ℕ)). IsTextOf (when there (block 16)) told (optional (λ guid. guid) o)) (itself o)
    (when_text there (block 16) (λ (guid : List ℕ). guid) (λ guid. guid) o is (every (λ (guid : List ℕ). length guid ≡ 16) (λ guid. IsTextOf (block 16) guid guid) o len (block_text 16)))

-- ---- GroupHeader

numbers_text : (n : ℕ) (g : GroupValue) → TellsLow (is_some g.id) (is_some g.version) (is_some g.message_number) (is_some g.sequence) n → IsWireGroup g
    → IsTextOf (group_numbers n) g (optional (to_le_bytes w16) g.id ++ (optional (to_le_bytes w32) g.version ++ (optional (to_le_bytes w16) g.message_number ++ optional (to_le_bytes w16) g.sequence)))
unfolding group_numbers
numbers_text n g tells is =
    then_text (when (has n 0x01) (number w16)) _ g.id g _ _ (u16_if (has n 0x01) g.id tells.one is.id)
    (then_text (when (has n 0x02) (number w32)) _ g.version g _ _ (u32_if (has n 0x02) g.version tells.two is.version)
    (then_text (when (has n 0x04) (number w16)) _ g.message_number g _ _ (u16_if (has n 0x04) g.message_number tells.four is.message_number)
    (last_text (when (has n 0x08) (number w16)) (λ sequence. record { id = g.id; version = g.version; message_number = g.message_number; sequence = sequence }) g.sequence _ (u16_if (has n 0x08) g.sequence tells.eight is.sequence))))

in_fives : (a b c d e : List ℕ) → a ++ b ++ c ++ d ++ e ≡ a ++ (b ++ (c ++ (d ++ e)))
in_fives a b c d e = simp append_assoc

group_text : (there : Bool) (o : Option GroupValue) → there ≡ is_some o → IfSome o IsWireGroup → IsTextOf (group_when there) (group_read o) (optional group_as o)
unfolding group_when group_as
group_text true (Some g) is wire =
    let n = group_flags g in
    let tells = low_tell (is_some g.id) (is_some g.version) (is_some g.message_number) (is_some g.sequence) in
    subst (λ (l : List ℕ). IsTextOf (byte reserved_fault >>= group_numbers) g l)
    (sym (in_fives (n ∷ []) (optional (to_le_bytes w16) g.id) (optional (to_le_bytes w32) g.version) (optional (to_le_bytes w16) g.message_number) (optional (to_le_bytes w16) g.sequence)))
    (then_text (byte reserved_fault) group_numbers n g (n ∷ []) _ (byte_text reserved_fault n tells.no_fault) (numbers_text n g tells wire))
group_text false None is wire = told_text _
group_text true None is wire = absurd cc
group_text false (Some g) is wire = absurd cc

-- ---- PayloadHeader

pub ids_long : (ids : List ℕ) → length (flat_map (to_le_bytes w16) ids) ≡ 2 * length ids
ids_long [] = refl
ids_long (id ∷ ids) = let more = ids_long ids in omega (arith, more)

ids_text : (there chunk : Bool) (wire : WireIds) → there ≡ has_ids wire → chunk ≡ is_chunk wire → AreWireIds wire → IsTextOf (ids_when there chunk) (ids_read wire) (ids_as wire)
unfolding ids_when payload_header
ids_text false chunk NoPayloadHeader is chunk_is are = told_text _
ids_text true false (Listed ids) is chunk_is are =
    then_text (byte any_byte) (λ count. block (2 * count) >>= λ ids. Told (ListOf ids)) (length ids) (ListOf (flat_map (to_le_bytes w16) ids)) (length ids ∷ []) (flat_map (to_le_bytes w16) ids)
    (byte_text any_byte (length ids) refl) (last_text (block (2 * length ids)) ListOf (flat_map (to_le_bytes w16) ids) (flat_map (to_le_bytes w16) ids) (block_text (2 * length ids) (flat_map (to_le_bytes w16) ids) (ids_long ids)))
ids_text true true (OfChunk id) is chunk_is are = last_text (number w16) ChunkOf id (to_le_bytes w16 id) (u16_text id are)
ids_text true chunk NoPayloadHeader is chunk_is are = absurd cc
ids_text false chunk (Listed ids) is chunk_is are = absurd cc
ids_text false chunk (OfChunk id) is chunk_is are = absurd cc
ids_text true true (Listed ids) is chunk_is are = absurd cc
ids_text true false (OfChunk id) is chunk_is are = absurd cc

-- ---- timestamp, picoseconds, promoted fields

promoted_text : (fields : List ℕ) → length fields < 2 ^ 16 → IsTextOf (number w16 >>= block) fields (promoted_as fields)
promoted_text fields short = then_text (number w16) block (length fields) fields (to_le_bytes w16 (length fields)) fields (u16_text (length fields) short) (block_text (length fields) fields refl)

abbrev pub extras_as : WireHeader → List ℕ
extras_as wire = optional (to_le_bytes w64) wire.timestamp ++ (optional (to_le_bytes w16) wire.picoseconds ++ optional promoted_as wire.promoted)

-- what the flags tell of them
record TellsExtras (wire : WireHeader) (flags1 flags2 : ℕ) : Type 0 where
  timestamp : has flags1 0x20 ≡ is_some wire.timestamp
  picoseconds : has flags1 0x40 ≡ is_some wire.picoseconds
  promoted : has flags2 0x02 ≡ is_some wire.promoted

extras_text : (wire : WireHeader) (flags1 flags2 : ℕ) → TellsExtras wire flags1 flags2 → IsWireHeader wire → IsTextOf (extras flags1 flags2) tt (extras_as wire)
unfolding extras
extras_text wire flags1 flags2 tells is =
    then_text (when (has flags1 0x20) (block 8)) _ (if_there (to_le_bytes w64) wire.timestamp) tt _ _
    (when_text (has flags1 0x20) (block 8) (to_le_bytes w64) (to_le_bytes w64) wire.timestamp tells.timestamp (every (λ (n : ℕ). n < 2 ^ 64) (λ n. IsTextOf (block 8) (to_le_bytes w64 n) (to_le_bytes w64 n)) wire.timestamp is.timestamp (λ n small. block_text 8 (to_le_bytes w64 n) refl)))
    (then_text (when (has flags1 0x40) (block 2)) _ (if_there (to_le_bytes w16) wire.picoseconds) tt _ _
    (when_text (has flags1 0x40) (block 2) (to_le_bytes w16) (to_le_bytes w16) wire.picoseconds tells.picoseconds (every (λ (n : ℕ). n < 2 ^ 16) (λ n. IsTextOf (block 2) (to_le_bytes w16 n) (to_le_bytes w16 n)) wire.picoseconds is.picoseconds (λ n small. block_text 2 (to_le_bytes w16 n) refl)))
    (last_text (when (has flags2 0x02) (number w16 >>= block)) (λ promoted. tt) (if_there (λ (fields : List ℕ). fields) wire.promoted) _
    (when_text (has flags2 0x02) (number w16 >>= block) (λ (fields : List ℕ). fields) promoted_as wire.promoted tells.promoted (every (λ (fields : List ℕ). length fields < 2 ^ 16) (λ fields. IsTextOf (number w16 >>= block) fields (promoted_as fields)) wire.promoted is.promoted promoted_text))))

-- ---- SecurityHeader

abbrev security_with : ℕ → WireSecurity → SecurityValue
security_with n s = record { signed = has n 0x01; encrypted = has n 0x02; footer = has n 0x04; reset = has n 0x08; token = s.token; nonce = s.nonce }

same_security : (n : ℕ) (s : WireSecurity) → TellsLow s.signed s.encrypted (is_some s.footer_size) s.reset n → security_with n s ≡ security_read s
same_security n s tells = rw (tells.one, tells.two, tells.four, tells.eight) refl

abbrev security_behind : WireSecurity → List ℕ
security_behind s = to_le_bytes w32 s.token ++ ((length s.nonce ∷ []) ++ (s.nonce ++ optional (to_le_bytes w16) s.footer_size))

behind_flags : (n : ℕ) (s : WireSecurity) → TellsLow s.signed s.encrypted (is_some s.footer_size) s.reset n → IsWireSecurity s
    → IsTextOf security_header (security_with n s) ((n ∷ []) ++ security_behind s)
unfolding security_header
behind_flags n s tells is =
    let told = security_with n s in
    then_text (byte reserved_fault) _ n told (n ∷ []) (security_behind s) (byte_text reserved_fault n tells.no_fault)
    (then_text (number w32) _ s.token told (to_le_bytes w32 s.token) ((length s.nonce ∷ []) ++ (s.nonce ++ optional (to_le_bytes w16) s.footer_size)) (u32_text s.token is.token)
    (then_text (byte any_byte) _ (length s.nonce) told (length s.nonce ∷ []) (s.nonce ++ optional (to_le_bytes w16) s.footer_size) (byte_text any_byte (length s.nonce) refl)
    (then_text (block (length s.nonce)) _ s.nonce told s.nonce _ (block_text (length s.nonce) s.nonce refl)
    (last_text (when (has n 0x04) (number w16)) (λ footer_size. told) s.footer_size _ (u16_if (has n 0x04) s.footer_size tells.four is.footer_size)))))

security_text : (s : WireSecurity) → IsWireSecurity s → IsTextOf security_header (security_read s) (security_as s)
unfolding security_as
security_text s is =
    let n = security_flags s in
    let tells = low_tell s.signed s.encrypted (is_some s.footer_size) s.reset in
    let order = in_fives (n ∷ []) (to_le_bytes w32 s.token) (length s.nonce ∷ []) s.nonce (optional (to_le_bytes w16) s.footer_size) in
    subst (λ (l : List ℕ). IsTextOf security_header (security_read s) l) (sym order)
    (subst (λ (told : SecurityValue). IsTextOf security_header told ((n ∷ []) ++ security_behind s)) (same_security n s tells) (behind_flags n s tells is))

-- ---- all parts behind the flags

abbrev pub parts_as : WireHeader → List ℕ
parts_as wire =
    optional publisher_as wire.publisher ++ (optional (λ guid. guid) wire.class_id ++ (optional group_as wire.group ++ (ids_as wire.ids ++ (extras_as wire ++ optional security_as wire.security))))

parts_text : (wire : WireHeader) (n n1 n2 : ℕ) → TellsFlags (is_some wire.publisher) (is_some wire.group) (has_ids wire.ids) wire.has_extended1 n
    → TellsExtended1 wire.id_type (is_some wire.class_id) (is_some wire.security) (is_some wire.timestamp) (is_some wire.picoseconds) wire.has_extended2 n1
    → TellsExtended2 (is_chunk wire.ids) (is_some wire.promoted) n n2 → IsWireHeader wire → IsTextOf (parts n n1 n2) (header_read wire) (parts_as wire)
unfolding parts
parts_text wire n n1 n2 tells tells1 tells2 is =
    let told = header_read wire in
    let id = subst (λ (type : ℕ). IfSome wire.publisher (λ publisher. IsTextOf (publisher_id type) (publisher_read publisher) (publisher_as publisher))) (sym tells1.type) (publisher_if wire.id_type wire.publisher is.type_is is.publisher) in
    then_text (when (has n 0x10) (publisher_id (n1 % 8))) _ (if_there publisher_read wire.publisher) told (optional publisher_as wire.publisher) _
    (when_text (has n 0x10) (publisher_id (n1 % 8)) publisher_read publisher_as wire.publisher tells.publisher id)
    (then_text (when (has n1 0x08) (block 16)) _ wire.class_id told (optional (λ guid. guid) wire.class_id) _ (guid_if (has n1 0x08) wire.class_id tells1.class is.class_id)
    (then_text (group_when (has n 0x20)) _ (group_read wire.group) told (optional group_as wire.group) _ (group_text (has n 0x20) wire.group tells.group is.group)
    (then_text (ids_when (has n 0x40) (has n2 0x01)) _ (ids_read wire.ids) told (ids_as wire.ids) _ (ids_text (has n 0x40) (has n2 0x01) wire.ids tells.ids tells2.chunk is.ids)
    (then_text (extras n1 n2) _ tt told (extras_as wire) _ (extras_text wire n1 n2 (record { timestamp = tells1.timestamp; picoseconds = tells1.picoseconds; promoted = tells2.promoted }) is)
    (last_text (when (has n1 0x10) security_header) (header_of (if_there publisher_read wire.publisher) wire.class_id (group_read wire.group) (ids_read wire.ids)) (if_there security_read wire.security) (optional security_as wire.security)
    (when_text (has n1 0x10) security_header security_read security_as wire.security tells1.security (every IsWireSecurity (λ s. IsTextOf security_header (security_read s) (security_as s)) wire.security is.security security_text)))))))

-- ---- a header

chunk_listed : (ids : WireIds) → is_chunk ids ≡ true → has_ids ids ≡ true
chunk_listed NoPayloadHeader is = absurd cc
chunk_listed (Listed ids) is = refl
chunk_listed (OfChunk id) is = refl

in_order : (a b c d e f g h i j k : List ℕ) → a ++ b ++ c ++ d ++ e ++ f ++ g ++ h ++ i ++ j ++ k ≡ a ++ (b ++ (c ++ (d ++ (e ++ (f ++ (g ++ ((h ++ (i ++ j)) ++ k)))))))
in_order a b c d e f g h i j k = simp append_assoc

pub wire_order : (wire : WireHeader) → wire_bytes wire ≡ (flags wire ∷ []) ++ (byte_if wire.has_extended1 (extended1 wire) ++ (byte_if wire.has_extended2 (extended2 wire) ++ parts_as wire))
unfolding wire_bytes
wire_order wire =
    in_order (flags wire ∷ []) (byte_if wire.has_extended1 (extended1 wire)) (byte_if wire.has_extended2 (extended2 wire)) (optional publisher_as wire.publisher) (optional (λ guid. guid) wire.class_id)
    (optional group_as wire.group) (ids_as wire.ids) (optional (to_le_bytes w64) wire.timestamp) (optional (to_le_bytes w16) wire.picoseconds) (optional promoted_as wire.promoted) (optional security_as wire.security)

header_text : (wire : WireHeader) → IsWireHeader wire
    → IsTextOf header (header_read wire) ((flags wire ∷ []) ++ (byte_if wire.has_extended1 (extended1 wire) ++ (byte_if wire.has_extended2 (extended2 wire) ++ parts_as wire)))
unfolding header
header_text wire is =
    let n = flags wire in
    let n1 = extended1 wire in
    let n2 = extended2 wire in
    let tells = flags_tell (is_some wire.publisher) (is_some wire.group) (has_ids wire.ids) wire.has_extended1 in
    let tells1 = extended1_tell wire.id_type (is_some wire.class_id) (is_some wire.security) (is_some wire.timestamp) (is_some wire.picoseconds) wire.has_extended2 is.id_type in
    let tells2 = extended2_tell (is_chunk wire.ids) (is_some wire.promoted) n (λ chunk. tells.ids ∙ chunk_listed wire.ids chunk) in
    let told = header_read wire in
    then_text (byte flags_fault) _ n told (n ∷ []) (byte_if wire.has_extended1 n1 ++ (byte_if wire.has_extended2 n2 ++ parts_as wire)) (byte_text flags_fault n tells.no_fault)
    (then_text (byte_when (has n 0x80) extended1_fault) _ n1 told (byte_if wire.has_extended1 n1) (byte_if wire.has_extended2 n2 ++ parts_as wire) (byte_when_text wire.has_extended1 (has n 0x80) extended1_fault n1 tells.extended tells1.no_fault is.no_extended1)
    (then_text (byte_when (has n1 0x80) (extended2_fault n)) _ n2 told (byte_if wire.has_extended2 n2) (parts_as wire) (byte_when_text wire.has_extended2 (has n1 0x80) (extended2_fault n) n2 tells1.extended tells2.no_fault is.no_extended2)
    (parts_text wire n n1 n2 tells tells1 tells2 is)))

pub wire_again : (wire : WireHeader) (rest : List ℕ) → IsWireHeader wire → header_at (wire_bytes wire ++ rest) ≡ Ok (header_read wire, rest)
unfolding header_at
wire_again wire rest is = ap (λ (l : List ℕ). read header (l ++ rest)) (wire_order wire) ∙ header_text wire is rest
