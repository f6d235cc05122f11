-- Whatever is read as a header is one that stands on the wire.
use Rattle.std.proofs.Common.{◌≡◌, ℕ, zero, suc, ◌*◌, ◌%◌, ◌^◌, ◌≤◌, ◌<◌, ◌⊎◌, ◌↔◌, inl, inr, ℤ, pos, negsuc, Bool, true, false, List, [], ◌∷◌, ◌++◌, length, Option, Some, None, Ok, refl, sym, ap, subst, ◌∙◌, append_assoc, append-nil, arith}
use Rattle.std.specs.Prelude.{is_some, IfSome, FitsSigned, ◌==◌, if◌then◌else◌}
use Rattle.std.specs.Int.{Width, w16, w32, w64, byte_len, from_le_bytes, to_le_bytes, cast_signed, cast_unsigned}
use Rattle.std.specs.Str.{IsUtf8, is_utf8}
use Rattle.std.proofs.lemmas.Bool.{eqb-true, eqb-false}
use Rattle.std.proofs.lemmas.Int.{ints, of_z-to_z}
use Rattle.std.proofs.lemmas.Str.{IsUtf8-from_is_utf8}
use Rattle.ua_binary.specs.ReadingValues.{has}
use Rattle.ua_binary.specs.Spelling as binary
use Rattle.ua_binary.specs.Wire.{AreBytes, optional}
use Rattle.ua_binary.proofs.Grammar.{Optional, PartSpells}
use Rattle.ua_binary.proofs.Parts.{IsNumber, IsPartOf, IsCoded, coded16, coded32, coded64}
use Rattle.uadp_header.specs.declared.fault.HeaderFault.TheVariants.{BadId}
use Rattle.uadp_header.specs.Formats.{Format, Told, Part, ◌>>=◌}
use Rattle.uadp_header.specs.Headers.{PublisherValue, U8, U16, U32, U64, Text, IdsValue, ChunkOf, ListOf, SecurityValue, GroupValue, HeaderValue, if_there, ids_of}
use Rattle.uadp_header.specs.Layout.{byte, number, block, any_byte, text_len, fault_in, told_in, len_in, utf8_fault, text, publisher_id, group_numbers, group_when, payload_header, ids_when, extras, security_header, header_of, parts, header, header_at, reserved_fault, flags_fault, extended1_fault, extended2_fault}
use Rattle.uadp_header.specs.Spelling.{type_of}
use Rattle.uadp_header.specs.Wire.{WirePublisher, Given, NullText, WireIds, NoPayloadHeader, Listed, OfChunk, WireSecurity, WireHeader, has_ids, is_chunk, flags, extended1, extended2, byte_if, publisher_as, group_flags, group_as, ids_as, promoted_as, security_flags, security_as, wire_bytes, publisher_read, group_read, ids_read, security_read, header_read, IsWirePublisher, IsWireGroup, AreWireIds, IsWireSecurity, IsWireHeader, BeginsWithHeader}
use Rattle.uadp_header.proofs.FlagLaws.{flags-sum, extended1-sum, extended1-type, IsExtended2, extended2-sum, low_with, low-sum}
use Rattle.uadp_header.proofs.IdLaws.{ids-spelled, ids-count}
use Rattle.uadp_header.proofs.TextLaws.{Texts, then_texts, last_texts, more_texts, pick_texts, texts-read, SpellsByte, byte_texts, number_texts, block_texts, when_texts, SpellsByteIf, byte_when_texts}
use Rattle.uadp_header.proofs.WireAgain.{wire_order, wire_again}

u16_texts : Texts (IsNumber w16 16) (number w16)
u16_texts = number_texts w16 16 coded16

u32_texts : Texts (IsNumber w32 32) (number w32)
u32_texts = number_texts w32 32 coded32

u64_texts : Texts (IsNumber w64 64) (number w64)
u64_texts = number_texts w64 64 coded64

-- ---- PublisherId

-- what an Int32 that is a length stands for: itself, or -1
record SpellsLen (len : ℕ) (line : List ℕ) : Type 0 where
  short : len < 2 ^ 31
  spelled : (line ≡ to_le_bytes w32 len) ⊎ ((len ≡ 0) × (line ≡ 0xff ∷ 0xff ∷ 0xff ∷ 0xff ∷ []))

len_of : (field : ℕ) (line : List ℕ) → field < 2 ^ 32 → line ≡ to_le_bytes w32 field → (z : ℤ) → cast_signed w32 field ≡ z → fault_in (text_len z) ≡ None → SpellsLen (told_in (text_len z)) line
len_of field line small is (pos n) z passes =
    let back : cast_unsigned w32 (pos n) ≡ field = ap (cast_unsigned w32) (sym z) ∙ of_z-to_z w32 field small in
    let fits : FitsSigned w32 (pos n) = subst (FitsSigned w32) z (omega (arith, ints)) in
    let short : n < 2 ^ 31 = omega (arith, ints) in
    let same : field ≡ n = omega (arith, ints) in
    record { short = short; spelled = inl (is ∙ ap (to_le_bytes w32) same) }
len_of field line small is (negsuc zero) z passes =
    let back : cast_unsigned w32 (negsuc 0) ≡ field = ap (cast_unsigned w32) (sym z) ∙ of_z-to_z w32 field small in
    let same : field ≡ 4294967295 = omega (arith, ints) in
    record { short = omega arith; spelled = inr (refl, is ∙ ap (to_le_bytes w32) same) }
len_of field line small is (negsuc (suc n)) z passes = absurd cc

abbrev len_part : Format ℕ
len_part = Part 4 (λ part. fault_in (len_in part)) (λ part. Told (told_in (len_in part)))

len_texts : Texts SpellsLen len_part
len_texts = λ part len are passes.
    let field = from_le_bytes w32 part in
    len_of field (part ++ []) (coded32.below part (len, are)) (append-nil part ∙ sym (coded32.bytes part (len, are))) (cast_signed w32 field) refl passes

record SpellsText (line spelled : List ℕ) : Type 0 where
  short : length line < 2 ^ 31
  utf8 : IsUtf8 line
  split : (spelled ≡ binary.block line) ⊎ ((line ≡ []) × (spelled ≡ 0xff ∷ 0xff ∷ 0xff ∷ 0xff ∷ []))

utf8_is : (bytes : List ℕ) (b : Bool) → is_utf8 bytes ≡ b → (if b then None else Some BadId) ≡ None → IsUtf8 bytes
utf8_is bytes true is passes = IsUtf8-from_is_utf8 bytes is
utf8_is bytes false is passes = absurd cc

empty : (line : List ℕ) → length line ≡ 0 → line ≡ []
empty [] len = refl
empty (a ∷ line) len = absurd (omega (arith, len))

text_split : (len : ℕ) (field line : List ℕ) → SpellsLen len field → length line ≡ len → (field ++ line ≡ binary.block line) ⊎ ((line ≡ []) × (field ++ line ≡ 0xff ∷ 0xff ∷ 0xff ∷ 0xff ∷ []))
text_split len field line is same = by_form is.spelled
  where
    by_form : (field ≡ to_le_bytes w32 len) ⊎ ((len ≡ 0) × (field ≡ 0xff ∷ 0xff ∷ 0xff ∷ 0xff ∷ [])) → (field ++ line ≡ binary.block line) ⊎ ((line ≡ []) × (field ++ line ≡ 0xff ∷ 0xff ∷ 0xff ∷ 0xff ∷ []))
    by_form (inl e) = inl (ap (λ (l : List ℕ). l ++ line) e ∙ ap (λ (n : ℕ). to_le_bytes w32 n ++ line) (sym same))
    by_form (inr e) = let none : line ≡ [] = empty line (same ∙ e.0) in inr (none, ap (λ (l : List ℕ). l ++ line) e.1 ∙ ap (λ (l : List ℕ). (0xff ∷ 0xff ∷ 0xff ∷ 0xff ∷ []) ++ l) none)

text_texts : Texts SpellsText text
unfolding text
text_texts =
    then_texts SpellsLen SpellsText len_part (λ len. Part len utf8_fault Told) len_texts (λ len field is part part_len are passes.
    subst (λ (l : List ℕ). SpellsText part (field ++ l)) (sym (append-nil part))
    (record { short = let s = is.short in omega (arith, part_len); utf8 = utf8_is part (is_utf8 part) refl passes; split = text_split len field part is part_len }))

record SpellsPublisher (type : ℕ) (id : PublisherValue) (line : List ℕ) : Type 0 where
  wire : WirePublisher
  is_wire : IsWirePublisher wire
  type_is : type_of (publisher_read wire) ≡ type
  meaning : publisher_read wire ≡ id
  split : line ≡ publisher_as wire

text_publisher : (line spelled : List ℕ) → SpellsText line spelled → SpellsPublisher 4 (Text line) spelled
text_publisher line spelled is = by_form is.split
  where
    by_form : (spelled ≡ binary.block line) ⊎ ((line ≡ []) × (spelled ≡ 0xff ∷ 0xff ∷ 0xff ∷ 0xff ∷ [])) → SpellsPublisher 4 (Text line) spelled
    by_form (inl e) = record { wire = Given (Text line); is_wire = (is.utf8, is.short); type_is = refl; meaning = refl; split = e }
    by_form (inr e) = record { wire = NullText; is_wire = (subst IsUtf8 e.0 is.utf8, omega arith); type_is = refl; meaning = ap Text (sym e.0); split = e.1 }

last_type : (type : ℕ) → type ≤ 4 → (type == 0) ≡ false → (type == 1) ≡ false → (type == 2) ≡ false → (type == 3) ≡ false → 4 ≡ type
last_type type most a b c d =
    let zero = eqb-false type 0 a in
    let one = eqb-false type 1 b in
    let two = eqb-false type 2 c in
    let three = eqb-false type 3 d in
    omega arith

publisher_texts : (type : ℕ) → type ≤ 4 → Texts (SpellsPublisher type) (publisher_id type)
unfolding publisher_id
publisher_texts type most =
    pick_texts (SpellsPublisher type) (type == 0) _ _ (λ is. last_texts (SpellsByte any_byte) (SpellsPublisher type) (byte any_byte) U8 (byte_texts any_byte)
    (λ id line b. record { wire = Given (U8 id); is_wire = (b.is_byte, tt); type_is = sym (eqb-true type 0 is); meaning = refl; split = b.split })) (λ not0.
    pick_texts (SpellsPublisher type) (type == 1) _ _ (λ is. last_texts (IsNumber w16 16) (SpellsPublisher type) (number w16) U16 u16_texts
    (λ id line b. record { wire = Given (U16 id); is_wire = (b.0, tt); type_is = sym (eqb-true type 1 is); meaning = refl; split = b.1 })) (λ not1.
    pick_texts (SpellsPublisher type) (type == 2) _ _ (λ is. last_texts (IsNumber w32 32) (SpellsPublisher type) (number w32) U32 u32_texts
    (λ id line b. record { wire = Given (U32 id); is_wire = (b.0, tt); type_is = sym (eqb-true type 2 is); meaning = refl; split = b.1 })) (λ not2.
    pick_texts (SpellsPublisher type) (type == 3) _ _ (λ is. last_texts (IsNumber w64 64) (SpellsPublisher type) (number w64) U64 u64_texts
    (λ id line b. record { wire = Given (U64 id); is_wire = (b.0, tt); type_is = sym (eqb-true type 3 is); meaning = refl; split = b.1 })) (λ not3.
    last_texts SpellsText (SpellsPublisher type) text Text text_texts (λ id line b.
    subst (λ (n : ℕ). SpellsPublisher n (Text id) line) (last_type type most not0 not1 not2 not3) (text_publisher id line b))))))

-- ---- parts that aren't always there

number_text : (w : Width) (bits : ℕ) (part : Option ℕ) (line : List ℕ) → Optional (IsNumber w bits) part line → IfSome part (λ n. n < 2 ^ bits) × (line ≡ optional (to_le_bytes w) part)
number_text w bits None line spells = (tt, spells)
number_text w bits (Some n) line spells = spells

guid_text : (part : Option (List ℕ)) (line : List ℕ) → Optional (IsPartOf 16) part line → IfSome part (λ guid. length guid ≡ 16) × (line ≡ optional (λ guid. guid) part)
guid_text None line spells = (tt, spells)
guid_text (Some guid) line spells = (spells.0.0, spells.1)

-- ---- GroupHeader

record SpellsNumbers (n : ℕ) (g : GroupValue) (line : List ℕ) : Type 0 where
  is_wire : IsWireGroup g
  id : is_some g.id ≡ has n 0x01
  version : is_some g.version ≡ has n 0x02
  message_number : is_some g.message_number ≡ has n 0x04
  sequence : is_some g.sequence ≡ has n 0x08
  split : line ≡ optional (to_le_bytes w16) g.id ++ (optional (to_le_bytes w32) g.version ++ (optional (to_le_bytes w16) g.message_number ++ optional (to_le_bytes w16) g.sequence))

numbers_texts : (n : ℕ) → Texts (SpellsNumbers n) (group_numbers n)
unfolding group_numbers
numbers_texts n =
    then_texts (PartSpells ℕ (has n 0x01) (IsNumber w16 16)) _ _ _ (when_texts (IsNumber w16 16) (has n 0x01) (number w16) u16_texts) (λ id t1 a.
    then_texts (PartSpells ℕ (has n 0x02) (IsNumber w32 32)) _ _ _ (when_texts (IsNumber w32 32) (has n 0x02) (number w32) u32_texts) (λ version t2 b.
    then_texts (PartSpells ℕ (has n 0x04) (IsNumber w16 16)) _ _ _ (when_texts (IsNumber w16 16) (has n 0x04) (number w16) u16_texts) (λ message_number t3 c.
    last_texts (PartSpells ℕ (has n 0x08) (IsNumber w16 16)) _ _ _ (when_texts (IsNumber w16 16) (has n 0x08) (number w16) u16_texts) (λ sequence t4 d.
    let e1 = number_text w16 16 id t1 a.spells in
    let e2 = number_text w32 32 version t2 b.spells in
    let e3 = number_text w16 16 message_number t3 c.spells in
    let e4 = number_text w16 16 sequence t4 d.spells in
    record {
      is_wire = record { id = e1.0; version = e2.0; message_number = e3.0; sequence = e4.0 };
      id = a.flagged;
      version = b.flagged;
      message_number = c.flagged;
      sequence = d.flagged;
      split = rw (← e1.1, ← e2.1, ← e3.1, ← e4.1) refl;
    }))))

record SpellsGroup (there : Bool) (g : GroupValue) (line : List ℕ) : Type 0 where
  group : Option GroupValue
  is_wire : IfSome group IsWireGroup
  flagged : is_some group ≡ there
  meaning : group_read group ≡ g
  split : line ≡ optional group_as group

flags_same : (n : ℕ) (g : GroupValue) (line : List ℕ) → n < 256 → reserved_fault n ≡ None → SpellsNumbers n g line → n ≡ group_flags g
flags_same n g line small passes is =
    low-sum n small passes
    ∙ (let a = is.id in let b = is.version in let c = is.message_number in let d = is.sequence in rw (← a, ← b, ← c, ← d) refl)

in_fives : (a b c d e : List ℕ) → a ++ (b ++ (c ++ (d ++ e))) ≡ a ++ b ++ c ++ d ++ e
in_fives a b c d e = simp append_assoc

group_texts : (there : Bool) → Texts (SpellsGroup there) (group_when there)
unfolding group_when group_as
group_texts false = record { group = None; is_wire = tt; flagged = refl; meaning = refl; split = refl }
group_texts true =
    then_texts (SpellsByte reserved_fault) (SpellsGroup true) (byte reserved_fault) group_numbers (byte_texts reserved_fault) (λ n front b.
    more_texts (SpellsNumbers n) (λ g line. SpellsGroup true g (front ++ line)) (group_numbers n) (λ g line is.
    record {
      group = Some g;
      is_wire = is.is_wire;
      flagged = refl;
      meaning = refl;
      split = ap (λ (l : List ℕ). l ++ line) (b.split ∙ ap (λ (k : ℕ). k ∷ []) (flags_same n g line b.is_byte b.passes is)) ∙ ap (λ (l : List ℕ). (group_flags g ∷ []) ++ l) is.split
          ∙ in_fives (group_flags g ∷ []) (optional (to_le_bytes w16) g.id) (optional (to_le_bytes w32) g.version) (optional (to_le_bytes w16) g.message_number) (optional (to_le_bytes w16) g.sequence);
    }) (numbers_texts n))

-- ---- PayloadHeader

record SpellsIds (there chunk : Bool) (ids : IdsValue) (line : List ℕ) : Type 0 where
  wire : WireIds
  are_wire : AreWireIds wire
  is_there : has_ids wire ≡ there
  chunk_is : there ≡ true → is_chunk wire ≡ chunk
  meaning : ids_read wire ≡ ids
  split : line ≡ ids_as wire

listed_texts : (there : Bool) → there ≡ true → Texts (SpellsIds there false) (byte any_byte >>= λ count. block (2 * count) >>= λ ids. Told (ListOf ids))
listed_texts there is =
    then_texts (SpellsByte any_byte) (SpellsIds there false) (byte any_byte) (λ count. block (2 * count) >>= λ ids. Told (ListOf ids)) (byte_texts any_byte) (λ count front b.
    last_texts (IsPartOf (2 * count)) (λ ids line. SpellsIds there false ids (front ++ line)) (block (2 * count)) ListOf (block_texts (2 * count)) (λ bytes line part.
    let are = ids-spelled count bytes part.0.0 part.0.1 in
    let long : length (ids_of bytes) ≡ count = omega (arith, ids-count bytes, part.0.0) in
    record {
      wire = Listed (ids_of bytes);
      are_wire = (let small = b.is_byte in omega (arith, long), are.in_range);
      is_there = sym is;
      chunk_is = λ _. refl;
      meaning = ap ListOf are.spelled;
      split = ap (λ (l : List ℕ). l ++ line) (b.split ∙ ap (λ (n : ℕ). n ∷ []) (sym long)) ∙ ap (λ (l : List ℕ). (length (ids_of bytes) ∷ []) ++ l) (part.1 ∙ sym are.spelled);
    }))

ids_texts : (there chunk : Bool) → (chunk ≡ true → there ≡ true) → Texts (SpellsIds there chunk) (ids_when there chunk)
unfolding ids_when payload_header
ids_texts false true listed = absurd (let no : Path Bool false true = listed refl in cc)
ids_texts false false listed = record { wire = NoPayloadHeader; are_wire = tt; is_there = refl; chunk_is = λ _. refl; meaning = refl; split = refl }
ids_texts true false listed = listed_texts true refl
ids_texts true true listed =
    last_texts (IsNumber w16 16) (SpellsIds true true) (number w16) ChunkOf u16_texts (λ id line n.
    record { wire = OfChunk id; are_wire = n.0; is_there = refl; chunk_is = λ _. refl; meaning = refl; split = n.1 })

-- ---- timestamp, picoseconds, promoted fields

record SpellsExtras (n1 n2 : ℕ) (line : List ℕ) : Type 0 where
  timestamp : Option ℕ
  picoseconds : Option ℕ
  promoted : Option (List ℕ)
  has_timestamp : is_some timestamp ≡ has n1 0x20
  has_picoseconds : is_some picoseconds ≡ has n1 0x40
  has_promoted : is_some promoted ≡ has n2 0x02
  timestamp_is : IfSome timestamp (λ n. n < 2 ^ 64)
  picoseconds_is : IfSome picoseconds (λ n. n < 2 ^ 16)
  promoted_is : IfSome promoted (λ fields. length fields < 2 ^ 16)
  split : line ≡ optional (to_le_bytes w64) timestamp ++ (optional (to_le_bytes w16) picoseconds ++ optional promoted_as promoted)

-- bytes that are a number
record IsNumberOf (w : Width) (bits : ℕ) (there : Bool) (line : List ℕ) : Type 0 where
  number : Option ℕ
  flagged : is_some number ≡ there
  small : IfSome number (λ n. n < 2 ^ bits)
  split : line ≡ optional (to_le_bytes w) number

number_of : (w : Width) (bits : ℕ) (there : Bool) (part : Option (List ℕ)) (line : List ℕ) → IsCoded w bits → PartSpells (List ℕ) there (IsPartOf (byte_len w)) part line → IsNumberOf w bits there line
number_of w bits there None line code is = record { number = None; flagged = is.flagged; small = tt; split = is.spells }
number_of w bits there (Some part) line code is =
    record { number = Some (from_le_bytes w part); flagged = is.flagged; small = code.below part is.spells.0; split = is.spells.1 ∙ sym (code.bytes part is.spells.0) }

SpellsFields : List ℕ → List ℕ → Type 0
SpellsFields fields line = (length fields < 2 ^ 16) × (line ≡ promoted_as fields)

fields_texts : Texts SpellsFields (number w16 >>= block)
unfolding SpellsFields
fields_texts =
    then_texts (IsNumber w16 16) SpellsFields (number w16) block u16_texts (λ size front n.
    more_texts (IsPartOf size) (λ fields line. SpellsFields fields (front ++ line)) (block size) (λ fields line part. (
      let small = n.0 in omega (arith, part.0.0),
      ap (λ (l : List ℕ). l ++ line) (n.1 ∙ ap (to_le_bytes w16) (sym part.0.0)) ∙ ap (λ (l : List ℕ). to_le_bytes w16 (length fields) ++ l) part.1,
    )) (block_texts size))

fields_text : (part : Option (List ℕ)) (line : List ℕ) → Optional SpellsFields part line → IfSome part (λ fields. length fields < 2 ^ 16) × (line ≡ optional promoted_as part)
unfolding SpellsFields
fields_text None line spells = (tt, spells)
fields_text (Some fields) line spells = spells

extras_texts : (n1 n2 : ℕ) → Texts (λ told line. SpellsExtras n1 n2 line) (extras n1 n2)
unfolding extras
extras_texts n1 n2 =
    then_texts (PartSpells (List ℕ) (has n1 0x20) (IsPartOf 8)) _ _ _ (when_texts (IsPartOf 8) (has n1 0x20) (block 8) (block_texts 8)) (λ timestamp t1 a.
    then_texts (PartSpells (List ℕ) (has n1 0x40) (IsPartOf 2)) _ _ _ (when_texts (IsPartOf 2) (has n1 0x40) (block 2) (block_texts 2)) (λ picoseconds t2 b.
    last_texts (PartSpells (List ℕ) (has n2 0x02) SpellsFields) _ _ _ (when_texts SpellsFields (has n2 0x02) (number w16 >>= block) fields_texts) (λ promoted t3 c.
    let time = number_of w64 64 (has n1 0x20) timestamp t1 coded64 a in
    let picos = number_of w16 16 (has n1 0x40) picoseconds t2 coded16 b in
    let fields = fields_text promoted t3 c.spells in
    record {
      timestamp = time.number;
      picoseconds = picos.number;
      promoted = promoted;
      has_timestamp = time.flagged;
      has_picoseconds = picos.flagged;
      has_promoted = c.flagged;
      timestamp_is = time.small;
      picoseconds_is = picos.small;
      promoted_is = fields.0;
      split = ap (λ (l : List ℕ). l ++ (t2 ++ t3)) time.split
          ∙ ap (λ (l : List ℕ). optional (to_le_bytes w64) time.number ++ (l ++ t3)) picos.split
          ∙ ap (λ (l : List ℕ). optional (to_le_bytes w64) time.number ++ (optional (to_le_bytes w16) picos.number ++ l)) fields.1;
    })))

-- ---- SecurityHeader

record SpellsSecurity (s : SecurityValue) (line : List ℕ) : Type 0 where
  wire : WireSecurity
  is_wire : IsWireSecurity wire
  meaning : security_read wire ≡ s
  split : line ≡ security_as wire

security_texts : Texts SpellsSecurity security_header
unfolding security_header security_as
security_texts =
    then_texts (SpellsByte reserved_fault) SpellsSecurity _ _ (byte_texts reserved_fault) (λ n t1 a.
    then_texts (IsNumber w32 32) _ _ _ u32_texts (λ token t2 b.
    then_texts (SpellsByte any_byte) _ _ _ (byte_texts any_byte) (λ len t3 c.
    then_texts (IsPartOf len) _ _ _ (block_texts len) (λ nonce t4 d.
    last_texts (PartSpells ℕ (has n 0x04) (IsNumber w16 16)) _ _ _ (when_texts (IsNumber w16 16) (has n 0x04) (number w16) u16_texts) (λ footer_size t5 e.
    let size = number_text w16 16 footer_size t5 e.spells in
    let wire : WireSecurity = record { signed = has n 0x01; encrypted = has n 0x02; reset = has n 0x08; token = token; nonce = nonce; footer_size = footer_size } in
    let sum : n ≡ security_flags wire = low-sum n a.is_byte a.passes ∙ ap (λ (footer : Bool). low_with (has n 0x01) (has n 0x02) footer (has n 0x08)) (sym e.flagged) in
    record {
      wire = wire;
      is_wire = record { token = b.0; nonce = (let small = c.is_byte in omega (arith, d.0.0)); footer_size = size.0 };
      meaning = ap (λ (footer : Bool). record { signed = has n 0x01; encrypted = has n 0x02; footer = footer; reset = has n 0x08; token = token; nonce = nonce }) e.flagged;
      split = ap (λ (l : List ℕ). l ++ (t2 ++ (t3 ++ (t4 ++ t5)))) (a.split ∙ ap (λ (k : ℕ). k ∷ []) sum)
          ∙ ap (λ (l : List ℕ). (security_flags wire ∷ []) ++ (l ++ (t3 ++ (t4 ++ t5)))) b.1
          ∙ ap (λ (l : List ℕ). (security_flags wire ∷ []) ++ (to_le_bytes w32 token ++ (l ++ (t4 ++ t5)))) (c.split ∙ ap (λ (k : ℕ). k ∷ []) (sym d.0.0))
          ∙ ap (λ (l : List ℕ). (security_flags wire ∷ []) ++ (to_le_bytes w32 token ++ ((length nonce ∷ []) ++ (l ++ t5)))) d.1
          ∙ ap (λ (l : List ℕ). (security_flags wire ∷ []) ++ (to_le_bytes w32 token ++ ((length nonce ∷ []) ++ (nonce ++ l)))) size.1
          ∙ in_fives (security_flags wire ∷ []) (to_le_bytes w32 token) (length nonce ∷ []) nonce (optional (to_le_bytes w16) footer_size);
    })))))

-- a part that isn't always there, as it stands on the wire
record SpellsIf (A W : Type 0) (IsW : W → Type 0) (make : W → A) (spelling : W → List ℕ) (part : Option A) (line : List ℕ) : Type 0 where
  wire : Option W
  is_wire : IfSome wire IsW
  meaning : if_there make wire ≡ part
  there : is_some wire ≡ is_some part
  split : line ≡ optional spelling wire

security_if : (part : Option SecurityValue) (line : List ℕ) → Optional SpellsSecurity part line → SpellsIf SecurityValue WireSecurity IsWireSecurity security_read security_as part line
security_if None line spells = record { wire = None; is_wire = tt; meaning = refl; there = refl; split = spells }
security_if (Some s) line spells = record { wire = Some spells.wire; is_wire = spells.is_wire; meaning = ap Some spells.meaning; there = refl; split = spells.split }

-- a PublisherId of this type
IsOfType : ℕ → WirePublisher → Type 0
IsOfType type wire = (type_of (publisher_read wire) ≡ type) × IsWirePublisher wire

publisher_if : (type : ℕ) (part : Option PublisherValue) (line : List ℕ) → Optional (SpellsPublisher type) part line → SpellsIf PublisherValue WirePublisher (IsOfType type) publisher_read publisher_as part line
unfolding IsOfType
publisher_if type None line spells = record { wire = None; is_wire = tt; meaning = refl; there = refl; split = spells }
publisher_if type (Some id) line spells = record { wire = Some spells.wire; is_wire = (spells.type_is, spells.is_wire); meaning = ap Some spells.meaning; there = refl; split = spells.split }

types_are : (type : ℕ) (o : Option WirePublisher) → IfSome o (IsOfType type) → IfSome o (λ publisher. type_of (publisher_read publisher) ≡ type)
unfolding IsOfType
types_are type None is = tt
types_are type (Some wire) is = is.0

ids_are : (type : ℕ) (o : Option WirePublisher) → IfSome o (IsOfType type) → IfSome o IsWirePublisher
unfolding IsOfType
ids_are type None is = tt
ids_are type (Some wire) is = is.1

-- ---- all parts behind the flags

joined_six : {a b c d e f a2 b2 c2 d2 e2 f2 : List ℕ} → a ≡ a2 → b ≡ b2 → c ≡ c2 → d ≡ d2 → e ≡ e2 → f ≡ f2 → a ++ (b ++ (c ++ (d ++ (e ++ f)))) ≡ a2 ++ (b2 ++ (c2 ++ (d2 ++ (e2 ++ f2))))
joined_six {b = b} {c = c} {d = d} {e = e} {f = f} {a2 = a2} {b2 = b2} {c2 = c2} {d2 = d2} {e2 = e2} one two three four five six =
    ap (λ (l : List ℕ). l ++ (b ++ (c ++ (d ++ (e ++ f))))) one
    ∙ ap (λ (l : List ℕ). a2 ++ (l ++ (c ++ (d ++ (e ++ f))))) two
    ∙ ap (λ (l : List ℕ). a2 ++ (b2 ++ (l ++ (d ++ (e ++ f))))) three
    ∙ ap (λ (l : List ℕ). a2 ++ (b2 ++ (c2 ++ (l ++ (e ++ f))))) four
    ∙ ap (λ (l : List ℕ). a2 ++ (b2 ++ (c2 ++ (d2 ++ (l ++ f))))) five
    ∙ ap (λ (l : List ℕ). a2 ++ (b2 ++ (c2 ++ (d2 ++ (e2 ++ l))))) six

-- what the flags tell, and the parts that they tell of
record SpellsParts (n n1 n2 : ℕ) (h : HeaderValue) (line : List ℕ) : Type 0 where
  publisher : Option WirePublisher
  class_id : Option (List ℕ)
  group : Option GroupValue
  ids : WireIds
  timestamp : Option ℕ
  picoseconds : Option ℕ
  promoted : Option (List ℕ)
  security : Option WireSecurity
  has_publisher : is_some publisher ≡ has n 0x10
  has_group : is_some group ≡ has n 0x20
  has_list : has_ids ids ≡ has n 0x40
  has_class : is_some class_id ≡ has n1 0x08
  has_security : is_some security ≡ has n1 0x10
  has_timestamp : is_some timestamp ≡ has n1 0x20
  has_picoseconds : is_some picoseconds ≡ has n1 0x40
  chunk_is : has n 0x40 ≡ true → is_chunk ids ≡ has n2 0x01
  has_promoted : is_some promoted ≡ has n2 0x02
  publisher_is : IfSome publisher (IsOfType (n1 % 8))
  class_is : IfSome class_id (λ guid. length guid ≡ 16)
  group_is : IfSome group IsWireGroup
  ids_are_wire : AreWireIds ids
  timestamp_is : IfSome timestamp (λ n. n < 2 ^ 64)
  picoseconds_is : IfSome picoseconds (λ n. n < 2 ^ 16)
  promoted_is : IfSome promoted (λ fields. length fields < 2 ^ 16)
  security_is : IfSome security IsWireSecurity
  meaning : header_of (if_there publisher_read publisher) class_id (group_read group) (ids_read ids) (if_there security_read security) ≡ h
  split : line ≡ optional publisher_as publisher ++ (optional (λ guid. guid) class_id ++ (optional group_as group ++ (ids_as ids
      ++ ((optional (to_le_bytes w64) timestamp ++ (optional (to_le_bytes w16) picoseconds ++ optional promoted_as promoted)) ++ optional security_as security))))

parts_texts : (n n1 n2 : ℕ) → n1 % 8 ≤ 4 → (has n2 0x01 ≡ true → has n 0x40 ≡ true) → Texts (SpellsParts n n1 n2) (parts n n1 n2)
unfolding parts
parts_texts n n1 n2 typed listed =
    then_texts (PartSpells PublisherValue (has n 0x10) (SpellsPublisher (n1 % 8))) _ _ _ (when_texts (SpellsPublisher (n1 % 8)) (has n 0x10) (publisher_id (n1 % 8)) (publisher_texts (n1 % 8) typed)) (λ id t1 a.
    then_texts (PartSpells (List ℕ) (has n1 0x08) (IsPartOf 16)) _ _ _ (when_texts (IsPartOf 16) (has n1 0x08) (block 16) (block_texts 16)) (λ class_id t2 b.
    then_texts (SpellsGroup (has n 0x20)) _ _ _ (group_texts (has n 0x20)) (λ g t3 c.
    then_texts (SpellsIds (has n 0x40) (has n2 0x01)) _ _ _ (ids_texts (has n 0x40) (has n2 0x01) listed) (λ ids t4 d.
    then_texts (λ told line. SpellsExtras n1 n2 line) _ _ _ (extras_texts n1 n2) (λ passed t5 e.
    last_texts (PartSpells SecurityValue (has n1 0x10) SpellsSecurity) _ _ _ (when_texts SpellsSecurity (has n1 0x10) security_header security_texts) (λ security t6 f.
    let publisher = publisher_if (n1 % 8) id t1 a.spells in
    let guid = guid_text class_id t2 b.spells in
    let secured = security_if security t6 f.spells in
    record {
      publisher = publisher.wire;
      class_id = class_id;
      group = c.group;
      ids = d.wire;
      timestamp = e.timestamp;
      picoseconds = e.picoseconds;
      promoted = e.promoted;
      security = secured.wire;
      has_publisher = publisher.there ∙ a.flagged;
      has_group = c.flagged;
      has_list = d.is_there;
      has_class = b.flagged;
      has_security = secured.there ∙ f.flagged;
      has_timestamp = e.has_timestamp;
      has_picoseconds = e.has_picoseconds;
      chunk_is = d.chunk_is;
      has_promoted = e.has_promoted;
      publisher_is = publisher.is_wire;
      class_is = guid.0;
      group_is = c.is_wire;
      ids_are_wire = d.are_wire;
      timestamp_is = e.timestamp_is;
      picoseconds_is = e.picoseconds_is;
      promoted_is = e.promoted_is;
      security_is = secured.is_wire;
      meaning = ap (λ (o : Option PublisherValue). header_of o class_id (group_read c.group) (ids_read d.wire) (if_there security_read secured.wire)) publisher.meaning
          ∙ ap (λ (g : GroupValue). header_of id class_id g (ids_read d.wire) (if_there security_read secured.wire)) c.meaning
          ∙ ap (λ (ids : IdsValue). header_of id class_id g ids (if_there security_read secured.wire)) d.meaning
          ∙ ap (header_of id class_id g ids) secured.meaning;
      split = joined_six publisher.split guid.1 c.split d.split e.split secured.split;
    }))))))

-- ---- a header

record SpellsHeader (h : HeaderValue) (line : List ℕ) : Type 0 where
  wire : WireHeader
  is_wire : IsWireHeader wire
  meaning : header_read wire ≡ h
  split : line ≡ wire_bytes wire

-- the flags bytes, as the parts have them
record Sums (wire : WireHeader) (n n1 n2 : ℕ) : Type 0 where
  first : n ≡ flags wire
  second : n1 ≡ extended1 wire
  third : n2 ≡ extended2 wire

-- the header of these parts
wire_of : (n n1 n2 : ℕ) (h : HeaderValue) (line : List ℕ) → SpellsParts n n1 n2 h line → WireHeader
wire_of n n1 n2 h line p = record {
  has_extended1 = has n 0x80;
  has_extended2 = has n1 0x80;
  id_type = n1 % 8;
  publisher = p.publisher;
  class_id = p.class_id;
  group = p.group;
  ids = p.ids;
  timestamp = p.timestamp;
  picoseconds = p.picoseconds;
  promoted = p.promoted;
  security = p.security;
}

-- no payload header and no chunk
chunk_flag : (n n2 : ℕ) (ids : WireIds) → has_ids ids ≡ has n 0x40 → (has n 0x40 ≡ true → is_chunk ids ≡ has n2 0x01) → (has n2 0x01 ≡ true → has n 0x40 ≡ true) → is_chunk ids ≡ has n2 0x01
chunk_flag n n2 ids there chunk listed = by_flag (has n 0x40) (has n2 0x01) ids there chunk listed
  where
    by_flag : (listed chunk : Bool) (ids : WireIds) → has_ids ids ≡ listed → (listed ≡ true → is_chunk ids ≡ chunk) → (chunk ≡ true → listed ≡ true) → is_chunk ids ≡ chunk
    by_flag true chunk ids there is listed = is refl
    by_flag false false NoPayloadHeader there is listed = refl
    by_flag false false (Listed ids) there is listed = refl
    by_flag false false (OfChunk id) there is listed = absurd cc
    by_flag false true ids there is listed = absurd (let no : Path Bool false true = listed refl in cc)

sums : (n n1 n2 : ℕ) (h : HeaderValue) (line : List ℕ) (p : SpellsParts n n1 n2 h line) → n < 256 → flags_fault n ≡ None → n1 < 256 → IsExtended2 n n2 → Sums (wire_of n n1 n2 h line p) n n1 n2
unfolding wire_of
sums n n1 n2 h line p small passes small1 two = record {
  first = flags-sum n small passes ∙ (let a = p.has_publisher in let b = p.has_group in let c = p.has_list in rw (← a, ← b, ← c) refl);
  second = extended1-sum n1 small1 ∙ (let a = p.has_class in let b = p.has_security in let c = p.has_timestamp in let d = p.has_picoseconds in rw (← a, ← b, ← c, ← d) refl);
  third = two.sum ∙ (let a = chunk_flag n n2 p.ids p.has_list p.chunk_is two.listed in let b = p.has_promoted in rw (← a, ← b) refl);
}

is_wire_of : (n n1 n2 : ℕ) (h : HeaderValue) (line : List ℕ) (p : SpellsParts n n1 n2 h line) → Sums (wire_of n n1 n2 h line p) n n1 n2 → n1 % 8 ≤ 4 → (has n 0x80 ≡ false → n1 ≡ 0) → (has n1 0x80 ≡ false → n2 ≡ 0)
    → IsWireHeader (wire_of n n1 n2 h line p)
unfolding wire_of
is_wire_of n n1 n2 h line p sums typed zero1 zero2 = record {
  no_extended1 = λ none. sym sums.second ∙ zero1 none;
  no_extended2 = λ none. sym sums.third ∙ zero2 none;
  id_type = typed;
  type_is = types_are (n1 % 8) p.publisher p.publisher_is;
  publisher = ids_are (n1 % 8) p.publisher p.publisher_is;
  class_id = p.class_is;
  group = p.group_is;
  ids = p.ids_are_wire;
  timestamp = p.timestamp_is;
  picoseconds = p.picoseconds_is;
  promoted = p.promoted_is;
  security = p.security_is;
}

whole_header : (n n1 n2 : ℕ) (h : HeaderValue) (t0 t1 t2 t3 : List ℕ) → SpellsByte flags_fault n t0 → SpellsByteIf (has n 0x80) extended1_fault n1 t1 → SpellsByteIf (has n1 0x80) (extended2_fault n) n2 t2
    → n1 % 8 ≤ 4 → IsExtended2 n n2 → SpellsParts n n1 n2 h t3 → SpellsHeader h (t0 ++ (t1 ++ (t2 ++ t3)))
unfolding wire_of
whole_header n n1 n2 h t0 t1 t2 t3 a b c typed two p =
    let wire = wire_of n n1 n2 h t3 p in
    let sum = sums n n1 n2 h t3 p a.is_byte a.passes b.is_byte two in
    record {
      wire = wire;
      is_wire = is_wire_of n n1 n2 h t3 p sum typed b.zero c.zero;
      meaning = p.meaning;
      split = ap (λ (l : List ℕ). l ++ (t1 ++ (t2 ++ t3))) (a.split ∙ ap (λ (k : ℕ). k ∷ []) sum.first)
          ∙ ap (λ (l : List ℕ). (flags wire ∷ []) ++ (l ++ (t2 ++ t3))) (b.split ∙ ap (byte_if (has n 0x80)) sum.second)
          ∙ ap (λ (l : List ℕ). (flags wire ∷ []) ++ (byte_if (has n 0x80) (extended1 wire) ++ (l ++ t3))) (c.split ∙ ap (byte_if (has n1 0x80)) sum.third)
          ∙ ap (λ (l : List ℕ). (flags wire ∷ []) ++ (byte_if (has n 0x80) (extended1 wire) ++ (byte_if (has n1 0x80) (extended2 wire) ++ l))) p.split
          ∙ sym (wire_order wire);
    }

-- a flags byte that isn't there is 0, which tells nothing
type_most : (n n1 : ℕ) (line : List ℕ) → SpellsByteIf (has n 0x80) extended1_fault n1 line → n1 % 8 ≤ 4
type_most n n1 line is = by_flag (has n 0x80) refl
  where
    by_flag : (b : Bool) → has n 0x80 ≡ b → n1 % 8 ≤ 4
    by_flag true there = extended1-type n1 (is.passes there)
    by_flag false none = let zero : n1 ≡ 0 = is.zero none in omega (arith, zero)

second_is : (n n1 n2 : ℕ) (line : List ℕ) → SpellsByteIf (has n1 0x80) (extended2_fault n) n2 line → IsExtended2 n n2
second_is n n1 n2 line is = by_flag (has n1 0x80) refl
  where
    nothing : IsExtended2 n 0
    nothing = record { sum = refl; listed = λ chunk. absurd (let no : Path Bool false true = chunk in cc) }

    by_flag : (b : Bool) → has n1 0x80 ≡ b → IsExtended2 n n2
    by_flag true there = extended2-sum n n2 is.is_byte (is.passes there)
    by_flag false none = subst (IsExtended2 n) (sym (is.zero none)) nothing

header_texts : Texts SpellsHeader header
unfolding header
header_texts =
    then_texts (SpellsByte flags_fault) SpellsHeader _ _ (byte_texts flags_fault) (λ n t0 a.
    then_texts (SpellsByteIf (has n 0x80) extended1_fault) _ _ _ (byte_when_texts (has n 0x80) extended1_fault) (λ n1 t1 b.
    then_texts (SpellsByteIf (has n1 0x80) (extended2_fault n)) _ _ _ (byte_when_texts (has n1 0x80) (extended2_fault n)) (λ n2 t2 c.
    let typed = type_most n n1 t1 b in
    let two = second_is n n1 n2 t2 c in
    more_texts (SpellsParts n n1 n2) (λ h t3. SpellsHeader h (t0 ++ (t1 ++ (t2 ++ t3)))) (parts n n1 n2) (λ h t3 p. whole_header n n1 n2 h t0 t1 t2 t3 a b c typed two p) (parts_texts n n1 n2 typed two.listed))))

pub wire-back : (bytes rest : List ℕ) (h : HeaderValue) → AreBytes bytes → header_at bytes ≡ Ok (h, rest) → BeginsWithHeader bytes h rest
unfolding header_at
wire-back bytes rest h are e =
    let is = texts-read SpellsHeader header bytes h rest header_texts are e in
    record { wire = is.has.wire; is_wire = is.has.is_wire; meaning = is.has.meaning; split = is.split ∙ ap (λ (l : List ℕ). l ++ rest) is.has.split }

pub wire-spelled : (bytes rest : List ℕ) (h : HeaderValue) → AreBytes bytes → (header_at bytes ≡ Ok (h, rest)) ↔ BeginsWithHeader bytes h rest
wire-spelled bytes rest h are = (
  wire-back bytes rest h are,
  λ is. ap header_at is.split ∙ wire_again is.wire rest is.is_wire ∙ ap (λ (told : HeaderValue). Ok (told, rest)) is.meaning,
)
