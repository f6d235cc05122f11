-- A value's text has neither a space nor a line feed, so what follows it ends it.
use Rattle.std.proofs.Common.{◌≡◌, ℕ, zero, suc, ◌/◌, ◌%◌, ◌<◌, Bool, true, false, List, [], ◌∷◌, ◌++◌, length, get_or, refl, subst, arith}
use Rattle.std.specs.Prelude.{cond, ℤ, pos, negsuc}
use Rattle.std.specs.Fmt.{digit_glyph, decimal, signed_decimal}
use Rattle.std.specs.Int.{w32, w64, to_be_bytes}
use Rattle.std.specs.List.{list_all, flat_map, All, AllByRecursion}
use Rattle.std.proofs.lemmas.Bool.Decides.{nat_tests}
use Rattle.std.proofs.lemmas.List.Elements.{recursion_from_All}
use Rattle.hex.specs.Hex.{encode_with, lower_digits}
use Rattle.uuid.specs.Parts.{swap_fields}
use Rattle.uuid.specs.Text.{by_index, hex_digit, hyphenated_text, lower, nibble, digit_place, is_hyphen_place}
use Rattle.ua_values.specs.declared.value.Value.{Value}
use Rattle.ua_values.specs.declared.value.Value.TheVariants as values
use Rattle.ua_values.specs.Values.{kind_of, IsValue}
use Rattle.value_texts.specs.Texts.{is_plain, escape, byte_text, truth_text, hex_text, value_text_of}
use Rattle.value_texts.proofs.TextLaws.{small_32, small_64, printed_is_text, text_once}
use Rattle.value_texts.specs.Spelling.{IsTextOf}
use Rattle.std.specs.Char.{is_ascii_digit}
use Rattle.report_laws.proofs.Cutting.{Stops, cut, is_visible, digit_visible, all_weaker, all_join}
use Rattle.report_laws.proofs.Entries.{decimal_digits}

pub decimal_visible : (n : ℕ) → list_all is_visible (decimal n) ≡ true
decimal_visible n = all_weaker is_ascii_digit is_visible digit_visible (decimal n) (decimal_digits n)

read_visible : (table : List ℕ) (k : ℕ) → list_all is_visible table ≡ true → k < length table → is_visible (get_or table k 0) ≡ true
read_visible [] k all inside = absurd (omega arith)
read_visible (byte ∷ table) zero all inside = grind (arith, nat_tests)
read_visible (byte ∷ table) (suc k) all inside = read_visible table k (grind (arith, nat_tests)) (omega arith)

encoded_visible : (bytes : List ℕ) → AllByRecursion (λ byte. byte < 256) bytes → list_all is_visible (encode_with lower_digits bytes) ≡ true
unfolding encode_with
encoded_visible [] small = refl
encoded_visible (byte ∷ bytes) small =
    let high : byte / 16 < 16 = let h : byte < 256 = small.0 in omega arith in
    let low : byte % 16 < 16 = omega arith in
    let one : is_visible (get_or lower_digits (byte / 16) 0) ≡ true = read_visible lower_digits (byte / 16) refl high in
    let two : is_visible (get_or lower_digits (byte % 16) 0) ≡ true = read_visible lower_digits (byte % 16) refl low in
    rw one (rw two (encoded_visible bytes small.1))

hex_visible : (bytes : List ℕ) → All (λ byte. byte < 256) bytes → list_all is_visible (hex_text bytes) ≡ true
hex_visible bytes small = encoded_visible bytes (recursion_from_All (λ byte. byte < 256) bytes small)

-- ---- Guids

indexed_visible : (n : ℕ) (f : ℕ → ℕ) → ((k : ℕ) → is_visible (f k) ≡ true) → list_all is_visible (by_index n f) ≡ true
unfolding by_index
indexed_visible zero f all = refl
indexed_visible (suc n) f all = all_join is_visible (by_index n f) (f n ∷ []) (indexed_visible n f all) (rw (all n) refl)

digit_seen : (d : ℕ) → is_visible (hex_digit lower d) ≡ true
digit_seen d = grind (arith, nat_tests)

guid_visible : (bytes : List ℕ) → list_all is_visible (hyphenated_text lower bytes) ≡ true
guid_visible bytes = indexed_visible 36 _ (λ k. either (is_hyphen_place k) (hex_digit lower (nibble bytes (digit_place k))) (digit_seen (nibble bytes (digit_place k))))
  where
    either : (b : Bool) (n : ℕ) → is_visible n ≡ true → is_visible (cond b 45 n) ≡ true
    either true n is = refl
    either false n is = is

-- ---- Strings

glyph_visible : (d : ℕ) → is_visible (digit_glyph true d) ≡ true
glyph_visible d = grind (arith, nat_tests)

escape_visible : (byte : ℕ) → list_all is_visible (escape byte) ≡ true
escape_visible byte = rw (glyph_visible (byte / 16)) (rw (glyph_visible (byte % 16)) refl)

plain_visible : (byte : ℕ) → is_plain byte ≡ true → is_visible byte ≡ true
plain_visible byte plain = grind (arith, nat_tests)

byte_visible : (byte : ℕ) → list_all is_visible (byte_text byte) ≡ true
byte_visible byte = go (is_plain byte) refl
  where
    go : (plain : Bool) → is_plain byte ≡ plain → list_all is_visible (cond plain (byte ∷ []) (escape byte)) ≡ true
    go true is = rw (plain_visible byte is) refl
    go false is = escape_visible byte

text_visible : (text : List ℕ) → list_all is_visible (flat_map byte_text text) ≡ true
text_visible [] = refl
text_visible (byte ∷ text) = all_join is_visible (byte_text byte) (flat_map byte_text text) (byte_visible byte) (text_visible text)

-- ---- all

truth_visible : (b : Bool) → list_all is_visible (truth_text b) ≡ true
truth_visible true = refl
truth_visible false = refl

signed_visible : (z : ℤ) → list_all is_visible (signed_decimal z) ≡ true
signed_visible (pos n) = decimal_visible n
signed_visible (negsuc n) = decimal_visible (suc n)

pub value_visible : (value : Value) → IsValue value → list_all is_visible (value_text_of value) ≡ true
unfolding value_text_of
value_visible (values.Boolean b) is = truth_visible b
value_visible (values.SByte n) is = signed_visible n
value_visible (values.Byte n) is = decimal_visible n
value_visible (values.Int16 n) is = signed_visible n
value_visible (values.UInt16 n) is = decimal_visible n
value_visible (values.Int32 n) is = signed_visible n
value_visible (values.UInt32 n) is = decimal_visible n
value_visible (values.Int64 n) is = signed_visible n
value_visible (values.UInt64 n) is = decimal_visible n
value_visible (values.Float bits) is = hex_visible (to_be_bytes w32 bits) (small_32 bits)
value_visible (values.Double bits) is = hex_visible (to_be_bytes w64 bits) (small_64 bits)
value_visible (values.String text) is = text_visible text
value_visible (values.DateTime steps) is = signed_visible steps
value_visible (values.Guid bytes) is = guid_visible (swap_fields bytes)
value_visible (values.ByteString bytes) is = hex_visible bytes is.in_range
value_visible (values.StatusCode code) is = hex_visible (to_be_bytes w32 code) (small_32 code)

-- the text of a value of a kind, where a space or a line feed follows
pub value_cut : (one other : Value) (s t : List ℕ) → IsValue one → IsValue other → kind_of one ≡ kind_of other → Stops is_visible s → Stops is_visible t
    → value_text_of one ++ s ≡ value_text_of other ++ t → (one ≡ other) × (s ≡ t)
value_cut one other s t is_one is_other kinds end_s end_t same =
    let parts = cut is_visible (value_text_of one) (value_text_of other) s t (value_visible one is_one) (value_visible other is_other) end_s end_t same in
    (text_once (value_text_of other) one other is_one is_other kinds (subst (λ word. IsTextOf word one) parts.0 (printed_is_text one is_one)) (printed_is_text other is_other), parts.1)
