-- Each text is ASCII.
use Rattle.std.proofs.Common.{◌≡◌, ℕ, ◌/◌, ◌%◌, ◌^◌, ◌<◌, Bool, true, false, List, [], ◌∷◌, nat_lt, refl, sym, subst, inl, inr, arith}
use Rattle.std.specs.Fmt.{digit_glyph}
use Rattle.std.specs.List.{list_all}
use Rattle.std.specs.Str.{IsAscii}
use Rattle.std.proofs.lemmas.Bool.{and_parts}
use Rattle.std.proofs.lemmas.Bool.Decides.{nat_tests}
use Rattle.std.proofs.lemmas.Fmt.{IsAscii-decimal, IsAscii-signed}
use Rattle.std.proofs.lemmas.Str.{IsAscii-append}
use Rattle.std.proofs.lemmas.Str.Ascii.{IsAscii-nil, IsAscii-cons}
use Rattle.std.specs.Int.{w8, w16, w32}
use Rattle.std.specs.Int.RustNames.{FitsSigned}
use Rattle.hex.specs.Hex.{encode_lower, lower_digits}
use Rattle.hex.proofs.HexLemmas.{IsAscii-encode_with}
use Rattle.uuid.specs.Parts.{swap_fields}
use Rattle.uuid.specs.Text.{lower}
use Rattle.uuid.proofs.TextLemmas.{hyphenated_ascii}
use lib.Signed.{mag}
use Rattle.ua_values.specs.declared.value.Value.{Value}
use Rattle.ua_values.specs.declared.value.Value.TheVariants as values
use Rattle.ua_values.specs.Values.{IsValue}
use Rattle.value_texts.specs.Texts.{is_plain, digits_of, escape, truth_text, hex_text, value_text_of}
use Rattle.value_texts.specs.Spelling.{BeginsWith, Spells, IsTextOf}
use Rattle.value_texts.proofs.TextLaws.{printed_is_text}

-- ---- the words of a String

glyph_ascii : (digit : ℕ) → digit < 16 → digit_glyph true digit < 128
glyph_ascii digit small = grind (arith, nat_tests)

plain_ascii : (byte : ℕ) → is_plain byte ≡ true → byte < 128
plain_ascii byte plain = grind (arith, nat_tests)

escape_ascii : (byte : ℕ) → byte < 256 → IsAscii (escape byte)
escape_ascii byte small =
    let high : byte / 16 < 16 = omega arith in
    let low : byte % 16 < 16 = omega arith in
    IsAscii-cons 37 (digits_of byte) (omega arith)
    (IsAscii-cons (digit_glyph true (byte / 16)) (digit_glyph true (byte % 16) ∷ []) (glyph_ascii (byte / 16) high)
    (IsAscii-cons (digit_glyph true (byte % 16)) [] (glyph_ascii (byte % 16) low) IsAscii-nil))

begun_ascii : (word : List ℕ) (byte : ℕ) (rest : List ℕ) → BeginsWith word byte rest → IsAscii rest → IsAscii word
begun_ascii word byte rest (inl plain) ascii = subst IsAscii (sym plain.1) (IsAscii-cons byte rest (plain_ascii byte plain.0) ascii)
begun_ascii word byte rest (inr escaped) ascii =
    subst IsAscii (sym escaped.1) (IsAscii-append (escape byte) rest (escape_ascii byte escaped.0) ascii)

spelled_ascii : (word text : List ℕ) → Spells word text → IsAscii word
spelled_ascii word [] is = subst IsAscii (sym is) IsAscii-nil
spelled_ascii word (byte ∷ text) is = begun_ascii word byte is.0 is.1.0 (spelled_ascii is.0 text is.1.1)

-- ---- the texts of other values

small_ascii : (bytes : List ℕ) → list_all (λ byte. nat_lt byte 128) bytes ≡ true → IsAscii bytes
small_ascii [] small = IsAscii-nil
small_ascii (byte ∷ bytes) small =
    let parts = and_parts (nat_lt byte 128) (list_all (λ other. nat_lt other 128) bytes) small in
    IsAscii-cons byte bytes (grind (arith, nat_tests, parts.0)) (small_ascii bytes parts.1)

truth_ascii : (b : Bool) → IsAscii (truth_text b)
truth_ascii true = small_ascii (truth_text true) refl
truth_ascii false = small_ascii (truth_text false) refl

pub hex_ascii : (bytes : List ℕ) → IsAscii (hex_text bytes)
hex_ascii bytes = IsAscii-cons 48 (120 ∷ encode_lower bytes) (omega arith) (IsAscii-cons 120 (encode_lower bytes) (omega arith) (IsAscii-encode_with lower_digits bytes (small_ascii lower_digits refl)))

pub text_ascii : (word : List ℕ) (value : Value) → IsValue value → IsTextOf word value → IsAscii word
unfolding value_text_of
text_ascii word (values.Boolean b) valid is = subst IsAscii (sym is) (truth_ascii b)
text_ascii word (values.SByte n) valid is = let fits : FitsSigned w8 n = valid in let low : mag n < 2 ^ 7 = fits.sfits in subst IsAscii (sym is) (IsAscii-signed n (omega arith))
text_ascii word (values.Byte n) valid is = let low : n < 2 ^ 8 = valid in subst IsAscii (sym is) (IsAscii-decimal n (omega arith))
text_ascii word (values.Int16 n) valid is = let fits : FitsSigned w16 n = valid in let low : mag n < 2 ^ 15 = fits.sfits in subst IsAscii (sym is) (IsAscii-signed n (omega arith))
text_ascii word (values.UInt16 n) valid is = let low : n < 2 ^ 16 = valid in subst IsAscii (sym is) (IsAscii-decimal n (omega arith))
text_ascii word (values.Int32 n) valid is = let fits : FitsSigned w32 n = valid in let low : mag n < 2 ^ 31 = fits.sfits in subst IsAscii (sym is) (IsAscii-signed n (omega arith))
text_ascii word (values.UInt32 n) valid is = let low : n < 2 ^ 32 = valid in subst IsAscii (sym is) (IsAscii-decimal n (omega arith))
text_ascii word (values.Int64 n) valid is = subst IsAscii (sym is) (IsAscii-signed n valid.sfits)
text_ascii word (values.UInt64 n) valid is = subst IsAscii (sym is) (IsAscii-decimal n valid)
text_ascii word (values.Float bits) valid is = subst IsAscii (sym is) (hex_ascii _)
text_ascii word (values.Double bits) valid is = subst IsAscii (sym is) (hex_ascii _)
text_ascii word (values.String text) valid is = spelled_ascii word text is
text_ascii word (values.DateTime steps) valid is = subst IsAscii (sym is) (IsAscii-signed steps valid.sfits)
text_ascii word (values.Guid bytes) valid is = subst IsAscii (sym is) (hyphenated_ascii lower (swap_fields bytes) (inl refl))
text_ascii word (values.ByteString bytes) valid is = subst IsAscii (sym is) (hex_ascii bytes)
text_ascii word (values.StatusCode code) valid is = subst IsAscii (sym is) (hex_ascii _)

pub printed_ascii : (value : Value) → IsValue value → IsAscii (value_text_of value)
printed_ascii value valid = text_ascii (value_text_of value) value valid (printed_is_text value valid)
