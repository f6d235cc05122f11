-- The text of a value.
use Rattle.std.specs.Prelude.{ℕ, ◌/◌, ◌%◌, ◌==◌, Bool, true, ◌&&◌, not, nat_le, List, [], ◌∷◌, ◌++◌, codes, flat_map, if◌then◌else◌}
use Rattle.std.specs.Fmt.{decimal, signed_decimal, digit_glyph}
use Rattle.std.specs.Int.{to_be_bytes, w32, w64}
use Rattle.hex.specs.Hex.{encode_lower}
use Rattle.uuid.specs.Parts.{swap_fields}
use Rattle.uuid.specs.Text.{hyphenated_text, lower}
use Rattle.ua_values.specs.declared.value.Value.{Value}
use Rattle.ua_values.specs.declared.value.Value.TheVariants as values

-- from `!` to `~`, without `%`
abbrev pub is_plain : ℕ → Bool
is_plain byte = nat_le 33 byte && (nat_le byte 126 && not (byte == 37))

-- two upper-case digits
abbrev pub digits_of : ℕ → List ℕ
digits_of byte = digit_glyph true (byte / 16) ∷ digit_glyph true (byte % 16) ∷ []

-- `%` and two upper-case digits
abbrev pub escape : ℕ → List ℕ
escape byte = 37 ∷ digits_of byte

abbrev pub byte_text : ℕ → List ℕ
byte_text byte = if is_plain byte then byte ∷ [] else escape byte

abbrev pub truth_text : Bool → List ℕ
truth_text b = if b then codes "true" else codes "false"

-- `0x` and two lower-case digits for each byte
abbrev pub hex_text : List ℕ → List ℕ
hex_text bytes = codes "0x" ++ encode_lower bytes

-- `0x` and 8 digits, of a StatusCode and of a Float's bits; the first digit weighs most
abbrev pub hex_text_32 : ℕ → List ℕ
hex_text_32 bits = hex_text (to_be_bytes w32 bits)

-- `0x` and 16 digits, of a Double's bits
abbrev pub hex_text_64 : ℕ → List ℕ
hex_text_64 bits = hex_text (to_be_bytes w64 bits)

-- a Guid's fields in lower case with hyphens; on the wire its first three fields are little-endian
-- (OPC 10000-6 section 5.2.2.6)
abbrev pub guid_text : List ℕ → List ℕ
guid_text bytes = hyphenated_text lower (swap_fields bytes)

unfoldable pub value_text_of : Value → List ℕ
value_text_of (values.Boolean b) = truth_text b
value_text_of (values.SByte n) = signed_decimal n
value_text_of (values.Byte n) = decimal n
value_text_of (values.Int16 n) = signed_decimal n
value_text_of (values.UInt16 n) = decimal n
value_text_of (values.Int32 n) = signed_decimal n
value_text_of (values.UInt32 n) = decimal n
value_text_of (values.Int64 n) = signed_decimal n
value_text_of (values.UInt64 n) = decimal n
value_text_of (values.Float bits) = hex_text_32 bits
value_text_of (values.Double bits) = hex_text_64 bits
value_text_of (values.String text) = flat_map byte_text text
value_text_of (values.DateTime steps) = signed_decimal steps
value_text_of (values.Guid bytes) = guid_text bytes
value_text_of (values.ByteString bytes) = hex_text bytes
value_text_of (values.StatusCode code) = hex_text_32 code
