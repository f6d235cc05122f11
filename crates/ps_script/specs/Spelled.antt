-- What a word says, computed: a candidate by the kind, kept where it may stand in the field and the word is a text of it.
use Rattle.std.specs.Prelude.{ℕ, zero, suc, ◌+◌, ◌*◌, ◌^◌, ◌==◌, ℤ, pos, negsuc, neg_ℤ, Bool, true, ◌&&◌, nat_lt, nat_le, List, [], ◌∷◌, length, take, drop, slice_index, codes, Option, Some, None, Result, Ok, Err, if◌then◌else◌}
use Rattle.std.specs.Char.{digit_value}
use Rattle.std.specs.Int.{w32, w64, from_be_bytes}
use Rattle.std.specs.List.{list_all}
use Rattle.std.specs.Option.{unwrap_or}
use Rattle.std.specs.Str.{bytes_eq, is_utf8}
use Rattle.std.specs.Str.Parse.{digits_value}
use Rattle.hex.specs.Hex.{decode_of}
use Rattle.uuid.specs.Parts.{swap_fields}
use Rattle.uuid.specs.Text.{parsed}
use Rattle.ua_values.specs.declared.kind.Kind.{Kind}
use Rattle.ua_values.specs.declared.kind.Kind.TheVariants as kinds
use Rattle.ua_values.specs.declared.value.Value.{Value}
use Rattle.ua_values.specs.declared.value.Value.TheVariants as values
use Rattle.ua_values.specs.Values.{size_of}
use Rattle.value_texts.specs.Texts.{is_plain, escape, value_text_of}

-- the number of a text with or without a `-`
abbrev pub signed_number : List ℕ → ℤ
signed_number word =
    if slice_index word 0 == 45 then neg_ℤ (pos (digits_value 10 (drop 1 word))) else pos (digits_value 10 word)

abbrev pub decoded_or_none : {E : Type 0} → Result (List ℕ) E → List ℕ
decoded_or_none (Ok bytes) = bytes
decoded_or_none (Err e) = []

-- the bytes whose digits stand after `0x`
abbrev pub bytes_behind : List ℕ → List ℕ
bytes_behind word = decoded_or_none (decode_of (drop 2 word))

abbrev pub escaped_byte : List ℕ → ℕ
escaped_byte digits = digit_value (slice_index digits 0) * 16 + digit_value (slice_index digits 1)

-- `%` and two digits stand for a byte, and every other byte for itself
abbrev pub is_escaped : ℕ → Bool
is_escaped byte = byte == 37

-- the text that a word spells after its first so many bytes
abbrev pub text_after : ℕ → List ℕ → List ℕ
text_after skipped [] = []
text_after zero (byte ∷ rest) =
    (if is_escaped byte then escaped_byte rest else byte) ∷ text_after (if is_escaped byte then 2 else 0) rest
text_after (suc skipped) (byte ∷ rest) = text_after skipped rest

-- the one value of the kind of which the word may be a text
abbrev pub candidate : Kind → List ℕ → Value
candidate kinds.Boolean word = values.Boolean (bytes_eq word (codes "true"))
candidate kinds.SByte word = values.SByte (signed_number word)
candidate kinds.Byte word = values.Byte (digits_value 10 word)
candidate kinds.Int16 word = values.Int16 (signed_number word)
candidate kinds.UInt16 word = values.UInt16 (digits_value 10 word)
candidate kinds.Int32 word = values.Int32 (signed_number word)
candidate kinds.UInt32 word = values.UInt32 (digits_value 10 word)
candidate kinds.Int64 word = values.Int64 (signed_number word)
candidate kinds.UInt64 word = values.UInt64 (digits_value 10 word)
candidate kinds.Float word = values.Float (from_be_bytes w32 (bytes_behind word))
candidate kinds.Double word = values.Double (from_be_bytes w64 (bytes_behind word))
candidate kinds.String word = values.String (text_after 0 word)
candidate kinds.DateTime word = values.DateTime (signed_number word)
candidate kinds.Guid word = values.Guid (swap_fields (unwrap_or (parsed word) []))
candidate kinds.ByteString word = values.ByteString (bytes_behind word)
candidate kinds.StatusCode word = values.StatusCode (from_be_bytes w32 (bytes_behind word))

abbrev pub are_bytes : List ℕ → Bool
are_bytes bytes = list_all (λ byte. nat_lt byte 256) bytes

abbrev pub is_short : List ℕ → Bool
is_short bytes = nat_le (length bytes) 256 && are_bytes bytes

-- from -limit to limit - 1
abbrev pub is_below : ℕ → ℤ → Bool
is_below limit (pos n) = nat_lt n limit
is_below limit (negsuc n) = nat_lt n limit

-- `IsValue` as a test
abbrev pub is_value : Value → Bool
is_value (values.Boolean b) = true
is_value (values.SByte n) = is_below (2 ^ 7) n
is_value (values.Byte n) = nat_lt n (2 ^ 8)
is_value (values.Int16 n) = is_below (2 ^ 15) n
is_value (values.UInt16 n) = nat_lt n (2 ^ 16)
is_value (values.Int32 n) = is_below (2 ^ 31) n
is_value (values.UInt32 n) = nat_lt n (2 ^ 32)
is_value (values.Int64 n) = is_below (2 ^ 63) n
is_value (values.UInt64 n) = nat_lt n (2 ^ 64)
is_value (values.Float bits) = nat_lt bits (2 ^ 32)
is_value (values.Double bits) = nat_lt bits (2 ^ 64)
is_value (values.String text) = is_short text && is_utf8 text
is_value (values.DateTime steps) = is_below (2 ^ 63) steps
is_value (values.Guid bytes) = (length bytes == 16) && are_bytes bytes
is_value (values.ByteString bytes) = is_short bytes
is_value (values.StatusCode code) = nat_lt code (2 ^ 32)

-- the first byte that a word spells is this one
abbrev pub begins_with : List ℕ → ℕ → Bool
begins_with word byte =
    if is_escaped (slice_index word 0) then nat_lt byte 256 && bytes_eq (take 3 word) (escape byte)
    else is_plain byte && bytes_eq (take 1 word) (byte ∷ [])

-- what follows the first byte that a word spells
abbrev pub behind_first : List ℕ → List ℕ
behind_first word = drop (if is_escaped (slice_index word 0) then 3 else 1) word

-- `Spells` as a test
abbrev pub spells : List ℕ → List ℕ → Bool
spells word [] = bytes_eq word []
spells word (byte ∷ text) = begins_with word byte && spells (behind_first word) text

-- `IsTextOf` as a test
abbrev pub is_text_of : List ℕ → Value → Bool
is_text_of word (values.String text) = spells word text
is_text_of word value = bytes_eq word (value_text_of value)

abbrev pub may_be_said : ℕ → List ℕ → Value → Bool
may_be_said cap word value = nat_le (size_of value) cap && (is_value value && is_text_of word value)

-- the value of this kind that may stand in a field of this cap, and of which the word is a text
abbrev pub value_spelled : Kind → ℕ → List ℕ → Option Value
value_spelled kind cap word =
    if may_be_said cap word (candidate kind word) then Some (candidate kind word) else None
