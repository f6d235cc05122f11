-- Publishers, class ids and hexadecimal digits, as they are spelled.
use Rattle.std.specs.Prelude.{ℕ, ◌+◌, ◌==◌, Bool, false, ◌&&◌, not, nat_le, List, [], ◌∷◌, map, length, take, drop, slice_index, codes, replicate, Option, Some, None, option_map, option_and_then, Result, Ok, Err, if◌then◌else◌}
use Rattle.std.specs.Char.{is_ascii_uppercase}
use Rattle.std.specs.Fmt.{decimal}
use Rattle.std.specs.List.{list_all}
use Rattle.std.specs.Option.{option_or}
use Rattle.std.specs.Str.{bytes_eq}
use Rattle.std.specs.Str.Parse.{digits_value}
use Rattle.hex.specs.Hex.{decode_sized}
use Rattle.uuid.specs.Text.{parsed}
use Rattle.ua_values.specs.Texts.{text_of}
use Rattle.config_tables.specs.declared.publisher.Publisher.{Publisher}
use Rattle.config_tables.specs.declared.publisher.Publisher.TheVariants as publisher

-- what follows a word
abbrev pub after : List ℕ → List ℕ → Option (List ℕ)
after word text = if bytes_eq (take (length word) text) word then Some (drop (length word) text) else None

-- the number of at most `most` whose one decimal text this is
abbrev pub number_spelled : ℕ → List ℕ → Option ℕ
number_spelled most digits =
    let n = digits_value 10 digits in
    if nat_le n most && bytes_eq digits (decimal n) then Some n else None

abbrev pub number_after : List ℕ → ℕ → List ℕ → Option ℕ
number_after word most text = option_and_then (number_spelled most) (after word text)

abbrev pub is_printable : ℕ → Bool
is_printable byte = nat_le 33 byte && nat_le byte 126

-- 1 to 64 printable bytes
abbrev pub is_id : List ℕ → Bool
is_id text = nat_le 1 (length text) && (nat_le (length text) 64 && list_all is_printable text)

abbrev pub if_ok : {T E : Type 0} → Result T E → Option T
if_ok (Ok x) = Some x
if_ok (Err e) = None

abbrev pub id_spelled : List ℕ → Option (List ℕ)
id_spelled text = if is_id text then if_ok (text_of text) else None

-- `u8:N`, `u16:N`, `u32:N`, `u64:N` or `text:T`
abbrev pub publisher_named : List ℕ → Option Publisher
publisher_named text =
    option_or (option_map publisher.U8 (number_after (codes "u8:") 255 text))
    (option_or (option_map publisher.U16 (number_after (codes "u16:") 65535 text))
    (option_or (option_map publisher.U32 (number_after (codes "u32:") 4294967295 text))
    (option_or (option_map publisher.U64 (number_after (codes "u64:") 18446744073709551615 text))
    (option_map publisher.Text (option_and_then id_spelled (after (codes "text:") text))))))

-- both are one publisher: the same type of id, and the same id
abbrev pub is_same_publisher : Publisher → Publisher → Bool
is_same_publisher (publisher.U8 id) (publisher.U8 other) = id == other
is_same_publisher (publisher.U16 id) (publisher.U16 other) = id == other
is_same_publisher (publisher.U32 id) (publisher.U32 other) = id == other
is_same_publisher (publisher.U64 id) (publisher.U64 other) = id == other
is_same_publisher (publisher.Text text) (publisher.Text other) = bytes_eq text other
is_same_publisher one other = false

-- the bytes of a PublisherId
abbrev pub width_of : Publisher → ℕ
width_of (publisher.U8 n) = 1
width_of (publisher.U16 n) = 2
width_of (publisher.U32 n) = 4
width_of (publisher.U64 n) = 8
width_of (publisher.Text text) = 4 + length text

-- a Guid's bytes on the wire: its first three fields are little-endian
abbrev pub wire_of : List ℕ → List ℕ
wire_of id = map (slice_index id) (3 ∷ 2 ∷ 1 ∷ 0 ∷ 5 ∷ 4 ∷ 7 ∷ 6 ∷ 8 ∷ 9 ∷ 10 ∷ 11 ∷ 12 ∷ 13 ∷ 14 ∷ 15 ∷ [])

-- 36 characters in lower case
abbrev pub is_plain : List ℕ → Bool
is_plain text = (length text == 36) && list_all (λ byte. not (is_ascii_uppercase byte)) text

abbrev pub guid_spelled : List ℕ → Option (List ℕ)
guid_spelled text = if is_plain text then option_map wire_of (parsed text) else None

-- decoded bytes, else so many zeros
abbrev pub bytes_or_zeros : {E : Type 0} → ℕ → Result (List ℕ) E → List ℕ
bytes_or_zeros count (Ok bytes) = bytes
bytes_or_zeros count (Err e) = replicate count 0

-- the bytes of so many pairs of hexadecimal digits, zeros where the text isn't such
abbrev pub hex_bytes : ℕ → List ℕ → List ℕ
hex_bytes count text = bytes_or_zeros count (decode_sized text count)
