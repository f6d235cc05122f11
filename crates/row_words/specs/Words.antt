-- How values stand in words of 64 bits. Bits that a value doesn't use are zero.
use Rattle.std.specs.Prelude.{◌≡◌, ℕ, ◌-◌, ◌*◌, ◌^◌, ◌<◌, ◌≤◌, Bool, true, false, ◌==◌, if◌then◌else◌, List, [], ◌∷◌, length, take, drop, slice_index}
use Rattle.std.specs.List.{flat_map}
use Rattle.std.specs.Int.{w8, w16, w32, w64, cast_signed, cast_unsigned, to_le_bytes}
use Rattle.ua_values.specs.declared.kind.Kind.{Kind}
use Rattle.ua_values.specs.declared.kind.Kind.TheVariants as kinds
use Rattle.ua_values.specs.declared.value.Value.{Value}
use Rattle.ua_values.specs.declared.value.Value.TheVariants as values
use Rattle.ua_values.specs.Values.{Fits, IsValue}
use Rattle.dataset_meta.specs.Fields.{words_for}
use Rattle.row_words.specs.Digits.{digits_of, grouped}

-- all but texts, blobs and Guids take one word
abbrev pub is_scalar : Kind → Bool
is_scalar kinds.String = false
is_scalar kinds.ByteString = false
is_scalar kinds.Guid = false
is_scalar _ = true

-- a Boolean is 0 or 1; a signed number is the two's complement of its own width; 0 for what takes more than a word
abbrev pub scalar_word : Value → ℕ
scalar_word (values.Boolean b) = if b then 1 else 0
scalar_word (values.SByte n) = cast_unsigned w8 n
scalar_word (values.Byte n) = n
scalar_word (values.Int16 n) = cast_unsigned w16 n
scalar_word (values.UInt16 n) = n
scalar_word (values.Int32 n) = cast_unsigned w32 n
scalar_word (values.UInt32 n) = n
scalar_word (values.Int64 n) = cast_unsigned w64 n
scalar_word (values.UInt64 n) = n
scalar_word (values.Float bits) = bits
scalar_word (values.Double bits) = bits
scalar_word (values.DateTime steps) = cast_unsigned w64 steps
scalar_word (values.StatusCode code) = code
scalar_word _ = 0

-- the bytes of a scalar's word as OPC 10000-6 spells it, lowest first
abbrev pub scalar_bytes : Kind → ℕ → List ℕ
scalar_bytes kinds.Boolean word = word ∷ []
scalar_bytes kinds.SByte word = word ∷ []
scalar_bytes kinds.Byte word = word ∷ []
scalar_bytes kinds.Int16 word = to_le_bytes w16 word
scalar_bytes kinds.UInt16 word = to_le_bytes w16 word
scalar_bytes kinds.Int32 word = to_le_bytes w32 word
scalar_bytes kinds.UInt32 word = to_le_bytes w32 word
scalar_bytes kinds.Int64 word = to_le_bytes w64 word
scalar_bytes kinds.UInt64 word = to_le_bytes w64 word
scalar_bytes kinds.Float word = to_le_bytes w32 word
scalar_bytes kinds.Double word = to_le_bytes w64 word
scalar_bytes kinds.DateTime word = to_le_bytes w64 word
scalar_bytes kinds.StatusCode word = to_le_bytes w32 word
scalar_bytes kinds.String word = []
scalar_bytes kinds.ByteString word = []
scalar_bytes kinds.Guid word = []

-- eight bytes to a word, the first byte lowest, in so many words; zeros behind the last byte
unfoldable pub packed : ℕ → List ℕ → List ℕ
packed count bytes = grouped 256 8 count bytes

-- the bytes of words
unfoldable pub unpacked : List ℕ → List ℕ
unpacked words = flat_map (digits_of 256 8) words

-- the words of a value in a field of this cap: a text or a blob has its length first
abbrev pub spelled_value : ℕ → Value → List ℕ
spelled_value cap (values.String text) = length text ∷ packed (words_for cap) text
spelled_value cap (values.ByteString bytes) = length bytes ∷ packed (words_for cap) bytes
spelled_value cap (values.Guid bytes) = packed 2 bytes
spelled_value cap value = scalar_word value ∷ []

-- the scalar of this kind in a word
abbrev pub scalar_in : Kind → ℕ → Value
scalar_in kinds.Boolean word = values.Boolean (word == 1)
scalar_in kinds.SByte word = values.SByte (cast_signed w8 word)
scalar_in kinds.Byte word = values.Byte word
scalar_in kinds.Int16 word = values.Int16 (cast_signed w16 word)
scalar_in kinds.UInt16 word = values.UInt16 word
scalar_in kinds.Int32 word = values.Int32 (cast_signed w32 word)
scalar_in kinds.UInt32 word = values.UInt32 word
scalar_in kinds.Int64 word = values.Int64 (cast_signed w64 word)
scalar_in kinds.UInt64 word = values.UInt64 word
scalar_in kinds.Float word = values.Float word
scalar_in kinds.Double word = values.Double word
scalar_in kinds.DateTime word = values.DateTime (cast_signed w64 word)
scalar_in kinds.StatusCode word = values.StatusCode word
scalar_in kinds.String word = values.String []
scalar_in kinds.ByteString word = values.ByteString []
scalar_in kinds.Guid word = values.Guid []

-- the bytes of a text or a blob, behind their length
abbrev pub bytes_in : List ℕ → List ℕ
bytes_in words = take (slice_index words 0) (unpacked (drop 1 words))

-- the value of this kind that stands in these words
abbrev pub value_in : Kind → List ℕ → Value
value_in kinds.String words = values.String (bytes_in words)
value_in kinds.ByteString words = values.ByteString (bytes_in words)
value_in kinds.Guid words = values.Guid (unpacked words)
value_in kind words = scalar_in kind (slice_index words 0)

-- the words of which scalars of a kind make use
abbrev pub IsWordOf : Kind → ℕ → Type 0
IsWordOf kinds.Boolean word = word < 2
IsWordOf kinds.SByte word = word < 2 ^ 8
IsWordOf kinds.Byte word = word < 2 ^ 8
IsWordOf kinds.Int16 word = word < 2 ^ 16
IsWordOf kinds.UInt16 word = word < 2 ^ 16
IsWordOf kinds.Int32 word = word < 2 ^ 32
IsWordOf kinds.UInt32 word = word < 2 ^ 32
IsWordOf kinds.Int64 word = word < 2 ^ 64
IsWordOf kinds.UInt64 word = word < 2 ^ 64
IsWordOf kinds.Float word = word < 2 ^ 32
IsWordOf kinds.Double word = word < 2 ^ 64
IsWordOf kinds.DateTime word = word < 2 ^ 64
IsWordOf kinds.StatusCode word = word < 2 ^ 32
IsWordOf kinds.String word = ⊥
IsWordOf kinds.ByteString word = ⊥
IsWordOf kinds.Guid word = ⊥

-- the words of a value of this kind
pub record Spells (kind : Kind) (words : List ℕ) : Type 0 where
  pub cap : ℕ
  pub value : Value
  pub small : cap ≤ 256
  pub is_value : IsValue value
  pub fits : Fits value kind cap
  pub spelled : words ≡ spelled_value cap value

-- a length, and words in which so many bytes stand
pub record HasBytes (words : List ℕ) : Type 0 where
  pub some : 1 ≤ length words
  pub few : length words ≤ 33
  pub within : slice_index words 0 ≤ 8 * (length words - 1)
