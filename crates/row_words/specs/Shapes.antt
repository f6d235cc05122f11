-- Shapes: what of a meta decides which words belong to it.
use Rattle.std.specs.Prelude.{◌≡◌, ℕ, ◌+◌, ◌*◌, Bool, if◌then◌else◌, List, map, length}
use Rattle.ua_values.specs.declared.kind.Kind.{Kind}
use Rattle.ua_values.specs.declared.kind.Kind.TheVariants.{Boolean, SByte, Byte, Int16, UInt16, Int32, UInt32, Int64, UInt64, Float, Double, String, DateTime, Guid, ByteString, StatusCode}
use Rattle.dataset_meta.specs.declared.field.Field.{Field}
use Rattle.dataset_meta.specs.Metas.{IsMeta, MetaData}
use Rattle.row_words.specs.Digits.{grouped}
use Rattle.row_words.specs.Belonging.{Belongs}

abbrev pub number_of_kind : Kind → ℕ
number_of_kind Boolean = 0
number_of_kind SByte = 1
number_of_kind Byte = 2
number_of_kind Int16 = 3
number_of_kind UInt16 = 4
number_of_kind Int32 = 5
number_of_kind UInt32 = 6
number_of_kind Int64 = 7
number_of_kind UInt64 = 8
number_of_kind Float = 9
number_of_kind Double = 10
number_of_kind String = 11
number_of_kind DateTime = 12
number_of_kind Guid = 13
number_of_kind ByteString = 14
number_of_kind StatusCode = 15

-- 16 bits for a field: bit 0 is set where the field is there, bits 1 to 4 are its kind, bits 5 to 13 its cap, and bit 14 is set
-- where the meta has quality
abbrev pub code_of : Bool → Field → ℕ
code_of quality field =
    1 + 2 * number_of_kind field.kind + 32 * field.cap + (if quality then 16384 else 0)

-- 16 words, in each the codes of four fields, the first lowest; zeros behind the last field
unfoldable pub shape_of : MetaData → List ℕ
shape_of meta = grouped 65536 4 16 (map (code_of meta.quality) meta.fields)

-- two metas of the same shape
pub record HaveOneShape (one other : MetaData) : Type 0 where
  pub is_meta : IsMeta one.fields
  pub other_is_meta : IsMeta other.fields
  pub same_shape : shape_of one ≡ shape_of other

-- words that stand for a row of a meta of this shape
pub record BelongsTo (shape words : List ℕ) : Type 0 where
  pub whole : length words ≡ 125
  pub meta : MetaData
  pub is_meta : IsMeta meta.fields
  pub of_shape : shape_of meta ≡ shape
  pub belongs : Belongs meta words
