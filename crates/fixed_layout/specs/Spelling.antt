-- The one spelling of a row that is written as RawData (OPC 10000-14 7.2.4.5, RawData field encoding): each value as OPC 10000-6 spells it, without its type, numbers little-endian; behind a text or a blob zeros, up to its cap.
use Rattle.std.specs.Prelude.{◌≡◌, ℕ, ◌+◌, ◌-◌, List, [], ◌∷◌, ◌++◌, All, length, map, replicate, sum_by}
use Rattle.ua_values.specs.declared.kind.Kind.{Kind}
use Rattle.ua_values.specs.declared.kind.Kind.TheVariants as kinds
use Rattle.ua_values.specs.declared.value.Value.{Value}
use Rattle.ua_values.specs.declared.value.Value.TheVariants.{String, ByteString}
use Rattle.ua_binary.specs.Spelling.{plain}
use Rattle.dataset_meta.specs.declared.field.Field.{Field}
use Rattle.dataset_meta.specs.DataValues.{DataValue}

-- the bytes of a value of this kind; a text or a blob has its length in front, and takes as many bytes as its cap
abbrev pub raw_width : Kind → ℕ → ℕ
raw_width kinds.Boolean cap = 1
raw_width kinds.SByte cap = 1
raw_width kinds.Byte cap = 1
raw_width kinds.Int16 cap = 2
raw_width kinds.UInt16 cap = 2
raw_width kinds.Int32 cap = 4
raw_width kinds.UInt32 cap = 4
raw_width kinds.Int64 cap = 8
raw_width kinds.UInt64 cap = 8
raw_width kinds.Float cap = 4
raw_width kinds.Double cap = 8
raw_width kinds.String cap = 4 + cap
raw_width kinds.DateTime cap = 8
raw_width kinds.Guid cap = 16
raw_width kinds.ByteString cap = 4 + cap
raw_width kinds.StatusCode cap = 4

abbrev pub raw_width_of : Field → ℕ
raw_width_of field = raw_width field.kind field.cap

-- the bytes of a row
abbrev pub raw_size : List Field → ℕ
raw_size fields = sum_by raw_width_of fields

-- how many bytes fill a text or a blob up to its cap
abbrev pub filling : ℕ → Value → ℕ
filling cap (String text) = cap - length text
filling cap (ByteString bytes) = cap - length bytes
filling cap value = 0

abbrev pub raw_value : ℕ → Value → List ℕ
raw_value cap value = plain value ++ replicate (filling cap value) 0

-- the values one behind another
abbrev pub raw_row : List Field → List DataValue → List ℕ
raw_row [] row = []
raw_row (field ∷ fields) [] = []
raw_row (field ∷ fields) (x ∷ row) = raw_value field.cap x.value ++ raw_row fields row

-- RawData has no statuses, so each that is read is Good
abbrev pub good : Value → DataValue
good value = record { value = value; status = 0 }

-- the values of a row
abbrev pub as_good : List DataValue → List DataValue
as_good row = map (λ x. good x.value) row

abbrev pub AreGood : List DataValue → Type 0
AreGood row = All (λ x. x.status ≡ 0) row
