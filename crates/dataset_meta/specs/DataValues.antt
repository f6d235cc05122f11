-- A value with its status (OPC 10000-6 section 5.2.2.17, DataValue; the status is a StatusCode, section 5.2.2.11, of which 0 is Good).
use Rattle.std.specs.Prelude.{◌≡◌, ℕ, ◌^◌, ◌<◌, Bool, true, false}
use Rattle.ua_values.specs.declared.value.Value.{Value}
use Rattle.ua_values.specs.Values.{Fits, IsValue}
use Rattle.dataset_meta.specs.declared.field.Field.{Field}

pub record DataValue : Type 0 where
  pub value : Value
  pub status : ℕ

-- where a data set has no statuses each is Good
abbrev pub IsStatus : Bool → ℕ → Type 0
IsStatus true status = status < 2 ^ 32
IsStatus false status = status ≡ 0

-- the value is one of the field's kind, a text or a blob has at most `cap` bytes, and the status is one that the data set may have
pub record FitsField (quality : Bool) (field : Field) (x : DataValue) : Type 0 where
  pub is_value : IsValue x.value
  pub fits : Fits x.value field.kind field.cap
  pub is_status : IsStatus quality x.status
