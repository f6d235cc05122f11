-- What the value of a field is refused for (OPC 10000-14 7.2.4.5, Data Key Frame and Data Delta Frame; OPC 10000-6 sections 5.2.2.16 and 5.2.2.17).
use Rattle.std.specs.Prelude.{◌≡◌, ◌<◌, ◌≤◌, ◌/◌, ◌%◌, true, Bool, ℕ, ◌⊎◌, List, Option, None, IsSomeAnd, Result, Ok, Err}
use Rattle.ua_values.specs.declared.value.Value.{Value}
use Rattle.ua_values.specs.Values.{Fits}
use Rattle.ua_binary.specs.declared.data_value.Measured.{Measured}
use Rattle.ua_binary.specs.declared.fault.ValueFault.{ValueFault}
use Rattle.ua_binary.specs.declared.fault.ValueFault.TheVariants as values
use Rattle.ua_binary.specs.ReadingValues.{variant_at, data_value_at}
use Rattle.dataset_meta.specs.declared.field.Field.{Field}
use Rattle.frame_codec.specs.declared.fault.FrameFault.{FrameFault}
use Rattle.frame_codec.specs.Wire.{is_field_encoding}
use Rattle.frame_codec.specs.declared.fault.FrameFault.TheVariants.{Short, KindOut, BadValue}

-- what a value's own bytes are refused for: a text that isn't UTF-8, and a bad length, are a BadValue
abbrev pub IsOwnFault : {A : Type 0} → Result A ValueFault → FrameFault → Type 0
IsOwnFault read Short = read ≡ Err values.Short
IsOwnFault read KindOut = read ≡ Err values.KindOut
IsOwnFault read BadValue = (read ≡ Err values.BadUtf8) ⊎ (read ≡ Err values.BadLength)
IsOwnFault read _ = ⊥

-- DataSetFlags1 of a valid message with a field encoding, behind which DataSetFlags2 stands (OPC 10000-14 7.2.4.5, UADP DataSetMessage header)
pub record HasFlags2 (fixed : Bool) (flags : ℕ) : Type 0 where
  pub small : flags < 256
  pub valid : flags % 2 ≡ 1
  pub encoding : is_field_encoding fixed (flags / 2 % 4) ≡ true
  pub more : 128 ≤ flags

-- a value is there, of the field's kind, and a text or a blob has at most `cap` bytes
abbrev pub FitsIn : Field → Option Value → Type 0
FitsIn field value = IsSomeAnd value (λ v. Fits v field.kind field.cap)

-- the Variant that stands there doesn't fit the field
pub record IsUnfitVariant (field : Field) (bytes : List ℕ) : Type 0 where
  pub value : Value
  pub rest : List ℕ
  pub read : variant_at bytes ≡ Ok (value, rest)
  pub unfit : ¬ Fits value field.kind field.cap

-- the DataValue that stands there has no value, or one that doesn't fit the field
pub record IsUnfitDataValue (field : Field) (bytes : List ℕ) : Type 0 where
  pub measured : Measured
  pub rest : List ℕ
  pub read : data_value_at bytes ≡ Ok (measured, rest)
  pub unfit : ¬ FitsIn field measured.value

-- the DataValue that stands there has no value
pub record IsEmptyDataValue (bytes : List ℕ) : Type 0 where
  pub measured : Measured
  pub rest : List ℕ
  pub read : data_value_at bytes ≡ Ok (measured, rest)
  pub empty : measured.value ≡ None

-- what a Variant is refused for, in the place of this field's
abbrev pub RefusesVariant : Field → List ℕ → FrameFault → Type 0
RefusesVariant field bytes fault =
    IsOwnFault (variant_at bytes) fault ⊎ ((fault ≡ BadValue) × IsUnfitVariant field bytes)

-- what a DataValue is refused for, in the place of this field's
abbrev pub RefusesDataValue : Field → List ℕ → FrameFault → Type 0
RefusesDataValue field bytes fault =
    IsOwnFault (data_value_at bytes) fault ⊎ ((fault ≡ BadValue) × IsUnfitDataValue field bytes)

-- what a DataValue is refused for that is no field's
abbrev pub RefusesSurplus : List ℕ → FrameFault → Type 0
RefusesSurplus bytes fault =
    IsOwnFault (data_value_at bytes) fault ⊎ ((fault ≡ BadValue) × IsEmptyDataValue bytes)
