-- What bytes begin with: a spelling of a value, or the first fault that keeps them from being one.
use Rattle.std.specs.Prelude.{◌≡◌, ◌≢◌, ℕ, ◌≤◌, pos, negsuc, ℤ, ◌<ℤ◌, ◌⊎◌, List, ◌∷◌, ◌++◌, length, FitsSigned}
use Rattle.std.specs.Int.{w32, cast_unsigned, to_le_bytes}
use Rattle.std.specs.Str.{IsUtf8}
use Rattle.ua_values.specs.declared.kind.Kind.{Kind}
use Rattle.ua_values.specs.declared.kind.Kind.TheVariants.{String, ByteString}
use Rattle.ua_values.specs.declared.value.Value.{Value}
use Rattle.ua_binary.specs.declared.data_value.Measured.{Measured}
use Rattle.ua_binary.specs.Spelling.{block}
use Rattle.ua_binary.specs.Types.{type_of}
use Rattle.ua_binary.specs.Wire.{WireValue, IsWireValue, variant_as, WireDataValue, IsWireDataValue, data_value_as, measured_of}

-- a Variant of this value stands in front of this rest
pub record BeginsWithVariant (bytes : List ℕ) (value : Value) (rest : List ℕ) : Type 0 where
  pub wire : WireValue
  pub is_wire : IsWireValue wire
  pub meaning : wire.value ≡ value
  pub split : bytes ≡ variant_as wire ++ rest

-- a DataValue of this meaning stands in front of this rest
pub record BeginsWithDataValue (bytes : List ℕ) (measured : Measured) (rest : List ℕ) : Type 0 where
  pub wire : WireDataValue
  pub is_wire : IsWireDataValue wire
  pub meaning : measured_of wire ≡ measured
  pub split : bytes ≡ data_value_as wire ++ rest

-- a type byte of no kind
pub record BeginsWithOtherType (bytes : List ℕ) : Type 0 where
  pub number : ℕ
  pub rest : List ℕ
  pub other : (kind : Kind) → type_of kind ≢ number
  pub split : bytes ≡ number ∷ rest

-- the type byte of a String or a ByteString, and a length below -1 or over 256
pub record BeginsWithBadLength (bytes : List ℕ) : Type 0 where
  pub kind : Kind
  pub counted : (kind ≡ String) ⊎ (kind ≡ ByteString)
  pub len : ℤ
  pub field : FitsSigned w32 len
  pub bad : (len <ℤ negsuc 0) ⊎ (pos 256 <ℤ len)
  pub rest : List ℕ
  pub split : bytes ≡ type_of kind ∷ to_le_bytes w32 (cast_unsigned w32 len) ++ rest

-- a String of a right length that isn't UTF-8
pub record BeginsWithBadText (bytes : List ℕ) : Type 0 where
  pub text : List ℕ
  pub short : length text ≤ 256
  pub not_utf8 : ¬ IsUtf8 text
  pub rest : List ℕ
  pub split : bytes ≡ type_of String ∷ block text ++ rest
