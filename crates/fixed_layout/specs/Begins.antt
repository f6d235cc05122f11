-- What bytes begin with: a row of RawData, or the first fault that keeps them from being one.
use Rattle.std.specs.Prelude.{◌≡◌, ℕ, ◌≤◌, pos, negsuc, ℤ, ◌<ℤ◌, ◌⊎◌, List, ◌∷◌, ◌++◌, length, FitsSigned, Err}
use Rattle.std.specs.Int.{w32, cast_unsigned, to_le_bytes}
use Rattle.std.specs.Str.{IsUtf8}
use Rattle.ua_values.specs.declared.kind.Kind.TheVariants.{String, ByteString}
use Rattle.ua_binary.specs.Spelling.{block}
use Rattle.dataset_meta.specs.declared.field.Field.{Field}
use Rattle.dataset_meta.specs.DataValues.{DataValue}
use Rattle.fixed_layout.specs.declared.fault.RawFault.{RawFault}
use Rattle.fixed_layout.specs.Reading.{raw_field_at}
use Rattle.fixed_layout.specs.Wire.{WireRaw, AreWireRaws, wires_bytes, row_read}

-- this row stands in front of this rest
pub record BeginsWithRow (fields : List Field) (bytes : List ℕ) (row : List DataValue) (rest : List ℕ) : Type 0 where
  pub raws : List WireRaw
  pub are_raws : AreWireRaws fields raws
  pub meaning : row_read raws ≡ row
  pub split : bytes ≡ wires_bytes raws ++ rest

-- values stand in front of one that is refused so
pub record FailsAtValue (fields : List Field) (bytes : List ℕ) (fault : RawFault) : Type 0 where
  pub before : List Field
  pub field : Field
  pub after : List Field
  pub split_fields : fields ≡ before ++ field ∷ after
  pub raws : List WireRaw
  pub are_raws : AreWireRaws before raws
  pub rest : List ℕ
  pub split : bytes ≡ wires_bytes raws ++ rest
  pub refused : raw_field_at field rest ≡ Err fault

-- a length below -1 or over the cap of the text or the blob
pub record BeginsWithBadLength (field : Field) (bytes : List ℕ) : Type 0 where
  pub counted : (field.kind ≡ String) ⊎ (field.kind ≡ ByteString)
  pub len : ℤ
  pub in_range : FitsSigned w32 len
  pub bad : (len <ℤ negsuc 0) ⊎ (pos field.cap <ℤ len)
  pub rest : List ℕ
  pub split : bytes ≡ to_le_bytes w32 (cast_unsigned w32 len) ++ rest

-- a text of a right length that isn't UTF-8
pub record BeginsWithBadText (field : Field) (bytes : List ℕ) : Type 0 where
  pub is_text : field.kind ≡ String
  pub text : List ℕ
  pub within : length text ≤ field.cap
  pub not_utf8 : ¬ IsUtf8 text
  pub rest : List ℕ
  pub split : bytes ≡ block text ++ rest
