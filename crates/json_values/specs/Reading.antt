-- Which JSON values are read as which values (OPC 10000-6 section 5.4.2). Members that aren't named here
-- are ignored.
use Rattle.std.specs.Prelude.{◌≡◌, ℕ, Bool, true, false, codes, Option, Some, None}
use Rattle.std.specs.Fmt.{decimal, signed_decimal}
use Rattle.serde_json.specs.Data.{Data}
use Rattle.serde_json.specs.Find.{get, as_bool, as_str}
use Rattle.ua_values.specs.declared.kind.Kind.{Kind}
use Rattle.ua_values.specs.declared.kind.Kind.TheVariants as kinds
use Rattle.ua_values.specs.declared.value.Value.{Value}
use Rattle.ua_values.specs.declared.value.Value.TheVariants as values
use Rattle.value_texts.specs.Texts.{hex_text_32, hex_text_64, guid_text}
use Rattle.dataset_meta.specs.declared.field.Field.{Field}
use Rattle.dataset_meta.specs.DataValues.{DataValue, FitsField}
use Rattle.json_values.specs.Numbers.{integer_in, natural_in}
use Rattle.json_values.specs.Spelled.{base64_text}

-- the JSON value stands for this value of a field
abbrev pub StandsFor : Data → Value → Type 0
StandsFor d (values.Boolean b) = as_bool d ≡ Some b
StandsFor d (values.SByte n) = integer_in d ≡ Some n
StandsFor d (values.Byte n) = natural_in d ≡ Some n
StandsFor d (values.Int16 n) = integer_in d ≡ Some n
StandsFor d (values.UInt16 n) = natural_in d ≡ Some n
StandsFor d (values.Int32 n) = integer_in d ≡ Some n
StandsFor d (values.UInt32 n) = natural_in d ≡ Some n
StandsFor d (values.Int64 n) = as_str d ≡ Some (signed_decimal n)
StandsFor d (values.UInt64 n) = as_str d ≡ Some (decimal n)
StandsFor d (values.Float bits) = as_str d ≡ Some (hex_text_32 bits)
StandsFor d (values.Double bits) = as_str d ≡ Some (hex_text_64 bits)
StandsFor d (values.String text) = as_str d ≡ Some text
StandsFor d (values.DateTime steps) = as_str d ≡ Some (signed_decimal steps)
StandsFor d (values.Guid bytes) = as_str d ≡ Some (guid_text bytes)
StandsFor d (values.ByteString bytes) = as_str d ≡ Some (base64_text bytes)
StandsFor d (values.StatusCode code) = natural_in d ≡ Some code

-- the kinds whose values stand in JSON as the texts that scripts and reports have
abbrev pub is_spelled : Kind → Bool
is_spelled kinds.Int64 = true
is_spelled kinds.UInt64 = true
is_spelled kinds.Float = true
is_spelled kinds.Double = true
is_spelled kinds.DateTime = true
is_spelled kinds.Guid = true
is_spelled _ = false

-- a status that isn't there is Good
abbrev pub IsStatusAt : Option Data → ℕ → Type 0
IsStatusAt None status = status ≡ 0
IsStatusAt (Some d) status = natural_in d ≡ Some status

-- an object with the value under its name, and its status
pub record HasQuality (d : Data) (x : DataValue) : Type 0 where
  pub inner : Data
  pub here : get (codes "Value") d ≡ Some inner
  pub value : StandsFor inner x.value
  pub status : IsStatusAt (get (codes "StatusCode") d) x.status

-- the JSON value has this value of a field, in a data set with or without quality
abbrev pub HasFieldJson : Bool → Data → DataValue → Type 0
HasFieldJson false d x = StandsFor d x.value × (x.status ≡ 0)
HasFieldJson true d x = HasQuality d x

-- the JSON value is read as this value of the field
pub record ReadsField (quality : Bool) (field : Field) (d : Data) (x : DataValue) : Type 0 where
  pub fits : FitsField quality field x
  pub stands : HasFieldJson quality d x
