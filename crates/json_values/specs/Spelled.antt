-- How values are written in JSON (OPC 10000-6 section 5.4.2). A Boolean is a truth value; whole numbers
-- of at most 32 bits and a StatusCode are numbers; whole numbers of 64 bits are decimal texts; a String
-- is a text, and a ByteString the text of its base64 with padding (RFC 4648 section 4). A DateTime is the
-- decimal text of its steps; a Float, a Double and a Guid are the texts that scripts and reports have,
-- so that no bit of them is lost.
use Rattle.std.specs.Prelude.{ℕ, ◌==◌, if◌then◌else◌, Bool, true, false, List, codes}
use Rattle.std.specs.Fmt.{decimal, signed_decimal}
use Rattle.serde_json.specs.Data.{Data, boolean, number, string, object, unsigned, Members, member, no_members}
use Rattle.serde_json.specs.Find.{of_integer}
use Rattle.base64.specs.GeneralPurpose.{encode_of}
use Rattle.base64.specs.Engines.{standard}
use Rattle.ua_values.specs.declared.value.Value.{Value}
use Rattle.ua_values.specs.declared.value.Value.TheVariants as values
use Rattle.value_texts.specs.Texts.{hex_text_32, hex_text_64, guid_text}
use Rattle.dataset_meta.specs.DataValues.{DataValue}

-- the base64 of bytes, with padding
abbrev pub base64_text : List ℕ → List ℕ
base64_text bytes = encode_of standard bytes

-- the JSON value of a value
abbrev pub json_of : Value → Data
json_of (values.Boolean b) = boolean b
json_of (values.SByte n) = number (of_integer n)
json_of (values.Byte n) = number (unsigned n)
json_of (values.Int16 n) = number (of_integer n)
json_of (values.UInt16 n) = number (unsigned n)
json_of (values.Int32 n) = number (of_integer n)
json_of (values.UInt32 n) = number (unsigned n)
json_of (values.Int64 n) = string (signed_decimal n)
json_of (values.UInt64 n) = string (decimal n)
json_of (values.Float bits) = string (hex_text_32 bits)
json_of (values.Double bits) = string (hex_text_64 bits)
json_of (values.String text) = string text
json_of (values.DateTime steps) = string (signed_decimal steps)
json_of (values.Guid bytes) = string (guid_text bytes)
json_of (values.ByteString bytes) = string (base64_text bytes)
json_of (values.StatusCode code) = number (unsigned code)

-- the status stands in front of the value where it isn't Good
abbrev pub with_status : ℕ → Members → Members
with_status status ms =
    if status == 0 then ms else member (codes "StatusCode") (number (unsigned status)) ms

-- the value of a field (OPC 10000-6 section 5.4.2, DataValue); in a data set with quality it is an
-- object, with the status where that isn't Good
abbrev pub field_json : Bool → DataValue → Data
field_json false x = json_of x.value
field_json true x =
    object (with_status x.status (member (codes "Value") (json_of x.value) no_members))
