-- Values and DataValues as they stand on the wire, with the parts that are read past (OPC 10000-6 sections 5.2.2.1 to 5.2.2.17).
use Rattle.std.specs.Prelude.{◌≡◌, ℕ, ◌+◌, ◌<◌, ◌^◌, Bool, true, false, List, [], ◌∷◌, ◌++◌, length, Option, Some, None, is_some, unwrap_or, IfSome, ⊤}
use Rattle.std.specs.Int.{w32, to_le_bytes}
use Rattle.std.specs.List.{All}
use Rattle.ua_values.specs.declared.value.Value.{Value}
use Rattle.ua_values.specs.declared.value.Value.TheVariants.{Boolean, String, ByteString}
use Rattle.ua_values.specs.Values.{kind_of, IsValue}
use Rattle.ua_binary.specs.declared.data_value.Measured.{Measured}
use Rattle.ua_binary.specs.Spelling.{plain}
use Rattle.ua_binary.specs.Types.{type_of}

abbrev pub AreBytes : List ℕ → Type 0
AreBytes bytes = All (λ byte. byte < 256) bytes

-- this many bytes
abbrev pub IsPart : ℕ → List ℕ → Type 0
IsPart len part = (length part ≡ len) × AreBytes part

-- the bytes of a part that may be missing
abbrev pub optional : {A : Type 0} → (A → List ℕ) → Option A → List ℕ
optional spelling None = []
optional spelling (Some part) = spelling part

-- the weight of a flag that is set
abbrev pub flag : Bool → ℕ → ℕ
flag true weight = weight
flag false weight = 0

-- How a value stands on the wire: as it is written, or otherwise.
pub data Form : Type 0 where
  written : Form
  -- a Boolean that is true, as this byte
  true_as : (byte : ℕ) → Form
  -- an empty String or ByteString, with the length -1
  null : Form

abbrev pub HasForm : Value → Form → Type 0
HasForm value written = ⊤
HasForm (Boolean true) (true_as byte) = (1 < byte) × (byte < 256)
HasForm (String []) null = ⊤
HasForm (ByteString []) null = ⊤
HasForm value form = ⊥

pub record WireValue : Type 0 where
  pub value : Value
  pub form : Form

pub record IsWireValue (wire : WireValue) : Type 0 where
  pub in_range : IsValue wire.value
  pub has_form : HasForm wire.value wire.form

-- a value's bytes in this form, without its type
abbrev pub plain_as : Form → Value → List ℕ
plain_as written value = plain value
plain_as (true_as byte) value = byte ∷ []
plain_as null value = 0xff ∷ 0xff ∷ 0xff ∷ 0xff ∷ []

-- a Variant's bytes: a type byte and the value
abbrev pub variant_as : WireValue → List ℕ
variant_as wire = type_of (kind_of wire.value) ∷ plain_as wire.form wire.value

-- a DataValue, of which each part may be missing; the times are 8 bytes each, their picoseconds 2
pub record WireDataValue : Type 0 where
  pub value : Option WireValue
  pub status : Option ℕ
  pub source_time : Option (List ℕ)
  pub source_picoseconds : Option (List ℕ)
  pub server_time : Option (List ℕ)
  pub server_picoseconds : Option (List ℕ)

pub record IsWireDataValue (wire : WireDataValue) : Type 0 where
  pub value : IfSome wire.value IsWireValue
  pub status : IfSome wire.status (λ code. code < 2 ^ 32)
  pub source_time : IfSome wire.source_time (IsPart 8)
  pub source_picoseconds : IfSome wire.source_picoseconds (IsPart 2)
  pub server_time : IfSome wire.server_time (IsPart 8)
  pub server_picoseconds : IfSome wire.server_picoseconds (IsPart 2)

-- the mask tells which parts are there
abbrev pub mask_of : WireDataValue → ℕ
mask_of wire =
    flag (is_some wire.value) 0x01 + flag (is_some wire.status) 0x02
    + flag (is_some wire.source_time) 0x04 + flag (is_some wire.server_time) 0x08
    + flag (is_some wire.source_picoseconds) 0x10 + flag (is_some wire.server_picoseconds) 0x20

-- a DataValue's bytes: the mask, and the parts in this order
abbrev pub data_value_as : WireDataValue → List ℕ
data_value_as wire =
    mask_of wire ∷ optional variant_as wire.value ++ optional (to_le_bytes w32) wire.status
    ++ optional (λ part. part) wire.source_time
    ++ optional (λ part. part) wire.source_picoseconds ++ optional (λ part. part) wire.server_time
    ++ optional (λ part. part) wire.server_picoseconds

-- what is kept of it: its value, and its status, which is 0, Good, where it has none
abbrev pub value_in : Option WireValue → Option Value
value_in None = None
value_in (Some wire) = Some wire.value

abbrev pub measured_of : WireDataValue → Measured
measured_of wire = record { value = value_in wire.value; status = unwrap_or wire.status 0 }
