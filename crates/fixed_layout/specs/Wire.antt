-- RawData as it stands on the wire (OPC 10000-14 7.2.4.5, RawData field encoding): values in any of their forms, and behind a text or a blob any bytes up to its cap.
use Rattle.std.specs.Prelude.{ℕ, List, ◌++◌, map}
use Rattle.std.specs.List.{AllZip, flat_map}
use Rattle.ua_values.specs.Values.{Fits}
use Rattle.ua_binary.specs.Wire.{WireValue, IsWireValue, plain_as, IsPart}
use Rattle.dataset_meta.specs.declared.field.Field.{Field}
use Rattle.dataset_meta.specs.DataValues.{DataValue}
use Rattle.fixed_layout.specs.Spelling.{filling, good}

pub record WireRaw : Type 0 where
  pub wire : WireValue
  pub padding : List ℕ

-- a value of this field
pub record IsWireRaw (field : Field) (raw : WireRaw) : Type 0 where
  pub is_wire : IsWireValue raw.wire
  pub fits : Fits raw.wire.value field.kind field.cap
  pub padding : IsPart (filling field.cap raw.wire.value) raw.padding

abbrev pub wire_bytes : WireRaw → List ℕ
wire_bytes raw = plain_as raw.wire.form raw.wire.value ++ raw.padding

-- one value for each field
abbrev pub AreWireRaws : List Field → List WireRaw → Type 0
AreWireRaws fields raws = AllZip IsWireRaw fields raws

abbrev pub wires_bytes : List WireRaw → List ℕ
wires_bytes raws = flat_map wire_bytes raws

-- the row that they are
abbrev pub row_read : List WireRaw → List DataValue
row_read raws = map (λ raw. good raw.wire.value) raws
