-- DataSetMessages as they stand on the wire, with the parts that are read past (OPC 10000-14 7.2.4.5, UADP DataSetMessage header, Data Key Frame and Data Delta Frame), spelled apart from how they are read. Numbers are little-endian.
use Rattle.std.specs.Prelude.{◌≡◌, ℕ, ◌+◌, ◌*◌, ◌^◌, ◌<◌, ◌==◌, ◌&&◌, ◌||◌, nat_lt, ⊤, Bool, true, false, List, [], ◌∷◌, ◌++◌, length, slice_get, Option, Some, None, IfSome, IsSomeAnd, is_some, unwrap_or, if◌then◌else◌}
use Rattle.std.specs.List.{flat_map}
use Rattle.std.specs.Int.{w16, w32, to_le_bytes}
use Rattle.ua_values.specs.Values.{Fits, opening}
use Rattle.ua_binary.specs.declared.data_value.Measured.{Measured}
use Rattle.ua_binary.specs.Wire.{flag, optional, IsPart, WireValue, IsWireValue, variant_as, WireDataValue, IsWireDataValue, data_value_as, measured_of}
use Rattle.dataset_meta.specs.declared.field.Field.{Field}
use Rattle.dataset_meta.specs.DataValues.{DataValue}
use Rattle.dataset_meta.specs.Metas.{MetaData}
use Rattle.dataset_meta.specs.Rows.{put_in}
use Rattle.frame_codec.specs.declared.front.Front.{Front}
use Rattle.frame_codec.specs.Frames.{Content, Whole, Change, Alive, Frame}

-- The front. `extended` says that DataSetFlags2 is there.
pub record WireFront : Type 0 where
  pub encoding : ℕ
  pub extended : Bool
  pub kind : ℕ
  pub number : Option ℕ
  pub timestamp : Option (List ℕ)
  pub picoseconds : Option (List ℕ)
  pub status : Option (List ℕ)
  pub major : Option ℕ
  pub minor : Option ℕ

-- DataSetFlags1: bit 0 valid, bits 1 and 2 the field encoding, bit 3 a sequence number, bit 4 a status, bits 5 and 6 a major and a minor version, bit 7 DataSetFlags2
abbrev pub wire_flags1 : WireFront → ℕ
wire_flags1 front =
    1 + 2 * front.encoding + flag (is_some front.number) 8 + flag (is_some front.status) 16
    + flag (is_some front.major) 32 + flag (is_some front.minor) 64
    + flag front.extended 128

-- DataSetFlags2: bits 0 to 3 the kind of message, 0 a key frame, 1 a delta frame, 3 a keep-alive; bit 4 a timestamp, bit 5 its picoseconds
abbrev pub wire_flags2 : WireFront → ℕ
wire_flags2 front =
    front.kind + flag (is_some front.timestamp) 16 + flag (is_some front.picoseconds) 32

abbrev pub flags2_bytes : WireFront → List ℕ
flags2_bytes front = if front.extended then wire_flags2 front ∷ [] else []

unfoldable pub wire_front_bytes : WireFront → List ℕ
wire_front_bytes front =
    wire_flags1 front ∷ flags2_bytes front ++ optional (to_le_bytes w16) front.number
    ++ optional (λ part. part) front.timestamp
    ++ optional (λ part. part) front.picoseconds ++ optional (λ part. part) front.status
    ++ optional (to_le_bytes w32) front.major
    ++ optional (to_le_bytes w32) front.minor

-- a key frame, a delta frame, a keep-alive
abbrev pub is_kind : ℕ → Bool
is_kind kind = kind == 0 || kind == 1 || kind == 3

-- the field encodings: Variant, DataValue, and RawData, which stands in a fixed layout alone
abbrev pub is_field_encoding : Bool → ℕ → Bool
is_field_encoding fixed encoding = encoding == 0 || encoding == 2 || (fixed && encoding == 1)

-- The front of a message, in a fixed layout or in a dynamic one. DataSetFlags2 may be left out where it tells nothing.
pub record IsWireFront (fixed : Bool) (front : WireFront) : Type 0 where
  pub encoding : is_field_encoding fixed front.encoding ≡ true
  pub kind : is_kind front.kind ≡ true
  pub no_raw_delta : (front.encoding == 1 && front.kind == 1) ≡ false
  pub plain : front.extended ≡ false → wire_flags2 front ≡ 0
  pub number : IfSome front.number (λ n. n < 2 ^ 16)
  pub timestamp : IfSome front.timestamp (IsPart 8)
  pub picoseconds : IfSome front.picoseconds (IsPart 2)
  pub status : IfSome front.status (IsPart 2)
  pub major : IfSome front.major (λ n. n < 2 ^ 32)
  pub minor : IfSome front.minor (λ n. n < 2 ^ 32)

-- what it tells
abbrev pub front_read : WireFront → Front
front_read front =
    record {
      valid = true;
      encoding = front.encoding;
      kind = front.kind;
      number = front.number;
      major = front.major;
      minor = front.minor;
    }

-- a field's value: a Variant, or a DataValue
pub data WireField : Type 0 where
  AsVariant : (wire : WireValue) → WireField
  AsDataValue : (wire : WireDataValue) → WireField

abbrev pub IsWireField : ℕ → WireField → Type 0
IsWireField encoding (AsVariant wire) = ((encoding == 0) ≡ true) × IsWireValue wire
IsWireField encoding (AsDataValue wire) = ((encoding == 0) ≡ false) × IsWireDataValue wire

abbrev pub field_bytes : WireField → List ℕ
field_bytes (AsVariant wire) = variant_as wire
field_bytes (AsDataValue wire) = data_value_as wire

-- its value, and its status, which is Good where it has none
abbrev pub field_read : WireField → Measured
field_read (AsVariant wire) = record { value = Some wire.value; status = 0 }
field_read (AsDataValue wire) = measured_of wire

-- behind the front of a key frame values, of a delta frame indexes and values, of a keep-alive nothing
pub data WireContent : Type 0 where
  Key : (values : List WireField) → WireContent
  Delta : (changes : List (ℕ × WireField)) → WireContent
  KeepAlive : WireContent

abbrev pub kind_number : WireContent → ℕ
kind_number (Key values) = 0
kind_number (Delta changes) = 1
kind_number KeepAlive = 3

abbrev pub wire_values_bytes : List WireField → List ℕ
wire_values_bytes values = flat_map field_bytes values

abbrev pub wire_change_bytes : ℕ × WireField → List ℕ
wire_change_bytes change = to_le_bytes w16 change.0 ++ field_bytes change.1

abbrev pub wire_changes_bytes : List (ℕ × WireField) → List ℕ
wire_changes_bytes changes = flat_map wire_change_bytes changes

-- a count, and what it counts
abbrev pub wire_content_bytes : WireContent → List ℕ
wire_content_bytes (Key values) = to_le_bytes w16 (length values) ++ wire_values_bytes values
wire_content_bytes (Delta changes) = to_le_bytes w16 (length changes) ++ wire_changes_bytes changes
wire_content_bytes KeepAlive = []

-- a value of the field's kind, and a text or a blob has at most `cap` bytes
pub record IsForField (encoding : ℕ) (field : Field) (wire : WireField) : Type 0 where
  pub is_wire : IsWireField encoding wire
  pub fits : IsSomeAnd (field_read wire).value (λ value. Fits value field.kind field.cap)

-- any value, for a field that the data set doesn't have: the sender's has grown
pub record IsSurplus (newer : Bool) (encoding : ℕ) (wire : WireField) : Type 0 where
  pub grown : newer ≡ true
  pub is_wire : IsWireField encoding wire
  pub present : is_some (field_read wire).value ≡ true

-- one value for each field, and surplus ones behind them
abbrev pub AreValues : Bool → ℕ → List Field → List WireField → Type 0
AreValues newer encoding [] [] = ⊤
AreValues newer encoding [] (wire ∷ values) =
    IsSurplus newer encoding wire × AreValues newer encoding [] values
AreValues newer encoding (field ∷ fields) [] = ⊥
AreValues newer encoding (field ∷ fields) (wire ∷ values) =
    IsForField encoding field wire × AreValues newer encoding fields values

abbrev pub IsFor : Bool → ℕ → Option Field → WireField → Type 0
IsFor newer encoding (Some field) wire = IsForField encoding field wire
IsFor newer encoding None wire = IsSurplus newer encoding wire

-- indexes in any order, each with a value for that field
abbrev pub AreChanges : Bool → ℕ → List Field → List (ℕ × WireField) → Type 0
AreChanges newer encoding fields [] = ⊤
AreChanges newer encoding fields (change ∷ changes) =
    (change.0 < 2 ^ 16) × IsFor newer encoding (slice_get fields change.0) change.1
    × AreChanges newer encoding fields changes

abbrev pub IsWireContent : MetaData → Bool → ℕ → WireContent → Type 0
IsWireContent meta newer encoding (Key values) =
    (length values < 2 ^ 16) × AreValues newer encoding meta.fields values
IsWireContent meta newer encoding (Delta changes) =
    (length changes < 2 ^ 16) × AreChanges newer encoding meta.fields changes
IsWireContent meta newer encoding KeepAlive = ⊤

-- what a field is given; a data set without statuses has none but Good
abbrev pub value_read : Bool → Field → WireField → DataValue
value_read quality field wire = record {
  value = unwrap_or (field_read wire).value (opening field.kind);
  status = if quality then (field_read wire).status else 0;
}

-- the row, without the surplus values
abbrev pub row_read : Bool → List Field → List WireField → List DataValue
row_read quality [] values = []
row_read quality (field ∷ fields) [] = []
row_read quality (field ∷ fields) (wire ∷ values) =
    value_read quality field wire ∷ row_read quality fields values

-- the patch with this value too, if it is for a field
abbrev pub put_read : Bool → List (ℕ × DataValue) → ℕ → Option Field → WireField
    → List (ℕ × DataValue)
put_read quality patch index None wire = patch
put_read quality patch index (Some field) wire = put_in patch index (value_read quality field wire)

-- the patch with these changes too: of two values of one field the later counts
abbrev pub patch_read : Bool → List Field → List (ℕ × DataValue) → List (ℕ × WireField)
    → List (ℕ × DataValue)
patch_read quality fields patch [] = patch
patch_read quality fields patch (change ∷ changes) =
    patch_read quality fields (put_read quality patch change.0
    (slice_get fields change.0) change.1) changes

abbrev pub content_read : MetaData → WireContent → Content
content_read meta (Key values) = Whole (row_read meta.quality meta.fields values)
content_read meta (Delta changes) = Change (patch_read meta.quality meta.fields [] changes)
content_read meta KeepAlive = Alive

pub record WireFrame : Type 0 where
  pub front : WireFront
  pub content : WireContent

unfoldable pub wire_bytes : WireFrame → List ℕ
wire_bytes wire = wire_front_bytes wire.front ++ wire_content_bytes wire.content

-- the front carries a minor version greater than the meta's: the sender's data set has grown, and may send surplus values
abbrev pub has_greater_minor : MetaData → Option ℕ → Bool
has_greater_minor meta None = false
has_greater_minor meta (Some minor) = nat_lt meta.minor minor

-- a message of a dynamic layout, for a data set with this meta
pub record IsWireFrame (meta : MetaData) (wire : WireFrame) : Type 0 where
  pub front : IsWireFront false wire.front
  pub kind : wire.front.kind ≡ kind_number wire.content
  pub content : IsWireContent meta (has_greater_minor meta wire.front.minor) wire.front.encoding
      wire.content

-- the frame that it is
abbrev pub frame_read : MetaData → WireFrame → Frame
frame_read meta wire =
    record {
      number = wire.front.number;
      major = wire.front.major;
      minor = wire.front.minor;
      content = content_read meta wire.content;
    }
