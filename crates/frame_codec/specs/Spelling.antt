-- The one spelling of a frame that is written (OPC 10000-14 7.2.4.5, UADP DataSetMessage header): no timestamp, picoseconds or status of the message, and DataSetFlags2 only where it isn't a key frame. Numbers are little-endian.
use Rattle.std.specs.Prelude.{ℕ, ◌+◌, ◌*◌, ◌==◌, Bool, true, false, List, [], ◌∷◌, ◌++◌, length, Option, Some, None, is_some, if◌then◌else◌}
use Rattle.std.specs.List.{flat_map}
use Rattle.std.specs.Int.{w16, w32, to_le_bytes}
use Rattle.ua_binary.specs.Spelling.{variant, data_value}
use Rattle.ua_binary.specs.Wire.{flag, optional}
use Rattle.dataset_meta.specs.DataValues.{DataValue}
use Rattle.frame_codec.specs.Frames.{Content, Whole, Change, Alive, Frame}

abbrev pub is_key : Content → Bool
is_key (Whole row) = true
is_key (Change patch) = false
is_key Alive = false

-- DataSetFlags1: bit 0 valid, bits 1 and 2 the field encoding, bit 3 a sequence number, bits 5 and 6 a major and a minor version, bit 7 DataSetFlags2
abbrev pub flags1 : ℕ → Frame → ℕ
flags1 encoding frame =
    1 + 2 * encoding + flag (is_some frame.number) 8 + flag (is_some frame.major) 32
    + flag (is_some frame.minor) 64
    + (if is_key frame.content then 0 else 128)

-- DataSetFlags2: 1 is a delta frame, 3 a keep-alive
abbrev pub flags2 : Content → List ℕ
flags2 (Whole row) = []
flags2 (Change patch) = 1 ∷ []
flags2 Alive = 3 ∷ []

-- all that stands before the count of fields
unfoldable pub front_bytes : ℕ → Frame → List ℕ
front_bytes encoding frame =
    flags1 encoding frame ∷ flags2 frame.content ++ optional (to_le_bytes w16) frame.number
    ++ optional (to_le_bytes w32) frame.major
    ++ optional (to_le_bytes w32) frame.minor

-- Good is left out
abbrev pub status_if : ℕ → Option ℕ
status_if status = if status == 0 then None else Some status

-- a value with its status: a DataValue where the data set has statuses, else a Variant
abbrev pub value_bytes : Bool → DataValue → List ℕ
value_bytes true x = data_value x.value (status_if x.status)
value_bytes false x = variant x.value

abbrev pub values_bytes : Bool → List DataValue → List ℕ
values_bytes quality row = flat_map (value_bytes quality) row

-- an index with its value
abbrev pub change_bytes : Bool → ℕ × DataValue → List ℕ
change_bytes quality change = to_le_bytes w16 change.0 ++ value_bytes quality change.1

abbrev pub changes_bytes : Bool → List (ℕ × DataValue) → List ℕ
changes_bytes quality patch = flat_map (change_bytes quality) patch

abbrev pub content_bytes : Bool → Content → List ℕ
content_bytes quality (Whole row) = to_le_bytes w16 (length row) ++ values_bytes quality row
content_bytes quality (Change patch) = to_le_bytes w16 (length patch) ++ changes_bytes quality patch
content_bytes quality Alive = []

-- DataValue or Variant; of a keep-alive, which has no fields, it is 0
abbrev pub encoding_of : Bool → Content → ℕ
encoding_of quality (Whole row) = if quality then 2 else 0
encoding_of quality (Change patch) = if quality then 2 else 0
encoding_of quality Alive = 0

-- the whole message, for a data set that has statuses or not
unfoldable pub frame_bytes : Bool → Frame → List ℕ
frame_bytes quality frame =
    front_bytes (encoding_of quality frame.content) frame ++ content_bytes quality frame.content
