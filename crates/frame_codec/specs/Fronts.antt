-- How the front of a DataSetMessage is read, from left to right: all that stands before the count of fields (OPC 10000-14 7.2.4.5, UADP DataSetMessage header).
use Rattle.std.specs.Prelude.{ℕ, ◌/◌, ◌%◌, ◌==◌, Bool, true, not, ◌&&◌, ◌||◌, nat_lt, List, Option, Some, None, Result, Ok, Err, if◌then◌else◌}
use Rattle.std.specs.Int.{w16, w32}
use Rattle.ua_binary.specs.Reading.{◌>>=◌, byte_at, bytes_at, number_at, part_at, skipped}
use Rattle.ua_binary.specs.ReadingValues.{has}
use Rattle.frame_codec.specs.declared.fault.FrameFault.{FrameFault}
use Rattle.frame_codec.specs.declared.fault.FrameFault.TheVariants.{Short, BadEncoding, NotValid, EventOut, ReservedBits}
use Rattle.frame_codec.specs.declared.front.Front.{Front}

-- the field encoding in DataSetFlags1: 0 Variant, 1 RawData, 2 DataValue
abbrev pub encoding_in : ℕ → ℕ
encoding_in flags = flags / 2 % 4

-- the kind of message in DataSetFlags2: 0 key frame, 1 delta frame, 2 event, 3 keep-alive
abbrev pub kind_in : ℕ → ℕ
kind_in extended = extended % 16

-- RawData stands in a fixed layout alone
abbrev pub is_encoding : Bool → ℕ → Bool
is_encoding fixed encoding = encoding == 0 || encoding == 2 || (fixed && encoding == 1)

-- what DataSetFlags1 is refused for
abbrev pub fault_in_flags1 : Bool → ℕ → Option FrameFault
fault_in_flags1 fixed flags =
    if not (has flags 0x01) then Some NotValid
    else if is_encoding fixed (encoding_in flags) then None
    else Some BadEncoding

-- what DataSetFlags2 is refused for, with this field encoding
abbrev pub fault_in_flags2 : ℕ → ℕ → Option FrameFault
fault_in_flags2 encoding extended =
    if encoding == 1 && kind_in extended == 1 then Some BadEncoding
    else if kind_in extended == 2 then Some EventOut
    else if nat_lt 3 (kind_in extended) || has extended 0xc0 then Some ReservedBits
    else None

abbrev pub passing : {A : Type 0} → Option FrameFault → A → Result A FrameFault
passing None x = Ok x
passing (Some fault) x = Err fault

unfoldable pub flags1_at : Bool → List ℕ → Result (ℕ × List ℕ) FrameFault
flags1_at fixed bytes = do
  flags ← byte_at Short bytes
  passing (fault_in_flags1 fixed flags.0) flags

-- DataSetFlags2, where DataSetFlags1 has its bit, else 0
unfoldable pub flags2_at : ℕ → List ℕ → Result (ℕ × List ℕ) FrameFault
flags2_at flags bytes =
    if has flags 0x80
    then (byte_at Short bytes
    >>= λ extended. passing (fault_in_flags2 (encoding_in flags) extended.0) extended)
    else Ok (0, bytes)

-- the timestamp, its picoseconds and the status, which are read past
unfoldable pub times_past : ℕ → ℕ → List ℕ → Result (Unit {0} × List ℕ) FrameFault
times_past flags extended bytes = do
  timestamp ← skipped (part_at (has extended 0x10) (bytes_at Short 8)) bytes
  picoseconds ← skipped (part_at (has extended 0x20) (bytes_at Short 2)) timestamp.1
  skipped (part_at (has flags 0x10) (bytes_at Short 2)) picoseconds.1

-- the parts that the flags tell of
unfoldable pub parts_at : ℕ → ℕ → List ℕ → Result (Front × List ℕ) FrameFault
parts_at flags extended bytes = do
  number ← part_at (has flags 0x08) (number_at Short w16) bytes
  times ← times_past flags extended number.1
  major ← part_at (has flags 0x20) (number_at Short w32) times.1
  minor ← part_at (has flags 0x40) (number_at Short w32) major.1
  Ok (
    record {
      valid = true;
      encoding = encoding_in flags;
      kind = kind_in extended;
      number = number.0;
      major = major.0;
      minor = minor.0;
    },
    minor.1,
  )

-- the front of a message, in a fixed layout or in a dynamic one
unfoldable pub front_at : Bool → List ℕ → Result (Front × List ℕ) FrameFault
front_at fixed bytes = do
  flags ← flags1_at fixed bytes
  extended ← flags2_at flags.0 flags.1
  parts_at flags.0 extended.0 extended.1
