-- Frames: DataSetMessages (OPC 10000-14 7.2.4.5, UADP DataSetMessage), for a data set with this meta.
use Rattle.std.specs.Prelude.{ℕ, ◌^◌, ◌<◌, ⊤, List, Option, IfSome}
use Rattle.dataset_meta.specs.DataValues.{DataValue}
use Rattle.dataset_meta.specs.Metas.{MetaData}
use Rattle.dataset_meta.specs.Rows.{IsRow, IsPatch, row_cut, patch_cut}

-- a key frame, a delta frame, or a keep-alive
pub data Content : Type 0 where
  Whole : (row : List DataValue) → Content
  Change : (patch : List (ℕ × DataValue)) → Content
  Alive : Content

-- the sequence number and the configuration version, where the frame has them, and its content
pub record Frame : Type 0 where
  pub number : Option ℕ
  pub major : Option ℕ
  pub minor : Option ℕ
  pub content : Content

abbrev pub IsContent : MetaData → Content → Type 0
IsContent meta (Whole row) = IsRow meta row
IsContent meta (Change patch) = IsPatch meta patch
IsContent meta Alive = ⊤

-- a frame of this data set
pub record IsFrame (meta : MetaData) (frame : Frame) : Type 0 where
  pub number : IfSome frame.number (λ n. n < 2 ^ 16)
  pub major : IfSome frame.major (λ n. n < 2 ^ 32)
  pub minor : IfSome frame.minor (λ n. n < 2 ^ 32)
  pub content : IsContent meta frame.content

-- a frame cut to the fields of a shorter meta
abbrev pub content_cut : MetaData → Content → Content
content_cut short (Whole row) = Whole (row_cut short row)
content_cut short (Change patch) = Change (patch_cut short patch)
content_cut short Alive = Alive

abbrev pub frame_cut : MetaData → Frame → Frame
frame_cut short frame =
    record {
      number = frame.number;
      major = frame.major;
      minor = frame.minor;
      content = content_cut short frame.content;
    }
