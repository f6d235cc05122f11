-- Frames in words: which stand for a frame of a meta, and for which.
use Rattle.std.specs.Prelude.{◌≡◌, ⊤, List, Result, Ok, Err}
use Rattle.dataset_meta.specs.declared.field.Field.{Field}
use Rattle.dataset_meta.specs.Metas.{MetaData}
use Rattle.row_words.specs.Belonging.{Belongs, row_in, spelled_row}
use Rattle.row_words.specs.Patches.{IsPatchOf, patch_in, spelled_patch}
use Rattle.frame_codec.specs.declared.fault.FrameFault.{FrameFault}
use Rattle.frame_codec.specs.declared.frame.Frame.{Frame as FrameWords}
use Rattle.frame_codec.specs.declared.frame.FrameKind.{FrameKind}
use Rattle.frame_codec.specs.declared.frame.FrameKind.TheVariants as kinds
use Rattle.frame_codec.specs.Frames.{Content, Whole, Change, Alive, Frame}

-- what a frame in words stands for
abbrev pub content_in : List Field → FrameKind → Content
content_in fields (kinds.Whole row) = Whole (row_in fields row.words)
content_in fields (kinds.Change patch) = Change (patch_in fields patch)
content_in fields kinds.Alive = Alive

abbrev pub frame_in : List Field → FrameWords → Frame
frame_in fields frame =
    record {
      number = frame.number;
      major = frame.major;
      minor = frame.minor;
      content = content_in fields frame.kind;
    }

-- the words are those of a row, or of a patch, of this meta
abbrev pub IsKindOf : MetaData → FrameKind → Type 0
IsKindOf meta (kinds.Whole row) = Belongs meta row.words
IsKindOf meta (kinds.Change patch) = IsPatchOf meta patch
IsKindOf meta kinds.Alive = ⊤

abbrev pub IsFrameOf : MetaData → FrameWords → Type 0
IsFrameOf meta frame = IsKindOf meta frame.kind

-- the words of a frame
abbrev pub spelled_kind : List Field → Content → FrameKind
spelled_kind fields (Whole row) = kinds.Whole (record { words = spelled_row fields row })
spelled_kind fields (Change patch) = kinds.Change (spelled_patch fields patch)
spelled_kind fields Alive = kinds.Alive

abbrev pub spelled_frame : List Field → Frame → FrameWords
spelled_frame fields frame =
    record {
      number = frame.number;
      kind = spelled_kind fields frame.content;
      major = frame.major;
      minor = frame.minor;
    }

-- the frame that a call answers is one of this meta, and stands for what is read
abbrev pub GivesFrame : MetaData → Result FrameWords FrameFault → Result Frame FrameFault → Type 0
GivesFrame meta (Ok frame) read = IsFrameOf meta frame × (read ≡ Ok (frame_in meta.fields frame))
GivesFrame meta (Err fault) read = read ≡ Err fault
