-- Messages of the JSON mapping (OPC 10000-14 section 7.2.5): a publisher, and for each part a writer, the
-- place of its data set's meta, and a frame.
use Rattle.std.specs.Prelude.{◌≡◌, ℕ, ◌+◌, ◌<◌, ◌^◌, ◌⊎◌, false, List, [], ◌∷◌, map, length, slice_index_or, IsSome, Option, None}
use Rattle.dataset_meta.specs.DataValues.{DataValue}
use Rattle.dataset_meta.specs.Metas.{MetaData, IsMeta}
use Rattle.frame_codec.specs.Frames.{Content, Whole, Change, Alive, Frame, IsFrame}
use Rattle.frame_codec.specs.Words.{frame_in, IsFrameOf}
use Rattle.json_frames.specs.declared.message.JsonPart.{JsonPart}

-- a DataSetMessage: its writer, the place of its data set's meta, and its frame
pub record Part : Type 0 where
  pub writer : ℕ
  pub set : ℕ
  pub frame : Frame

-- what stands for a meta where there is none
abbrev pub no_meta : MetaData
no_meta = record { name = []; fields = []; major = 0; minor = 0; quality = false }

abbrev pub meta_at : List MetaData → ℕ → MetaData
meta_at metas set = slice_index_or metas set no_meta

-- what a part in words stands for
abbrev pub part_in : List MetaData → JsonPart → Part
part_in metas part =
    record {
      writer = part.writer;
      set = part.set;
      frame = frame_in (meta_at metas part.set).fields part.frame;
    }

abbrev pub parts_in : List MetaData → List JsonPart → List Part
parts_in metas parts = map (part_in metas) parts

-- both versions are there, or neither
abbrev pub HasVersions : Option ℕ → Option ℕ → Type 0
HasVersions major minor = (IsSome major × IsSome minor) ⊎ ((major ≡ None) × (minor ≡ None))

-- a part that can be written: its set is a meta's place, its frame is one of that meta and has a number,
-- and both versions or neither
pub record IsPart (metas : List MetaData) (part : Part) : Type 0 where
  pub writer : part.writer < 2 ^ 16
  pub set : part.set < length metas
  pub meta : IsMeta (meta_at metas part.set).fields
  pub frame : IsFrame (meta_at metas part.set) part.frame
  pub number : IsSome part.frame.number
  pub versions : HasVersions part.frame.major part.frame.minor

-- a part in words that can be written: its set is a meta's place, its words are those of a frame of that
-- meta with a number, and with both versions or neither
pub record IsPartOf (metas : List MetaData) (part : JsonPart) : Type 0 where
  pub set : part.set < length metas
  pub frame : IsFrameOf (meta_at metas part.set) part.frame
  pub number : IsSome part.frame.number
  pub versions : HasVersions part.frame.major part.frame.minor

-- a whole row's values with their indexes, from this one on
abbrev pub numbered : ℕ → List DataValue → List (ℕ × DataValue)
numbered index [] = []
numbered index (x ∷ row) = (index, x) ∷ numbered (index + 1) row

-- the fields that a content names, with their values
abbrev pub named : Content → List (ℕ × DataValue)
named (Whole row) = numbered 0 row
named (Change patch) = patch
named Alive = []
