-- What readers keep of the frames of the lines: *Records* over them, in their order.
use Rattle.std.specs.Prelude.{⊤, ℕ, ◌==◌, Bool, ◌&&◌, List, reverse, filter_map, Option, Some, None, if◌then◌else◌}
use Rattle.frame_codec.specs.Frames.{Frame}
use Rattle.pubsub_model.specs.Records.{Arrival}
use Rattle.dataset_reader.specs.declared.took.Numbering.{Numbering}
use Rattle.dataset_reader.specs.declared.took.Numbering.TheVariants as numberings
use Rattle.dataset_reader.specs.Kept.{Kept}
use Rattle.dataset_reader.specs.Cases.{frame_case}
use Rattle.dataset_reader.specs.Keeping.{Event, Framed, AreArrivals, AreNearInEach, KeepsBy, kept_after}
use Rattle.ps_config.specs.declared.parts.Config.{Config}
use Rattle.ps_config.specs.declared.parts.ReaderPart.{ReaderPart}
use Rattle.reader_group.specs.Members.{numbering_of}
use Rattle.json_frames.specs.Parts.{Part, meta_at}

-- these are the writer and the data set that the reader reads
abbrev pub is_for : ReaderPart → ℕ → ℕ → Bool
is_for reader writer set = writer == reader.writer && set == reader.dataset

-- such a part brings its frame, with no nonce's number
abbrev pub brought : ReaderPart → Part → Option Event
brought reader part = if is_for reader part.writer part.set then Some (Framed part.frame None) else None

-- what comes to the reader, the latest first
abbrev pub came : ReaderPart → List Part → List Event
came reader parts = filter_map (brought reader) (reverse parts)

-- what it keeps
abbrev pub kept_for : Config → List Part → ReaderPart → Kept
kept_for config parts reader =
    kept_after (numbering_of reader.numbering) (meta_at config.dataset reader.dataset).major (came reader parts)

-- what is kept after one frame more, where it is for the reader
abbrev pub kept_on : Numbering → ℕ → Kept → Bool → Frame → Kept
kept_on numbering major kept ours frame = if ours then (frame_case numbering major kept frame None).0 else kept

-- by numbers, the places of the arrivals are near
abbrev pub AreNearBy : Numbering → List Arrival → Type 0
AreNearBy numberings.Message arrivals = AreNearInEach arrivals
AreNearBy numberings.Unnumbered arrivals = ⊤

-- The events can be arrivals such as these, and what is kept after them is what *Records* says of all that they can be. A number of 16 bits names a place up to
-- a multiple of 65,536; near places go by what was before.
pub record KeepsRecords (numbering : Numbering) (major : ℕ) (events : List Event) : Type 0 where
  pub arrivals : List Arrival
  pub are : AreArrivals numbering major events arrivals
  pub near : AreNearBy numbering arrivals
  pub keeps : (others : List Arrival) → AreArrivals numbering major events others → AreNearBy numbering others
      → KeepsBy numbering others (kept_after numbering major events)

-- the same of a reader
abbrev pub HasRecords : Config → List Part → ReaderPart → Type 0
HasRecords config parts reader =
    KeepsRecords (numbering_of reader.numbering) (meta_at config.dataset reader.dataset).major (came reader parts)
