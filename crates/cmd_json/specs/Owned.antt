-- Whose frames the lines have: those of the session's writers, with the numbers of the places that these gave them.
use Rattle.std.specs.Prelude.{◌≡◌, ℕ, ◌<◌, List, [], ◌∷◌, length, true, Some, ⊤}
use Rattle.dataset_meta.specs.Metas.{MetaData}
use Rattle.pubsub_model.specs.Answers.{IsAnswer}
use Rattle.pubsub_model.specs.Cadence.{Answered}
use Rattle.pubsub_model.specs.Frames.{PlacedFrame, carried, placed_cut}
use Rattle.pubsub_model.specs.Records.{Arrival}
use Rattle.frame_codec.specs.Carrying.{content_of}
use Rattle.frame_codec.specs.Frames.{Frame}
use Rattle.dataset_reader.specs.Keeping.{AreArrivals, IsOfMajor, KeepsBy}
use Rattle.ps_config.specs.declared.parts.Config.{Config}
use Rattle.ps_config.specs.declared.parts.ReaderPart.{ReaderPart}
use Rattle.writer_group.specs.Parts.{group_at}
use Rattle.writer_group.specs.Payloads.{meta_at as meta_of_writer, writer_at}
use Rattle.reader_group.specs.Members.{numbering_of}
use Rattle.reader_group.specs.Settings.{group_at as read_group_at}
use Rattle.group_laws.specs.Matching.{reader_at}
use Rattle.session_model.specs.Deeds.{answered_at}
use Rattle.session_model.specs.Steps.{Plan, Step}
use Rattle.session_laws.specs.Plays.{IsAnswerBy, ItemsAre}
use Rattle.session_laws.specs.Reading.{IsMatchedIn}
use Rattle.json_frames.specs.Parts.{Part, meta_at}
use Rattle.json_text.specs.Matching.{is_plain}
use Rattle.json_text.specs.Readers.{AreNearBy, came, kept_for}

-- ---- a part of a line

-- The frame is what a writer answered at some turn, cut to the fields of the meta: with the number of the place that the writer gave it, and with no other
-- major version.
pub record IsAnsweredFrame (meta : MetaData) (answered : List Answered) (frame : Frame) : Type 0 where
  pub placed : PlacedFrame
  pub answer : IsAnswer answered placed
  pub number : frame.number ≡ Some (carried placed)
  pub content : frame.content ≡ content_of (placed_cut meta placed)
  pub major : IsOfMajor meta.major frame.major

-- the part has the id and the data set of the writer with index w of the group g
pub record IsOfWriter (config : Config) (g w : ℕ) (part : Part) : Type 0 where
  pub id : part.writer ≡ (writer_at (group_at config g) w).id
  pub dataset : part.set ≡ (writer_at (group_at config g) w).dataset

-- the writer is one of an unsecured group in a dynamic layout
pub record IsPlainWriter (config : Config) (g w : ℕ) : Type 0 where
  pub there : g < length config.group
  pub within : w < length (group_at config g).writer
  pub plain : is_plain (group_at config g).layout (group_at config g).security ≡ true

-- each part of such a writer is what it answered
abbrev pub HasOwnFrames : Plan → List Step → Part → Type 0
HasOwnFrames p steps part =
    (g w : ℕ) → IsPlainWriter p.config g w → IsOfWriter p.config g w part
    → IsAnsweredFrame (meta_of_writer (group_at p.config g) p.config.dataset w) (answered_at p g w steps) part.frame

abbrev pub HaveOwnFrames : Plan → List Step → List Part → Type 0
HaveOwnFrames p steps [] = ⊤
HaveOwnFrames p steps (part ∷ parts) = HasOwnFrames p steps part × HaveOwnFrames p steps parts

-- ---- a reader of the lines

-- the reader with index i of the read group r, which is unsecured and in a dynamic layout, is matched to the writer with index w of the group g
pub record IsToldFor (config : Config) (r i g w : ℕ) : Type 0 where
  pub there : g < length config.group
  pub plain : is_plain (read_group_at config r).layout (read_group_at config r).security ≡ true
  pub matched : IsMatchedIn config r i g w

-- What comes to the reader of these parts is what its writer answered, at the writer's own places, which are near; and what it keeps is what *Records* says of
-- just this.
pub record KeepsOwn (config : Config) (reader : ReaderPart) (parts : List Part) (meta : MetaData) (answered : List Answered) : Type 0 where
  pub arrivals : List Arrival
  pub are : AreArrivals (numbering_of reader.numbering) (meta_at config.dataset reader.dataset).major (came reader parts) arrivals
  pub own : ItemsAre (IsAnswerBy reader.numbering meta answered) arrivals
  pub near : AreNearBy (numbering_of reader.numbering) arrivals
  pub keeps : KeepsBy (numbering_of reader.numbering) arrivals (kept_for config parts reader)

abbrev pub HasOwnRecords : Plan → List Step → List Part → Type 0
HasOwnRecords p steps parts =
    (r i g w : ℕ) → IsToldFor p.config r i g w
    → KeepsOwn p.config (reader_at (read_group_at p.config r) i) parts (meta_of_writer (group_at p.config g) p.config.dataset w) (answered_at p g w steps)

-- both
pub record AreOwn (p : Plan) (steps : List Step) (parts : List Part) : Type 0 where
  pub frames : HaveOwnFrames p steps parts
  pub records : HasOwnRecords p steps parts
