-- The headline of a session: what its matched readers hold is what its writers published, of versions that never fall.
use Rattle.std.specs.Prelude.{◌≡◌, ℕ, ◌%◌, ◌<◌, List, ◌∷◌, length, Contains, Option, Some}
use Rattle.dataset_meta.specs.DataValues.{DataValue}
use Rattle.dataset_meta.specs.Metas.{MetaData}
use Rattle.dataset_meta.specs.Rows.{IsRow, row_cut}
use Rattle.pubsub_model.specs.Cadence.{Settings, WriterTurn, WriterDeed, HadTurn, Answered, answer, cadence, frames_of, is_fresh}
use Rattle.pubsub_model.specs.Frames.{published}
use Rattle.writer_group.specs.declared.sampled.Sampled.{Sampled}
use Rattle.reader_group.specs.Members.{seat_at}
use Rattle.reader_group.specs.Settings.{setting_of}
use Rattle.writer_group.specs.Payloads.{writer_at}
use Rattle.session_model.specs.Steps.{Plan, Step}
use Rattle.session_model.specs.Deeds.{answered_at, log_at}
use Rattle.writer_group.specs.Parts.{group_at}
use Rattle.session_model.specs.Keeping.{AreSteps, IsPlan}
use Rattle.session_laws.specs.Reading.{IsMatchedIn, arrivals_at, first_number_of}
use Rattle.session_model.specs.Sends.{IsRun}
use Rattle.pubsub_model.specs.Answers.{IsRowSent, version_of}
use Rattle.session_laws.specs.Plays.{ItemsAre, IsAnswerBy}
use Rattle.session_laws.specs.Sessions.{HasSample, SamplesRise, TakesWhatWasSent}

-- The reader with index i of the read group r is matched to the writer with index w of the group g, in a session of the plan; each datagram that the read group
-- takes was sent before.
pub record InSession (p : Plan) (r i g w : ℕ) (steps : List Step) : Type 0 where
  pub plan : IsPlan p
  pub steps_are : AreSteps p steps
  pub run : IsRun p steps
  pub rise : SamplesRise p steps
  pub there : g < length p.config.group
  pub matched : IsMatchedIn p.config r i g w
  pub honest : TakesWhatWasSent p r steps

-- the fields of a reader
abbrev pub meta_of : Plan → ℕ → ℕ → MetaData
meta_of p r i = (seat_at (setting_of p.config r).seats i).meta

-- each item that came to the reader is what the writer answered at some turn, cut to the reader's fields
abbrev pub ComesFrom : Plan → ℕ → ℕ → ℕ → ℕ → List Step → Type 0
ComesFrom p r i g w steps =
    ItemsAre (IsAnswerBy (seat_at (setting_of p.config r).seats i).part.numbering (meta_of p r i) (answered_at p g w steps))
    (arrivals_at p.config r i (first_number_of p.config g w) steps)

-- The row is that of the version which the writer's log has at the place of the number, and names by it, cut to the reader's fields. It is
-- that of the writer's turn whose data frame has this place, of this version. `rows` are those of the versions of each data set.
pub record IsPublished (p : Plan) (r i g w : ℕ) (steps : List Step) (rows : ℕ → ℕ → List DataValue) (number : Option ℕ) (row : List DataValue) : Type 0 where
  pub place : ℕ
  pub version : ℕ
  pub sent : IsRowSent (meta_of p r i) (answered_at p g w steps) (record { place = place; row = row })
  pub its_version : sent.turn.turn.version ≡ version
  pub logged : Contains (log_at p g w steps) (place, version)
  pub named : version_of (log_at p g w steps) (place % 65536) ≡ Some version
  pub number_is : (n : ℕ) → number ≡ Some n → n ≡ place % 65536
  pub row_is : row ≡ row_cut (meta_of p r i) (rows (writer_at (group_at p.config g) w).dataset version)

-- ---- published rows

-- a turn after these deeds, with its answer
abbrev pub answered_turn : Settings → List WriterDeed → WriterTurn → Answered
answered_turn s before turn = record { turn = turn; answer = answer s (is_fresh before) (cadence s before) turn }

-- What the writer's frames up to this turn publish is the turn's own row: that of its version, which some tick sampled, cut to the fields that the data set had
-- then, which are those of the turn's row.
pub record PublishesVersion (p : Plan) (steps : List Step) (s : Settings) (index : ℕ) (rows : ℕ → ℕ → List DataValue) (before : List WriterDeed) (turn : WriterTurn) : Type 0 where
  pub sample : Sampled
  pub now : MetaData
  pub sampled : HasSample p steps index now sample
  pub version : turn.version ≡ sample.version
  pub fields : IsRow now turn.row
  pub turn_row : turn.row ≡ row_cut now (rows index turn.version)
  pub row : published (frames_of (cadence s (HadTurn turn ∷ before))) ≡ row_cut now (rows index turn.version)
