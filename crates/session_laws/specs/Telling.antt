-- THE HEADLINE, of what a closed session tells, as one record.
use Rattle.std.specs.Prelude.{◌≡◌, ℕ, ◌<◌, List, ◌∷◌, ◌++◌, length, true}
use Rattle.dataset_meta.specs.DataValues.{DataValue}
use Rattle.pubsub_model.specs.Cadence.{WriterTurn, WriterDeed, HadTurn, is_data}
use Rattle.ps_report.specs.declared.closed.Closed.{Closed}
use Rattle.ps_report.specs.declared.closed.ReaderEnd.{ReaderEnd}
use Rattle.ps_report.specs.declared.closed.WriterEnd.{WriterEnd}
use Rattle.writer_group.specs.Payloads.{writer_at}
use Rattle.session_model.specs.Steps.{Plan, Step}
use Rattle.session_model.specs.Deeds.{writer_deeds}
use Rattle.writer_group.specs.Parts.{group_at}
use Rattle.session_model.specs.Keeping.{AreSteps, IsPlan}
use Rattle.session_laws.specs.Reading.{IsMatchedIn}
use Rattle.session_model.specs.Sends.{IsRun}
use Rattle.session_laws.specs.Headline.{PublishesVersion, answered_turn}
use Rattle.session_laws.specs.Pasts.{settings_at}
use Rattle.session_laws.specs.Printed.{EndsReader, EndsWriter, TellsReader, TellsWriter}
use Rattle.session_laws.specs.Complete.{ClosingComes, IsNewestTold}
use Rattle.session_laws.specs.Sessions.{AreVersions, ClosesWith, SamplesRise, TakesWhatWasSent}

-- a session of an accepted plan, over any link, whose samples are rows of one history for each data set; `rows` are those of its versions
pub record HasRun (p : Plan) (steps : List Step) (rows : ℕ → ℕ → List DataValue) : Type 0 where
  pub plan : IsPlan p
  pub steps_are : AreSteps p steps
  pub run : IsRun p steps
  pub rise : SamplesRise p steps
  pub versions : AreVersions p steps rows

-- a writer's told log is its own, and its versions never fall
pub record IsWriterTold (p : Plan) (g w : ℕ) (steps : List Step) (closed : Closed) : Type 0 where
  pub end : WriterEnd
  pub ends : EndsWriter p.config closed g w end
  pub tells : TellsWriter p g w steps end

-- a matched reader is told by its writer's told log
pub record IsReaderTold (p : Plan) (r i g w : ℕ) (steps : List Step) (rows : ℕ → ℕ → List DataValue) (closed : Closed) : Type 0 where
  pub reader : ReaderEnd
  pub writer : WriterEnd
  pub ends : EndsReader p.config closed r i reader
  pub its_writer : EndsWriter p.config closed g w writer
  pub tells : TellsReader p r i g w steps rows writer.log reader

-- Every data message of a writer stands for one whole version of its data set's single history, and never an older one than its last. A
-- matched reader whose read group takes nothing but what was sent, whatever else comes, holds what follows, whatever datagrams are lost,
-- repeated or reordered. One that goes by numbers holds exactly the published version that the unbroken run of its arrivals from a key
-- frame names, or has said why it waits. One that ignores numbers holds the row of the last key frame that came since it was cut last. The
-- frame of its writer's closing turn may have come to it in one of the ways of `ClosingComes`. Then it is told to hold the row of the
-- version that the closing tick sampled, cut to the reader's fields, and by numbers the version itself.
pub record TellsHeadline (p : Plan) (steps : List Step) (rows : ℕ → ℕ → List DataValue) (closed : Closed) : Type 0 where
  pub whole_versions : (g w : ℕ) (later before : List WriterDeed) (turn : WriterTurn) → w < length (group_at p.config g).writer
      → writer_deeds p g w steps ≡ later ++ HadTurn turn ∷ before
      → is_data (answered_turn (settings_at (group_at p.config g) w) before turn) ≡ true
      → PublishesVersion p steps (settings_at (group_at p.config g) w) (writer_at (group_at p.config g) w).dataset rows before turn
  pub never_older : (g w : ℕ) → w < length (group_at p.config g).writer → IsWriterTold p g w steps closed
  pub readers : (r i g w : ℕ) → IsMatchedIn p.config r i g w → TakesWhatWasSent p r steps
      → IsReaderTold p r i g w steps rows closed
  pub newest : (r i g w version : ℕ) (own : WriterTurn) → IsMatchedIn p.config r i g w → TakesWhatWasSent p r steps
      → ClosesWith steps (writer_at (group_at p.config g) w).dataset version → ClosingComes p r i g w steps own
      → IsNewestTold p r i g w rows closed version
