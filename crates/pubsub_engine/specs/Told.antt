-- What each part of a session tells when it is closed.
use Rattle.std.specs.Prelude.{◌≡◌, ℕ, List, length, map}
use Rattle.std.specs.List.{AllZip}
use Rattle.ps_report.specs.declared.closed.Closed.{Closed}
use Rattle.app_threads.specs.declared.done.Done.{Done}
use Rattle.session_model.specs.Steps.{Plan, Step}
use Rattle.session_model.specs.Deeds.{group_indexes}
use Rattle.session_model.specs.Events.{read_group_indexes}
use Rattle.session_model.specs.Lives.{Account}
use Rattle.session_model.specs.Closing.{reader_places, writer_places}
use Rattle.session_parts.specs.Showing.{link_of}
use Rattle.session_parts.specs.Standing.{AreReceivesIn, AreSendsIn}
use Rattle.pubsub_engine.specs.declared.session.Session.{Session}
use Rattle.pubsub_engine.specs.Authored.{AreHistories, watches_in_bytes}
use Rattle.pubsub_engine.specs.Ending.{HavePublished, HaveReceived}
use Rattle.pubsub_engine.specs.Holding.{tells_versions}
use Rattle.pubsub_engine.specs.LifeEnds.{IsToldBy, IsWriterEndBy, group_end_by, read_group_end_by}
use Rattle.pubsub_engine.specs.Logs.{log_after, logs_told}

-- these steps of a plan, of which this became, leave the session's publisher as it is, whose logs keep so many data frames
abbrev pub Publishes : Session → ℕ → Plan → List Step → Account → Type 0
Publishes s most p steps a = HavePublished s.config.now most p steps a s.round.tree s.round.publisher

-- so they leave its subscriber
abbrev pub Receives : Session → Plan → List Step → Account → Type 0
Receives s p steps a = HaveReceived s.config.now p steps a s.round.tree s.round.subscriber

pub record TellsParts (s : Session) (dones : List Done) (closed : Closed) : Type 0 where
  pub histories : AreHistories s.samples.passes dones (length s.sets.metas.items) closed.histories
  pub groups : (most : ℕ) (p : Plan) (steps : List Step) (a : Account) → Publishes s most p steps a
      → closed.groups ≡ map (group_end_by p steps a) (group_indexes p.config)
  pub writers : (most : ℕ) (p : Plan) (steps : List Step) (a : Account) → Publishes s most p steps a
      → AllZip (IsWriterEndBy (log_after most p.config a.deeds) p steps a) (writer_places p.config) closed.writers
  pub read_groups : (p : Plan) (steps : List Step) (a : Account) → Receives s p steps a
      → closed.read_groups ≡ map (read_group_end_by p steps a) (read_group_indexes p.config)
  pub readers : (most : ℕ) (p : Plan) (steps : List Step) (a : Account) → Publishes s most p steps a → Receives s p steps a
      → AllZip (IsToldBy (logs_told (tells_versions s) (log_after most p.config a.deeds)) p steps a) (reader_places p.config) closed.readers
  pub watches : closed.watches ≡ watches_in_bytes dones
  pub link : (steps : List Step) (a : Account) → AreSendsIn a.journal s.round.publisher.link → AreReceivesIn a.journal steps s.round.receiving
      → closed.link ≡ link_of a.journal steps
