-- Where a session stands after what it lived through. Lists of steps and of deeds have the latest first.
use Rattle.std.specs.Prelude.{◌≡◌, ◌≢◌, ℕ, ◌+◌, ◌≤◌, List, [], ◌∷◌, length, map, Option, Some, None, option_and_then}
use Rattle.ua_base.specs.Journal.{LinkState}
use Rattle.pubsub_model.specs.Answers.{version_of}
use Rattle.target_cells.specs.declared.origin.Origin.{Origin}
use Rattle.version_cell.specs.Known.{Known}
use Rattle.version_cell.specs.Histories.{row_after}
use Rattle.reader_group.specs.Settings.{group_at as read_group_at}
use Rattle.reader_group.specs.Members.{seat_at}
use Rattle.reader_group.specs.Settings.{setting_of}
use Rattle.writer_group.specs.declared.sampled.Sampled.{Sampled}
use Rattle.session_model.specs.Counts.{ticks_in, pumps_in, is_closed}
use Rattle.session_model.specs.Steps.{Plan, Step}
use Rattle.session_model.specs.Sets.{metas_at}
use Rattle.session_model.specs.Deeds.{logs_at}
use Rattle.session_model.specs.Turns.{TurnsHold}
use Rattle.session_model.specs.Sends.{IsRun, TellsRun}
use Rattle.session_model.specs.Stores.{Store, stores}
use Rattle.session_model.specs.Closing.{MemberPlace}
use Rattle.session_model.specs.Keeping.{AreStepsOf}
use Rattle.session_model.specs.Lives.{account_of}
use Rattle.session_parts.specs.Rounds.{RoundStands}
use Rattle.pubsub_engine.specs.declared.session.Session.{Session}
use Rattle.pubsub_engine.specs.Holding.{plan_of, ticks_of}
use Rattle.pubsub_engine.specs.Logs.{log_by}
use Rattle.pubsub_engine.specs.Storing.{HaveStored}

-- ---- the samples

abbrev pub opening_sample : Sampled
opening_sample = record { row = record { words = row_after [] }; version = 0 }

-- what passes have seen
abbrev pub sample_of : Known → Sampled
sample_of pass = record { row = record { words = row_after pass.seen }; version = length pass.seen }

abbrev pub samples_of : List Known → List Sampled
samples_of passes = map sample_of passes

-- the last sample
abbrev pub sampled_by : Session → List Sampled
sampled_by s = s.samples.taken.items

-- ---- the session

-- it stands where these steps leave it
pub record Stands (p : Plan) (steps : List Step) (s : Session) : Type 0 where
  pub plan : plan_of s ≡ p
  pub run : IsRun p steps
  pub steps_are : AreStepsOf (ticks_of s) p steps
  pub turns : TurnsHold p steps
  pub closed : s.left.is_closed ≡ is_closed steps
  pub ticks : ticks_in steps + s.left.ticks ≤ ticks_of s + 1
  pub pumps : pumps_in steps + s.left.pumps ≡ ticks_in steps
  pub metas : s.sets.metas.items ≡ metas_at p.config steps
  pub stores_are : HaveStored p.config (λ place. stores p.config place.0 place.1 steps) s.stores
  pub round : RoundStands p steps (account_of p steps) s.round

-- where one step more leads from one session and link to another: what the link tells is then the journal, if it was before
pub record Leads (p : Plan) (before : List Step) (step : Step) (told after : Option LinkState) (s : Session) : Type 0 where
  pub stands : Stands p (step ∷ before) s
  pub tells : TellsRun p before told → TellsRun p (step ∷ before) after

-- wherever it stood, it still stands
abbrev pub KeepsStands : Session → Session → Type 0
KeepsStands old new = (p : Plan) (steps : List Step) → Stands p steps old → Stands p steps new

-- ---- where a store comes from

-- the log of this program's writer with an id, empty where there is no such writer
abbrev pub log_named : Plan → List Step → ℕ → List (ℕ × ℕ)
log_named p steps id = log_by (logs_at p steps) p.config id

-- Before the first store it is the opening row, version 0. Else, where the read group's publisher is this program, the version is the one that the writer
-- whom the reader names has in these logs at the number of the last store.
abbrev pub IsVersionStored : (ℕ → ℕ → List (ℕ × ℕ)) → Plan → MemberPlace → List Store → Option ℕ → Type 0
IsVersionStored logs p place [] version = version ≡ Some 0
IsVersionStored logs p place (last ∷ before) version =
    ((read_group_at p.config place.0).publisher ≡ p.config.publisher.id
    → version ≡ option_and_then (version_of (log_by logs p.config (seat_at (setting_of p.config place.0).seats place.1).part.writer)) last.number)
    × ((read_group_at p.config place.0).publisher ≢ p.config.publisher.id → version ≡ None)

-- the number of the last store
abbrev pub number_stored : List Store → Option ℕ
number_stored [] = None
number_stored (last ∷ before) = last.number

-- where the reader with this place has these stores, and the version in these logs
pub record IsOriginFrom (logs : ℕ → ℕ → List (ℕ × ℕ)) (p : Plan) (place : MemberPlace) (list : List Store) (origin : Origin) : Type 0 where
  pub store : origin.store ≡ length list
  pub number : origin.number ≡ number_stored list
  pub version : IsVersionStored logs p place list origin.version

-- the stores of the reader with this place, and the version in these logs
abbrev pub IsOriginWith : (ℕ → ℕ → List (ℕ × ℕ)) → Plan → List Step → MemberPlace → Origin → Type 0
IsOriginWith logs p steps place origin = IsOriginFrom logs p place (stores p.config place.0 place.1 steps) origin

-- in the whole logs
abbrev pub IsOriginOf : Plan → List Step → MemberPlace → Origin → Type 0
IsOriginOf p steps place origin = IsOriginWith (logs_at p steps) p steps place origin
