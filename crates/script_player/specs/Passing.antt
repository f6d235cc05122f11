-- A sample, a tick with it, and a pump: when they may come, and what they make of a session. Lists of steps have the latest first.
use Rattle.std.specs.Prelude.{◌≡◌, ℕ, ◌+◌, ◌<◌, ◌≤◌, List, ◌∷◌, length, Bool, true, Option, if◌then◌else◌}
use Rattle.ua_base.specs.Journal.{Entry as LinkEntry, LinkState}
use Rattle.ps_script.specs.declared.script.Act.{Act}
use Rattle.ps_script.specs.Sessions.{is_tick}
use Rattle.version_cell.specs.Known.{Known}
use Rattle.version_cell.specs.Passes.{SeesMore}
use Rattle.version_cell.specs.Sets.{EachSeesLawful, pass_at}
use Rattle.session_model.specs.Counts.{most_ms}
use Rattle.session_model.specs.Steps.{Plan, Step, Tick, Pump}
use Rattle.session_model.specs.Sends.{TellsRun}
use Rattle.pubsub_engine.specs.declared.session.Session.{Session}
use Rattle.pubsub_engine.specs.Holding.{IsRunning, appends_left, left_of, logged_of, passes_of, plan_of, ticks_needed, ticks_of}
use Rattle.pubsub_engine.specs.Standing.{Stands, samples_of}

-- one session was opened for as many ticks, and for as long logs, as the other
pub record LastsAs (old new : Session) : Type 0 where
  pub ticks : ticks_of new ≡ ticks_of old
  pub logged : logged_of new ≡ logged_of old

-- a tick may come, the closing one or another
pub record MayPass (ms : ℕ) (closing : Bool) (session : Session) : Type 0 where
  pub running : IsRunning session
  pub left : ticks_needed closing ≤ (left_of session).ticks
  pub short : ms ≤ most_ms
  pub still : closing ≡ true → ms ≡ 0

-- wherever the session stood, it stands a tick with these samples and a pump later, and what the link tells is then the journal, if it was before
abbrev pub LeadsPast : ℕ → Bool → List Known → Session → Session → Option LinkState → Option LinkState → Type 0
LeadsPast ms closing passes old new told after =
    (p : Plan) (steps : List Step) → Stands p steps old → (done : List Bool) × (entries : List LinkEntry)
    × Stands p (Pump entries ∷ Tick ms closing (samples_of passes) done ∷ steps) new
    × (TellsRun p steps told → TellsRun p (Pump entries ∷ Tick ms closing (samples_of passes) done ∷ steps) after)

-- what a sample, a tick with it, and a pump make of a session, and of what its link tells
pub record PassesOn (ms : ℕ) (closing : Bool) (old new : Session) (told after : Option LinkState) : Type 0 where
  pub more : (set : ℕ) → set < length (passes_of old)
      → SeesMore (pass_at (passes_of old) set) (pass_at (passes_of new) set)
  pub lawful : EachSeesLawful (passes_of new)
  pub leads : LeadsPast ms closing (passes_of new) old new told after
  pub ticks : (left_of new).ticks + 1 ≡ (left_of old).ticks
  pub pumps : (left_of new).pumps ≡ (left_of old).pumps
  pub closed : (left_of new).is_closed ≡ closing
  pub appends : appends_left new ≡ appends_left old
  pub plan : plan_of new ≡ plan_of old
  pub lasts : LastsAs old new

-- how often the pump of a line is answered Nothing at most: that of a tick once, and the other lines have none
abbrev pub nothings_by : Act → ℕ
nothings_by what = if is_tick what then 1 else 0
