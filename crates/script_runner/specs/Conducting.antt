-- What holds of a session while the lines that aren't its threads' are run, when a line may come, and what it makes of the session. Lists of lines and of steps have
-- the latest first.
use Rattle.std.specs.Prelude.{◌≡◌, ⊤, ℕ, ◌+◌, ◌<◌, ◌≤◌, List, ◌∷◌, ◌++◌, length, reverse, Bool, true, false, Option}
use Rattle.dataset_meta.specs.declared.field.Field.{Field}
use Rattle.dataset_meta.specs.Metas.{MetaData}
use Rattle.ua_base.specs.Journal.{LinkState}
use Rattle.version_cell.specs.Sets.{pass_at}
use Rattle.ps_config.specs.declared.parts.Config.{Config}
use Rattle.ps_script.specs.declared.script.Act.{Act}
use Rattle.ps_script.specs.declared.script.Act.TheVariants as act
use Rattle.ps_script.specs.declared.script.Line.{Line}
use Rattle.ps_script.specs.declared.script.Script.{Script}
use Rattle.ps_script.specs.Sessions.{ticks_in}
use Rattle.pubsub_states.specs.Components.{IsId, counts_of}
use Rattle.writer_group.specs.declared.sampled.Sampled.{Sampled}
use Rattle.session_model.specs.Steps.{Plan, Step, Enable, Disable, Append, is_on, switches_in}
use Rattle.session_model.specs.Deeds.{component_at}
use Rattle.session_model.specs.Sends.{TellsRun}
use Rattle.session_laws.specs.Sessions.{HasSample, SamplesRise}
use Rattle.pubsub_engine.specs.declared.session.Session.{Session}
use Rattle.pubsub_engine.specs.Holding.{IsRunning, KeepsPasses, appends_left, left_of, passes_of, plan_of}
use Rattle.pubsub_engine.specs.Standing.{Stands}
use Rattle.script_player.specs.Passing.{MayPass, PassesOn}
use Rattle.script_player.specs.Plays.{plan_by}
use Rattle.script_player.specs.Player.{IsOfScript, switches_by}
use Rattle.script_player.specs.Sizes.{appended_sets}
use Rattle.script_runner.specs.Running.{IsRunBy, Logs}

-- what the session has seen of each data set
abbrev pub seen_by : Session → Logs
seen_by session set = (pass_at (passes_of session) set).seen

-- no sample is of a later version than this of its data set
abbrev pub AreEarlier : Plan → List Step → Logs → Type 0
AreEarlier p steps logs = (index : ℕ) (now : MetaData) (sample : Sampled) → HasSample p steps index now sample → sample.version ≤ length (logs index)

-- these lines, the first of the script's, were run: each tick sampled versions that the session has seen, and they didn't fall
pub record HasConducted (config : Config) (script : Script) (lines : List Line) (told : Option LinkState) (session : Session) : Type 0 where
  pub steps : List Step
  pub stands : Stands (plan_by config script) steps session
  pub tells : TellsRun (plan_by config script) steps told
  pub switches : switches_in steps ≡ switches_by lines
  pub ticks : (left_of session).ticks + ticks_in lines ≡ ticks_in script.lines + 1
  pub pumps : (left_of session).pumps ≡ 0
  pub running : IsRunning session
  pub of_script : IsOfScript session
  pub appends : appended_sets (reverse lines) ++ appends_left session ≡ appended_sets script.lines
  pub ran : IsRunBy (plan_by config script) (seen_by session) lines steps
  pub rise : SamplesRise (plan_by config script) steps
  pub earlier : AreEarlier (plan_by config script) steps (seen_by session)

-- ---- a line

pub record MaySwitch (id : ℕ) (session : Session) : Type 0 where
  pub running : IsRunning session
  pub there : IsId (counts_of (plan_of session).config) id

pub record MayAppend (session : Session) : Type 0 where
  pub running : IsRunning session
  pub left : 0 < length (appends_left session)

-- a line may come; one that is a thread's, or the link's, always may
abbrev pub MayRun : Act → Session → Type 0
MayRun (act.Write thread set patch) session = ⊤
MayRun (act.Tick ms) session = MayPass ms false session
MayRun (act.Enable id) session = MaySwitch id session
MayRun (act.Disable id) session = MaySwitch id session
MayRun (act.Fated k fate) session = ⊤
MayRun (act.Watch thread reader times) session = ⊤
MayRun (act.Append set) session = MayAppend session

-- a component was switched by this step, if it was on or off as the step asks
pub record Switches (step : Step) (id : ℕ) (was_on : Bool) (old new : Session) : Type 0 where
  pub stands : (p : Plan) (steps : List Step) → Stands p steps old → is_on p.config steps (component_at p.config id) ≡ was_on → Stands p (step ∷ steps) new
  pub keeps : KeepsPasses old new
  pub left : left_of new ≡ left_of old
  pub appends : appends_left new ≡ appends_left old

-- the next field was appended
pub record Appends (old new : Session) : Type 0 where
  pub set : ℕ
  pub stands : (p : Plan) (steps : List Step) → Stands p steps old → (field : Field) × Stands p (Append set field ∷ steps) new
  pub keeps : KeepsPasses old new
  pub left : left_of new ≡ left_of old
  pub next : appends_left old ≡ set ∷ appends_left new

-- what a line that is no tick makes of the session
abbrev pub TurnsTo : Act → Session → Session → Type 0
TurnsTo (act.Write thread set patch) old new = new ≡ old
TurnsTo (act.Tick ms) old new = new ≡ old
TurnsTo (act.Enable id) old new = Switches (Enable id) id false old new
TurnsTo (act.Disable id) old new = Switches (Disable id) id true old new
TurnsTo (act.Fated k fate) old new = new ≡ old
TurnsTo (act.Watch thread reader times) old new = new ≡ old
TurnsTo (act.Append set) old new = Appends old new

-- what a line makes of the session, and of what its link tells
abbrev pub RunsTo : Act → Session → Session → Option LinkState → Option LinkState → Type 0
RunsTo (act.Write thread set patch) old new told after = (new ≡ old) × (after ≡ told)
RunsTo (act.Tick ms) old new told after = PassesOn ms false old new told after
RunsTo (act.Enable id) old new told after = Switches (Enable id) id false old new × (after ≡ told)
RunsTo (act.Disable id) old new told after = Switches (Disable id) id true old new × (after ≡ told)
RunsTo (act.Fated k fate) old new told after = (new ≡ old) × (after ≡ told)
RunsTo (act.Watch thread reader times) old new told after = (new ≡ old) × (after ≡ told)
RunsTo (act.Append set) old new told after = Appends old new × (after ≡ told)
