-- A sample, a tick with it, and a pump, one after another.
use Rattle.std.proofs.Common.{◌≡◌, ℕ, ◌-◌, ◌<◌, ◌≤◌, Bool, List, ◌∷◌, length, get_or, sym, ap, ◌∙◌, subst, arith}
use Rattle.std.specs.Prelude.{Option}
use Rattle.ua_base.specs.Journal.{Entry as LinkEntry, LinkState}
use Rattle.writer_group.specs.declared.sampled.Sampled.{Sampled}
use Rattle.version_cell.specs.Known.{Known}
use Rattle.version_cell.specs.Cells.{CellData}
use Rattle.version_cell.specs.Passes.{SeesMore}
use Rattle.version_cell.specs.Sets.{EachSeesLawful, pass_at}
use Rattle.version_cell.proofs.Logs.{starts_length}
use Rattle.session_model.specs.Steps.{Plan, Step, Tick, Pump}
use Rattle.session_model.specs.Sends.{TellsRun}
use Rattle.pubsub_engine.specs.declared.session.Left.{Left}
use Rattle.pubsub_engine.specs.declared.session.Session.{Session}
use Rattle.pubsub_engine.specs.Holding.{AreTargetsOf, ChangesSamples, CountsPump, CountsTick, IsBankOf, IsSession, KeepsPasses, MayPump, MayTick, appends_left, keeper_of, left_of, logged_of, passes_of, plan_of, ticks_of}
use Rattle.pubsub_engine.specs.Standing.{KeepsStands, Leads, Stands, sampled_by, samples_of}
use Rattle.target_cells.specs.Keeping.{TargetsData}
use Rattle.script_player.specs.declared.player.Player.{Player}
use Rattle.script_player.specs.Passing.{LeadsPast, MayPass, PassesOn}
use Rattle.script_player.specs.Player.{IsPlayer}
use Rattle.script_player.proofs.Staying.{bank-stays, no-more-later, passes-last, script-stays, targets-stay}

-- wherever a session stood, a tick with its sample leads on
abbrev pub TickLeads : ℕ → Bool → Session → Session → Option LinkState → Option LinkState → Type 0
TickLeads ms closing old new told after =
    (p : Plan) (steps : List Step) → Stands p steps old → (done : List Bool) × Leads p steps (Tick ms closing (sampled_by old) done) told after new

-- wherever it stood, a pump leads on
abbrev pub PumpLeads : Session → Session → Option LinkState → Option LinkState → Type 0
PumpLeads old new told after =
    (p : Plan) (steps : List Step) → Stands p steps old → (entries : List LinkEntry) × Leads p steps (Pump entries) told after new

-- what the calls say, by the session before, behind the sample, behind the tick, and then
pub record AreTurns (ms : ℕ) (closing : Bool) (old sampled ticked new : Session) (told between after : Option LinkState) : Type 0 where
  pub sample_is : sampled_by sampled ≡ samples_of (passes_of sampled)
  pub more : (set : ℕ) → set < length (passes_of old) → SeesMore (pass_at (passes_of old) set) (pass_at (passes_of sampled) set)
  pub lawful : EachSeesLawful (passes_of sampled)
  pub changes : ChangesSamples old sampled
  pub stood : KeepsStands old sampled
  pub counts : CountsTick closing (left_of sampled) (left_of ticked)
  pub leads : TickLeads ms closing sampled ticked told between
  pub keeps : KeepsPasses sampled ticked
  pub appends : appends_left ticked ≡ appends_left sampled
  pub pumped : CountsPump (left_of ticked) (left_of new)
  pub leads_on : PumpLeads ticked new between after
  pub passes : passes_of new ≡ passes_of ticked
  pub plan : plan_of new ≡ plan_of ticked
  pub appends_then : appends_left new ≡ appends_left ticked

-- the tick may come behind the sample
pub tick-may : (ms : ℕ) (closing : Bool) (old sampled : Session) → MayPass ms closing old → IsSession sampled → ChangesSamples old sampled → MayTick ms closing sampled
tick-may ms closing old sampled may holds changes =
    let left = ap left_of changes in
    let ticks = ap (λ (l : Left). l.ticks) left in
    record {
      session = holds;
      running = ap (λ (l : Left). l.is_closed) left ∙ may.running;
      left = (let n = may.left in omega (arith, n, ticks));
      short = may.short;
      still = may.still;
    }

-- and the pump behind the tick
pub pump-may : (closing : Bool) (sampled ticked : Session) → IsSession ticked → CountsTick closing (left_of sampled) (left_of ticked) → MayPump ticked
pump-may closing sampled ticked holds counts = record { session = holds; left = (let n = counts.pumps in omega (arith, n)) }

pub targets-ticked : (old sampled ticked : Session) (targets : TargetsData) → AreTargetsOf old targets → ChangesSamples old sampled → KeepsPasses sampled ticked
    → AreTargetsOf ticked targets
targets-ticked old sampled ticked targets are changes keeps =
    targets-stay old ticked targets (keeps.plan ∙ ap plan_of changes) (keeps.keeper ∙ ap keeper_of changes)
    (keeps.stores ∙ ap (λ (s : Session). s.left.stores) changes) are

module _ (ms : ℕ) (closing : Bool) (old sampled ticked new : Session) (told between after : Option LinkState)
    (t : AreTurns ms closing old sampled ticked new told between after) where
  passes-are : passes_of new ≡ passes_of sampled
  passes-are = t.passes ∙ t.keeps.passes

  leads-past : LeadsPast ms closing (passes_of new) old new told after
  leads-past p steps stands =
      let ticks = t.leads p steps (t.stood p steps stands) in
      let done = ticks.0 in
      let pumps = t.leads_on p (Tick ms closing (sampled_by sampled) done ∷ steps) ticks.1.stands in
      let entries = pumps.0 in
      let AreLed : List Sampled → Type 0 = λ samples. Stands p (Pump entries ∷ Tick ms closing samples done ∷ steps) new
      × (TellsRun p steps told → TellsRun p (Pump entries ∷ Tick ms closing samples done ∷ steps) after) in
      let led = subst AreLed (t.sample_is ∙ ap samples_of (sym passes-are)) (pumps.1.stands, λ tells. pumps.1.tells (ticks.1.tells tells)) in
      (done, entries, led.0, led.1)

  pub passes-on : PassesOn ms closing old new told after
  passes-on =
      let left = ap left_of t.changes in
      let pumps = ap (λ (l : Left). l.pumps) left in
      let ticks = ap (λ (l : Left). l.ticks) left in
      let ticked-then = ap (λ (l : Left). l.ticks) t.pumped.rest in
      record {
        more = λ set lt. subst (λ (l : List Known). SeesMore (pass_at (passes_of old) set) (pass_at l set)) (sym passes-are) (t.more set lt);
        lawful = subst EachSeesLawful (sym passes-are) t.lawful;
        leads = leads-past;
        ticks = (let a = t.counts.ticks in omega (arith, a, ticks, ticked-then));
        pumps = (let a = t.counts.pumps in let b = t.pumped.pumps in omega (arith, a, b, pumps));
        closed = ap (λ (l : Left). l.is_closed) t.pumped.rest ∙ t.counts.is_closed;
        appends = t.appends_then ∙ t.appends ∙ ap appends_left t.changes;
        plan = t.plan ∙ t.keeps.plan ∙ ap plan_of t.changes;
        lasts = record {
          ticks = ap (λ (l : Left). l.stores - 1) t.pumped.rest ∙ (passes-last sampled ticked t.keeps).ticks ∙ ap ticks_of t.changes;
          logged = ap (λ (l : Left). l.logged) t.pumped.rest ∙ (passes-last sampled ticked t.keeps).logged ∙ ap logged_of t.changes;
        };
      }

  pub bank-passes : (bank : List CellData) → IsBankOf sampled bank → IsBankOf new bank
  bank-passes bank is = bank-stays sampled new bank (t.plan ∙ t.keeps.plan) passes-are is

-- a player whose session went on so
pub player-passed : (ms : ℕ) (closing : Bool) (player : Player) (new : Session) (told after : Option LinkState) → IsPlayer player
    → PassesOn ms closing player.session new told after → IsSession new → AreTargetsOf new player.targets → IsBankOf new player.bank
    → IsPlayer (record player { session = new })
player-passed ms closing player new told after is on holds targets bank = record {
  session = holds;
  of_script = script-stays player.session new on.lasts is.of_script;
  bank = bank;
  cells = is.cells;
  targets = targets;
  watches = is.watches;
  eight = is.eight;
  hands = is.hands;
  behind = λ k lt d. no-more-later (get_or player.hands.items k d).passes (passes_of player.session) (passes_of new) (bank.passes.count ∙ sym is.bank.passes.count) grows (is.behind k lt d);
}
  where
    grows : (set : ℕ) → set < length (passes_of player.session) → length (pass_at (passes_of player.session) set).seen ≤ length (pass_at (passes_of new) set).seen
    grows set there = starts_length (pass_at (passes_of new) set).seen (pass_at (passes_of player.session) set).seen (on.more set there).seen
