-- What a line that is no tick makes of a session, whatever line it is.
use Rattle.std.proofs.Common.{◌≡◌, ℕ, List, drop, refl, sym, subst, arith, Option}
use Rattle.std.proofs.lemmas.List.{length-drop, length-map}
use Rattle.ua_base.specs.Journal.{LinkState}
use Rattle.version_cell.specs.Cells.{CellData}
use Rattle.ps_script.specs.declared.script.Act.{Act}
use Rattle.ps_script.specs.declared.script.Act.TheVariants as act
use Rattle.target_cells.specs.Keeping.{TargetsData}
use Rattle.pubsub_engine.specs.declared.sets.Growth.{Growth}
use Rattle.pubsub_engine.specs.declared.session.Session.{Session}
use Rattle.pubsub_engine.specs.Holding.{AreTargetsOf, IsBankOf, IsSession, KeepsPasses, MayAppendNext}
use Rattle.script_player.proofs.Staying.{bank-stays, targets-stay}
use Rattle.script_runner.specs.Conducting.{MayAppend, RunsTo, TurnsTo}

keeps-itself : (session new : Session) → new ≡ session → KeepsPasses session new
keeps-itself session new same =
    subst (λ (s : Session). KeepsPasses session s) (sym same) (record { plan = refl; passes = refl; sampled = refl; keeper = refl; stores = refl; logged = refl })

turned-keeps : (a : Act) (old new : Session) → TurnsTo a old new → KeepsPasses old new
turned-keeps (act.Write thread set patch) old new same = keeps-itself old new same
turned-keeps (act.Tick ms) old new same = keeps-itself old new same
turned-keeps (act.Enable id) old new w = w.keeps
turned-keeps (act.Disable id) old new w = w.keeps
turned-keeps (act.Fated k fate) old new same = keeps-itself old new same
turned-keeps (act.Watch thread reader times) old new same = keeps-itself old new same
turned-keeps (act.Append set) old new w = w.keeps

pub turned-bank : (a : Act) (old new : Session) (bank : List CellData) → TurnsTo a old new → IsBankOf old bank → IsBankOf new bank
turned-bank a old new bank turns is = let keeps = turned-keeps a old new turns in bank-stays old new bank keeps.plan keeps.passes is

pub turned-targets : (a : Act) (old new : Session) (targets : TargetsData) → TurnsTo a old new → AreTargetsOf old targets → AreTargetsOf new targets
turned-targets a old new targets turns are = let keeps = turned-keeps a old new turns in targets-stay old new targets keeps.plan keeps.keeper keeps.stores are

pub turned-runs : (a : Act) (old new : Session) (told : Option LinkState) → ((ms : ℕ) → a ≡ act.Tick ms → ⊥) → TurnsTo a old new → RunsTo a old new told told
turned-runs (act.Write thread set patch) old new told none turns = (turns, refl)
turned-runs (act.Tick ms) old new told none turns = absurd (none ms refl)
turned-runs (act.Enable id) old new told none turns = (turns, refl)
turned-runs (act.Disable id) old new told none turns = (turns, refl)
turned-runs (act.Fated k fate) old new told none turns = (turns, refl)
turned-runs (act.Watch thread reader times) old new told none turns = (turns, refl)
turned-runs (act.Append set) old new told none turns = (turns, refl)

-- the next append may come
pub append-next : (session : Session) → IsSession session → MayAppend session → MayAppendNext session
append-next session is may =
    let sets = session.sets in
    let later = drop sets.made sets.later.items in
    let some = may.left in
    let a = length-map later (λ (growth : Growth). growth.set) in
    let b = length-drop sets.made sets.later.items in
    record { session = is; running = may.running; left = omega (arith, some, a, b) }
