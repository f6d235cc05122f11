-- The end of a run, by what its calls say.
use Rattle.std.proofs.Common.{◌≡◌, ℕ, ◌<◌, ◌≤◌, true, List, [], ◌∷◌, ◌++◌, length, map, get_or, refl, sym, ap, ◌∙◌, subst, arith}
use Rattle.std.specs.Prelude.{All, IfOk, Result, Ok, Err, Option}
use Rattle.std.specs.List.{flat_map}
use Rattle.std.proofs.lemmas.List.{length-map}
use lib.ListN.{get_or-map as get_or-mapped}
use Rattle.ua_base.specs.Journal.{LinkState}
use Rattle.version_cell.specs.Cells.{CellData}
use Rattle.version_cell.specs.Histories.{StartsWith}
use Rattle.version_cell.specs.Known.{Known}
use Rattle.version_cell.specs.Sets.{pass_at}
use Rattle.target_cells.specs.Keeping.{TargetsData}
use Rattle.ps_config.specs.declared.parts.ReaderPart.{ReaderPart}
use Rattle.ps_config.specs.Sound.{readers}
use Rattle.ps_report.specs.Conditions.{IsClosedOf}
use Rattle.ps_report.specs.declared.closed.Closed.{Closed}
use Rattle.ps_report.specs.declared.closed.WatchEnd.{WatchEnd}
use Rattle.session_model.specs.Closing.{IsClosedAfter}
use Rattle.session_model.specs.Steps.{Plan, Step}
use Rattle.app_threads.specs.declared.done.Done.{Done}
use Rattle.app_threads.specs.declared.done.Looked.{Looked}
use Rattle.app_threads.specs.Items.{versions_in}
use Rattle.pubsub_engine.specs.declared.session.Left.{Left}
use Rattle.pubsub_engine.specs.declared.session.Session.{Session}
use Rattle.pubsub_engine.specs.Authored.{AreInOrder, AreLooksAt, HasThreads, IsAuthored, watch_of, watches_of}
use Rattle.pubsub_engine.specs.Holding.{AreTargetsOf, ChangesSamples, ChangesStores, IsBankOf, keeper_of, left_of, passes_of, plan_of}
use Rattle.pubsub_engine.specs.Standing.{KeepsStands, Stands}
use Rattle.script_player.specs.Passing.{MayPass, PassesOn}
use Rattle.script_player.specs.Player.{IsOfScript}
use Rattle.script_player.proofs.Staying.{bank-stays, samples-last, script-stays, stores-last, targets-stay}
use Rattle.script_runner.specs.Finishing.{Finishes, HasMetAll, HasStoredAll, SeeMore, unwatched}
use Rattle.script_runner.proofs.Meeting.{met-on, see-on}

-- ---- what the threads left, whatever they had seen of the targets

flat-unwatched : {B : Type 0} (f : Done → List B) (dones : List Done) → ((done : Done) → f (unwatched done) ≡ f done) → flat_map f (map unwatched dones) ≡ flat_map f dones
flat-unwatched f [] same = refl
flat-unwatched f (done ∷ dones) same = λ i. same done i ++ flat-unwatched f dones same i

module _ (dones left : List Done) (same : map unwatched left ≡ map unwatched dones) where
  left-count : length left ≡ length dones
  left-count = sym (length-map left unwatched) ∙ ap length same ∙ length-map dones unwatched

  left-at : (t : ℕ) (d : Done) → unwatched (get_or left t d) ≡ unwatched (get_or dones t d)
  left-at t d = sym (get_or-mapped unwatched left t d) ∙ ap (λ (l : List Done). get_or l t (unwatched d)) same ∙ get_or-mapped unwatched dones t d

  left-in-order : AreInOrder dones → AreInOrder left
  left-in-order order = record {
    few = (let n = order.few in let e = left-count in omega (arith, n, e));
    numbers = λ t lt d. ap (λ (done : Done). done.list) (left-at t d) ∙ order.numbers t (let e = left-count in omega (arith, e, lt)) d;
  }

  left-authored : (set : ℕ) (threads : List ℕ) → IsAuthored set dones threads → IsAuthored set left threads
  left-authored set threads is = record {
    known = λ k d lt. let low = is.known k d lt in let e = left-count in omega (arith, low, e);
    placed = λ t lt d. ap (λ (done : Done). versions_in set done.versions) (left-at t d) ∙ is.placed t (let e = left-count in omega (arith, e, lt)) d;
  }

  left-watches : watches_of left ≡ watches_of dones
  left-watches =
      let f : Done → List WatchEnd = λ done. map (watch_of done.list) done.looks in
      sym (flat-unwatched f left (λ done. refl)) ∙ ap (λ (l : List Done). flat_map f l) same ∙ flat-unwatched f dones (λ done. refl)

  left-looks : (members : List ReaderPart) → AreLooksAt members dones → AreLooksAt members left
  left-looks members looks t d lt =
      subst (λ (ls : List Looked). All (λ (looked : Looked). looked.reader < length members) ls) (sym (ap (λ (done : Done). done.looks) (left-at t d)))
      (looks t d (let e = left-count in omega (arith, e, lt)))

-- ---- the session between the calls

pub targets-met : (old met : Session) → ChangesSamples old met → (targets : TargetsData) → AreTargetsOf old targets → AreTargetsOf met targets
targets-met old met samples targets are =
    targets-stay old met targets (ap plan_of samples) (ap keeper_of samples) (ap (λ (s : Session). s.left.stores) samples) are

pub bank-level : (met level : Session) → ChangesStores met level → (bank : List CellData) → IsBankOf met bank → IsBankOf level bank
bank-level met level stores bank is = bank-stays met level bank (ap plan_of stores) (ap passes_of stores) is

pub may-level : (old met level : Session) → ChangesSamples old met → ChangesStores met level → MayPass 0 true old → MayPass 0 true level
may-level old met level samples stores may =
    let left : left_of level ≡ left_of old = ap left_of stores ∙ ap left_of samples in
    record {
      running = ap (λ (l : Left). l.is_closed) left ∙ may.running;
      left = (let n = may.left in let e = ap (λ (l : Left). l.ticks) left in omega (arith, n, e));
      short = may.short;
      still = may.still;
    }

-- what the calls of the end say, by the session before, when it has met all, when the watches are level, and then; and by what the threads left, before and then
pub record AreEnds (bank targets : List CellData) (old met level new : Session) (dones left : List Done) (told after : Option LinkState) : Type 0 where
  pub samples : ChangesSamples old met
  pub more : SeeMore (passes_of old) (passes_of met)
  pub met_all : HasMetAll met (length bank) dones
  pub stood : KeepsStands old met
  pub stores : ChangesStores met level
  pub stored : HasStoredAll met (length targets) dones
  pub left_are : map unwatched left ≡ map unwatched dones
  pub stood_level : KeepsStands met level
  pub passed : PassesOn 0 true level new told after
  pub bank_old : IsBankOf old bank
  pub bank_met : IsBankOf met bank
  pub bank_new : IsBankOf new bank

-- it is still a script's
pub ends-script : (bank targets : List CellData) (old met level new : Session) (dones left : List Done) (told after : Option LinkState)
    → AreEnds bank targets old met level new dones left told after → IsOfScript old → IsOfScript new
ends-script bank targets old met level new dones left told after are is =
    script-stays level new are.passed.lasts (script-stays met level (stores-last met level are.stores) (script-stays old met (samples-last old met are.samples) is))

-- the session is closed, where there was memory
pub finishes : {E : Type 0} (bank targets : List CellData) (old met level new : Session) (dones left : List Done) (told after : Option LinkState) (r : Result Closed E)
    → AreEnds bank targets old met level new dones left told after → IsOfScript new
    → ((p : Plan) (steps : List Step) → Stands p steps new → AreInOrder left → IfOk r (IsClosedAfter p steps))
    → (length left ≤ 256 → IfOk r (λ closed. (set : ℕ) (threads : List ℕ) → set < length (passes_of new) → IsAuthored set left threads
    → length threads ≡ length (pass_at (passes_of new) set).seen → HasThreads closed.histories set threads))
    → (AreInOrder left → IfOk r (λ closed. closed.watches ≡ watches_of left))
    → IfOk r (λ closed. (steps : List Step) → Stands (plan_of new) steps new → AreLooksAt (readers (plan_of new).config) left → IsClosedOf (plan_of new).config closed)
    → IfOk r (Finishes bank targets old dones told after)
finishes bank targets old met level new dones left told after (Err e) are of_script closed_after histories watches of = tt
finishes bank targets old met level new dones left told after (Ok closed) are of_script closed_after histories watches of =
    let passes : passes_of level ≡ passes_of met = ap passes_of are.stores in
    let later : SeeMore (passes_of met) (passes_of new) = subst (λ (l : List Known). SeeMore l (passes_of new)) passes are.passed.more in
    let count-met : length (passes_of met) ≡ length bank = are.bank_met.passes.count in
    let count-old : length (passes_of old) ≡ length bank = are.bank_old.passes.count in
    record {
      new = new;
      of_script = of_script;
      bank_is = are.bank_new;
      plan = are.passed.plan ∙ ap plan_of are.stores ∙ ap plan_of are.samples;
      more = see-on (passes_of old) (passes_of met) (passes_of new) (count-met ∙ sym count-old) are.more later;
      met = λ t set lt low d. met-on met new set (get_or dones t d) later (omega (arith, low, count-met)) (are.met_all t set lt low d);
      stored = λ t reader lt low d.
          subst (λ (keeper : List Known). StartsWith (pass_at keeper reader).seen (pass_at (get_or dones t d).watches reader).seen) (ap keeper_of are.samples)
          (are.stored t reader lt low d);
      lawful = are.passed.lawful;
      leads = λ p steps stands. are.passed.leads p steps (are.stood_level p steps (are.stood p steps stands));
      closed_after = λ p steps stands order. closed_after p steps stands (left-in-order dones left are.left_are order);
      histories = λ order set threads lt authored long.
          histories (let n = order.few in let e = left-count dones left are.left_are in omega (arith, n, e)) set threads lt
          (left-authored dones left are.left_are set threads authored) long;
      watches = λ order. watches (left-in-order dones left are.left_are order) ∙ left-watches dones left are.left_are;
      closed_of = λ steps stands looks. of steps stands (left-looks dones left are.left_are (readers (plan_of new).config) looks);
    }
