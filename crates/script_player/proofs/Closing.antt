-- The end of a player.
use Rattle.std.proofs.Common.{◌≡◌, ℕ, ◌<◌, ◌≤◌, true, List, length, get_or, Option, ap, sym, ◌∙◌, arith}
use Rattle.std.specs.Prelude.{IfOk, Result, Ok, Err}
use Rattle.std.proofs.lemmas.List.{get_or-map, length-map}
use Rattle.std.proofs.lemmas.List.FromFn.{get_or-range_with_len, length-range_with_len}
use Rattle.ua_base.specs.Journal.{LinkState}
use Rattle.version_cell.specs.Sets.{pass_at}
use Rattle.ps_config.specs.Sound.{readers}
use Rattle.ps_report.specs.declared.closed.Closed.{Closed}
use Rattle.ps_report.specs.Conditions.{IsClosedOf}
use Rattle.session_model.specs.Steps.{Plan, Step}
use Rattle.session_model.specs.Closing.{IsClosedAfter}
use Rattle.app_threads.specs.declared.done.Done.{Done}
use Rattle.pubsub_engine.specs.Holding.{passes_of, plan_of}
use Rattle.pubsub_engine.specs.Standing.{Stands}
use Rattle.pubsub_engine.specs.Authored.{AreInOrder, AreLooksAt, HasThreads, IsAuthored, watches_of}
use Rattle.script_player.specs.declared.hand.Hand.{Hand}
use Rattle.script_player.specs.declared.player.Player.{Player}
use Rattle.script_player.specs.Player.{AreDonesOf, Closes, IsClosedBy, IsPlayer, Passes}

-- there are as many as threads
dones-count : (hands : List Hand) (dones : List Done) → AreDonesOf hands dones → length dones ≡ length hands
dones-count hands dones are =
    sym (length-map dones (λ (done : Done). done.list)) ∙ ap (λ (l : List ℕ). length l) are.lists ∙ length-range_with_len 0 (length hands)

in-order : (hands : List Hand) (dones : List Done) → length hands ≡ 8 → AreDonesOf hands dones → AreInOrder dones
in-order hands dones eight are =
    let count = dones-count hands dones are in
    record {
      few = omega (arith, count, eight);
      numbers = λ t lt d.
          let a = sym (get_or-map (λ (done : Done). done.list) dones t d 0 lt) in
          let b = ap (λ (l : List ℕ). get_or l t 0) are.lists in
          let e = get_or-range_with_len 0 (length hands) t 0 (omega (arith, lt, count)) in
          omega (arith, a, b, e);
    }

-- the player is closed, where there was memory
pub player-closes : {E : Type 0} (player : Player) (dones : List Done) (r : Result Closed E) → IsPlayer player → AreDonesOf player.hands.items dones
    → ((p : Plan) (steps : List Step) → Stands p steps player.session → AreInOrder dones → IfOk r (IsClosedAfter p steps))
    → (length dones ≤ 256 → IfOk r (λ closed. (set : ℕ) (threads : List ℕ) → set < length (passes_of player.session) → IsAuthored set dones threads
    → length threads ≡ length (pass_at (passes_of player.session) set).seen → HasThreads closed.histories set threads))
    → (AreInOrder dones → IfOk r (λ closed. closed.watches ≡ watches_of dones))
    → IfOk r (λ closed. (steps : List Step) → Stands (plan_of player.session) steps player.session → AreLooksAt (readers (plan_of player.session).config) dones
    → IsClosedOf (plan_of player.session).config closed)
    → IfOk r (IsClosedBy player)
player-closes player dones (Ok closed) is are closed_after histories watches of =
    let order = in-order player.hands.items dones is.eight are in
    record {
      dones = dones;
      dones_are = are;
      closed_after = closed_after;
      histories = histories order.few;
      watches = watches order;
      closed_of = of;
    }
player-closes player dones (Err e) is are closed_after histories watches of = tt

-- the closing tick came, and then it was closed
pub closes : (old new : Player) (told after : Option LinkState) (closed : Closed) → IsPlayer new → Passes 0 true old new told after → IsClosedBy new closed → Closes old told after closed
closes old new told after closed is ends by = record { new = new; player = is; ends = ends; by = by }
