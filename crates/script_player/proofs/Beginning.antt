-- A player before its first line.
use Rattle.std.proofs.Common.{◌≡◌, ℕ, ◌<◌, List, [], length, map, get_or, Some, None, sym, ap, ◌∙◌, subst, arith}
use Rattle.std.specs.Prelude.{All}
use Rattle.std.proofs.lemmas.List.{get_or-map, length-map}
use Rattle.version_cell.specs.declared.rule.Entry.{Entry}
use Rattle.version_cell.specs.Known.{Known}
use Rattle.version_cell.specs.Cells.{IsCell}
use Rattle.version_cell.specs.Sets.{ArePassesOf, new_passes, pass_at}
use Rattle.version_cell.proofs.Each.{new_at, new_own}
use Rattle.cell_bank.specs.Hands.{AreHands}
use Rattle.pubsub_engine.specs.Holding.{AreTargetsOf, IsBankOf, IsSession, passes_of, plan_of}
use Rattle.pubsub_engine.specs.Standing.{Stands}
use Rattle.script_player.specs.declared.hand.Hand.{Hand}
use Rattle.script_player.specs.declared.player.Player.{Player}
use Rattle.script_player.specs.Player.{IsNew, IsOfScript, IsPlayer}

-- what the opening of its session gives, and its hands
pub record IsOpened (player : Player) : Type 0 where
  pub session : IsSession player.session
  pub of_script : IsOfScript player.session
  pub stands : Stands (plan_of player.session) [] player.session
  pub bank : IsBankOf player.session player.bank
  pub cells : All IsCell player.bank
  pub passes : passes_of player.session ≡ new_passes player.bank None
  pub hands : AreHands player.bank (map (λ hand. hand.passes) player.hands.items)
  pub versions : All (λ hand. hand.versions.items ≡ []) player.hands.items
  pub looks : All (λ hand. hand.looks.items ≡ []) player.hands.items
  pub targets : AreTargetsOf player.session player.targets
  pub watches : ArePassesOf player.targets.cells player.watches

module _ (player : Player) (o : IsOpened player) where
  eight : length player.hands.items ≡ 8
  eight = sym (length-map player.hands.items (λ (hand : Hand). hand.passes)) ∙ o.hands.eight

  hand-at : (t : ℕ) → t < 8 → (d : Hand) → (get_or player.hands.items t d).passes ≡ new_passes player.bank (Some t)
  hand-at t lt d =
      let there : t < length player.hands.items = (let n = eight in omega (arith, lt, n)) in
      sym (get_or-map (λ (hand : Hand). hand.passes) player.hands.items t d [] there) ∙ o.hands.each t lt

  unseen : (t set : ℕ) → t < 8 → set < length player.bank → (d : Hand) → (pass_at (get_or player.hands.items t d).passes set).seen ≡ []
  unseen t set lt there d = ap (λ (l : List Known). (pass_at l set).seen) (hand-at t lt d) ∙ ap (λ (p : Known). p.seen) (new_at player.bank (Some t) set there)

  pub player-opened : IsPlayer player
  player-opened = record {
    session = o.session;
    of_script = o.of_script;
    bank = o.bank;
    cells = o.cells;
    targets = o.targets;
    watches = o.watches;
    eight = eight;
    hands = λ t lt d. record {
      own = subst (ArePassesOf player.bank) (sym (hand-at t lt d)) (new_own player.bank (Some t));
      author = λ set there. ap (λ (l : List Known). (pass_at l set).author) (hand-at t lt d) ∙ ap (λ (p : Known). p.author) (new_at player.bank (Some t) set there);
    };
    behind = λ t lt d set there.
        let inside : set < length player.bank = (let n = o.bank.passes.count in omega (arith, there, n)) in
        let none = ap (λ (l : List Entry). length l) (unseen t set lt inside d) in
        omega (arith, none);
  }

  pub player-new : IsNew player
  player-new = record {
    hands = unseen;
    versions = o.versions;
    looks = o.looks;
    seen = λ set there. ap (λ (l : List Known). (pass_at l set).seen) o.passes ∙ ap (λ (p : Known). p.seen) (new_at player.bank None set there);
    stands = o.stands;
  }
