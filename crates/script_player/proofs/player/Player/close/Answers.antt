use Rattle.std.proofs.Common.{List, sym, subst, arith}
use Rattle.app_threads.specs.declared.done.Done.{Done}
use Rattle.script_player.specs.Player.{AreDonesOf}
use Rattle.script_player.proofs.Closing.{player-closes}
use Rattle.script_player.proofs.player.Player.close.Goals as goal

pub dones_of-requires-clause-own : goal.dones_of-requires-clause-own
dones_of-requires-clause-own c = c.requires.player.watches

pub dones_of-requires-clause-few : goal.dones_of-requires-clause-few
dones_of-requires-clause-few c = let n = c.requires.player.eight in omega (arith, n)

pub close-requires : goal.close-requires
close-requires c = record { session = c.requires.player.session }

pub returns : goal.returns
returns c =
    let player = c.args.self in
    let e = c.close.ensures in
    record {
      closes = player-closes player c.deref.result.now c.close.result c.requires.player
          (subst (λ (l : List Done). AreDonesOf player.hands.items l) (sym c.deref.ensures.value) c.in_ok-dones.ensures.dones) (e.whole c.requires.player.of_script.whole) e.histories e.watches e.of;
    }
