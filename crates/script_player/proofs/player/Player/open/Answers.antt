use Rattle.std.proofs.Common.{List, sym, subst}
use Rattle.version_cell.specs.Known.{Known}
use Rattle.cell_bank.specs.Hands.{AreHands}
use Rattle.script_player.specs.declared.player.Player.{Player}
use Rattle.script_player.proofs.Beginning.{IsOpened, player-new, player-opened}
use Rattle.script_player.proofs.Staying.{opened-script}
use Rattle.script_player.proofs.player.Player.open.Goals as goal

pub returns : goal.returns
returns g c =
    let o = c.in_ok-session.field-0 in
    let hands = c.in_ok-hands_of.field-0 in
    let player : Player = record { session = o.session; bank = o.bank; targets = o.targets; watches = o.watches; hands = hands } in
    let opened : IsOpened player = record {
      session = c.in_ok-session.ensures.session;
      of_script = opened-script o.session c.args.size.now.ticks c.args.size.now.logged c.in_ok-session.ensures.left c.requires.ticks c.requires.logged;
      stands = c.in_ok-session.ensures.stands;
      bank = c.in_ok-session.ensures.bank;
      cells = c.in_ok-session.ensures.cells;
      passes = c.in_ok-session.ensures.passes;
      hands = subst (λ (l : List (List Known)). AreHands o.bank l) (sym c.in_ok-hands_of.ensures.passes) c.in_ok-session.ensures.hands;
      versions = c.in_ok-hands_of.ensures.versions;
      looks = c.in_ok-hands_of.ensures.looks;
      targets = c.in_ok-session.ensures.targets;
      watches = c.in_ok-session.ensures.looks;
    } in
    record {
      player = player-opened player opened;
      new = player-new player opened;
      plan = c.in_ok-session.ensures.plan;
      is_plan = c.in_ok-session.ensures.is_plan;
      left = c.in_ok-session.ensures.left;
      appends = c.in_ok-session.ensures.appends;
      quotas = c.in_ok-session.ensures.quotas;
    }
