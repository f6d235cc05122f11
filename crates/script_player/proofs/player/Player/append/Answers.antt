use Rattle.std.proofs.Common.{refl}
use Rattle.script_player.proofs.Staying.{player-stays, append-next}
use Rattle.script_player.proofs.player.Player.append.Goals as goal

pub append-requires : goal.append-requires
append-requires c = record { may = append-next c.args.self.now c.requires.player c.requires.may }

pub returns : goal.returns
returns c =
    let e = c.append.ensures in
    record {
      player = player-stays c.args.self.now c.append.new.self c.requires.player e.session e.rest;
      appends = record { set = c.append.result; stands = e.appended; keeps = e.rest; left = e.left; next = e.next; rest = refl };
    }
