use Rattle.std.proofs.Common.{refl}
use Rattle.script_player.specs.Player.{Levels}
use Rattle.script_player.proofs.Levelling.{player-levelled}
use Rattle.script_player.proofs.player.Player.level.Goals as goal

pub level-requires : goal.level-requires
level-requires g c = record { session = c.requires.player.session; targets = c.requires.player.targets; own = c.requires.player.watches }

pub returns : goal.returns
returns g c =
    let e = c.level.ensures in
    let levels : Levels c.args.self.now (record c.args.self.now { session = c.level.new.self; watches = c.level.new.looks }) = record {
      level = e.level;
      lawful = e.lawful;
      same = e.same;
      stores = e.rest;
      stands = e.stands;
      rest = refl;
    } in
    record {
      player = player-levelled c.args.self.now c.level.new.self c.level.new.looks c.requires.player levels e.session e.targets e.own;
      levels = levels;
    }
