use Rattle.std.proofs.Common.{arith}
use Rattle.script_player.proofs.Looking.{targets-count}
use Rattle.script_player.proofs.player.Player.origin.Goals as goal

pub meta-meta-requires : goal.meta-meta-requires
meta-meta-requires c =
    let n = targets-count c.args.self.now.session c.args.self.now c.requires.player.targets in
    let lt = c.requires.there in
    omega (arith, n, lt)

pub origin-requires : goal.origin-requires
origin-requires c = record { session = c.requires.player.session; there = c.requires.there }

pub returns-clause-origin : goal.returns-clause-origin
returns-clause-origin c = c.origin.ensures.whole c.requires.player.of_script.whole
