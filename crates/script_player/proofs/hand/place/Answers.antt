use Rattle.version_cell.specs.Sets.{pass_at}
use Rattle.version_cell.proofs.Retries.{sees_itself, still_left}
use Rattle.script_player.proofs.hand.place.Goals as goal

pub unreachable-requires : goal.unreachable-requires
unreachable-requires g c =
    let p = pass_at c.args.passes.now c.args.set in
    still_left p p c.in-Full.quota c.requires.numbered c.requires.left (sees_itself p) c.in-Full.ensures.placed.1
