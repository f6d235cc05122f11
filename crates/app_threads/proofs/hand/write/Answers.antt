use Rattle.version_cell.specs.Sets.{pass_at}
use Rattle.version_cell.proofs.Retries.{still_left, sees_itself}
use Rattle.app_threads.proofs.hand.write.Goals as goal

pub unreachable-requires : goal.unreachable-requires
unreachable-requires g c =
    let p = pass_at c.args.done.now.passes c.args.set in
    still_left p p c.in-Full.quota c.requires.numbered c.requires.left (sees_itself p) c.in-Full.ensures.placed.1
