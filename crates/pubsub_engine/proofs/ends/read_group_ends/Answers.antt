use Rattle.std.proofs.Common.{ap, arith, ◌<◌, length}
use Rattle.pubsub_engine.specs.LifeEnds.{read_group_end_by}
use Rattle.pubsub_engine.proofs.EndParts.{read-group-told}
use Rattle.pubsub_engine.proofs.PlacesInOrder.{pushed-more}
use Rattle.pubsub_engine.proofs.ends.read_group_ends.Goals as goal

pub loop-r-preserved : goal.loop-r-preserved
loop-r-preserved c = λ p steps a have.
    let config = c.args.config.now in
    let low : c.loop-r.r < length config.readgroup = omega (arith, ap length c.as_slice-r-end.ensures) in
    pushed-more (read_group_end_by p steps a) c.loop-r.r c.loop-r.ends.items c.push.new.self.items _ c.in_ok-push.ensures.items
    (read-group-told config p steps a c.args.tree.now c.args.subscriber.now c.loop-r.r c.state_of.result c.index-tally.result.now c.requires have low c.state_of.ensures c.index-tally.ensures)
    (c.loop-r.invariant p steps a have)
