use Rattle.std.proofs.Common.{ap, arith, ◌≡◌, ◌∙◌, ◌<◌, ℕ, length, map}
use Rattle.std.specs.List.{range_with_len}
use Rattle.ps_config.specs.declared.parts.Config.{Config}
use Rattle.pubsub_engine.specs.LifeEnds.{group_end_by}
use Rattle.pubsub_engine.proofs.EndParts.{group-told}
use Rattle.pubsub_engine.proofs.PlacesInOrder.{pushed-more}
use Rattle.pubsub_engine.proofs.ends.group_ends.Goals as goal

pub loop-g-preserved : goal.loop-g-preserved
loop-g-preserved c = λ most p steps a have.
    let config = c.args.config.now in
    let low : c.loop-g.g < length config.group = omega (arith, ap length c.as_slice-g-end.ensures) in
    pushed-more (group_end_by p steps a) c.loop-g.g c.loop-g.ends.items c.push.new.self.items _ c.in_ok-push.ensures.items
    (group-told config most p steps a c.args.tree.now c.args.publisher.now c.loop-g.g c.state_of.result c.index.result.now c.requires have low c.state_of.ensures c.index.ensures)
    (c.loop-g.invariant most p steps a have)

pub returns : goal.returns
returns c = λ most p steps a have.
    let all : c.loop-g.g ≡ length p.config.group
    = omega (arith, ap length c.as_slice-g-end.ensures, c.loop-g-test.false, c.loop-g.auto.g-end, ap (λ (config : Config). length config.group) have.plan) in
    c.loop-g.invariant most p steps a have ∙ ap (λ (n : ℕ). map (group_end_by p steps a) (range_with_len 0 n)) all
