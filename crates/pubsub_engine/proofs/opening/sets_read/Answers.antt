use Rattle.std.proofs.Common.{◌≡◌, ap, arith, List, length, take}
use Rattle.ps_config.specs.declared.parts.ReadGroupPart.{ReadGroupPart}
use Rattle.ps_config.specs.Sound.{readers}
use Rattle.pubsub_engine.proofs.ReadSets.{readers_in, sets_in, sets-fit}
use Rattle.pubsub_engine.proofs.opening.sets_read.Goals as goal

pub add_sets-requires : goal.add_sets-requires
add_sets-requires c =
    let list = c.as_slice-group-items.result.now in
    let index = c.loop-group.group-index in
    let fit = sets-fit list index c.group-item.result c.loop-group-test.true c.group-item.is in
    let all : length (readers_in list) ≡ length (readers c.args.config.now) = ap (λ (l : List ReadGroupPart). length (readers_in l)) c.as_slice-group-items.ensures in
    let own : length c.as_slice.result.now ≡ length c.group-item.result.reader = ap length c.as_slice.ensures in
    let now : length c.loop-group.sets.items ≡ length (sets_in (take index list)) = ap length c.loop-group.invariant in
    record { room = omega (arith, fit, all, own, now, c.requires.few) }
