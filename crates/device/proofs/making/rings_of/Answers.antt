use Rattle.std.proofs.Common.{◌+◌, take, sym, subst, arith}
use Rattle.std.specs.List.{AllZip}
use Rattle.writer_group.proofs.SetupLaws.{zip-more}
use Rattle.device.specs.Sides.{IsConfiguredRing}
use Rattle.device.proofs.making.rings_of.Goals as goal

pub loop-keygroup-preserved : goal.loop-keygroup-preserved
loop-keygroup-preserved c =
    let parts = c.args.keygroups.now in
    let i = c.loop-keygroup.keygroup-index in
    record {
      opening = subst (AllZip IsConfiguredRing (take (i + 1) parts)) (sym c.in_ok-push.ensures.items)
          (zip-more IsConfiguredRing parts c.loop-keygroup.rings.items i c.keygroup-item.result c.ring_of.result (omega arith) c.keygroup-item.is c.loop-keygroup.invariant.opening c.ring_of.ensures.keys);
    }
