use Rattle.std.proofs.Common.{refl, arith}
use Rattle.device.specs.Fingerprints.{group_bytes}
use Rattle.device.proofs.Hashing.{adds-all, adds-more, adds-none}
use Rattle.device.proofs.fingerprint.add_groups.Goals as goal

pub loop-g-init : goal.loop-g-init
loop-g-init c = adds-none group_bytes c.args.parts.now _ c.args.hasher.now c.add_wide.new.hasher refl c.add_wide.ensures

pub loop-g-preserved : goal.loop-g-preserved
loop-g-preserved c =
    adds-more group_bytes c.args.parts.now c.loop-g.g c.index-parts-g.result c.args.hasher.now c.loop-g.hasher c.add_group.new.hasher (omega (arith, c.loop-g-test.true)) c.index-parts-g.is
    c.loop-g.invariant c.add_group.ensures

pub returns : goal.returns
returns c = adds-all group_bytes c.args.parts.now c.loop-g.g c.args.hasher.now c.loop-g.hasher (omega (arith, c.loop-g-test.false)) c.loop-g.invariant
