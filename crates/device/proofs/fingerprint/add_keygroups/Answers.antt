use Rattle.std.proofs.Common.{refl, arith}
use Rattle.device.specs.Fingerprints.{keygroup_bytes}
use Rattle.device.proofs.Hashing.{adds-all, adds-more, adds-none}
use Rattle.device.proofs.fingerprint.add_keygroups.Goals as goal

pub loop-k-init : goal.loop-k-init
loop-k-init c = adds-none keygroup_bytes c.args.parts.now _ c.args.hasher.now c.add_wide.new.hasher refl c.add_wide.ensures

pub loop-k-preserved : goal.loop-k-preserved
loop-k-preserved c =
    adds-more keygroup_bytes c.args.parts.now c.loop-k.k c.index-parts-k.result c.args.hasher.now c.loop-k.hasher c.add_keygroup.new.hasher (omega (arith, c.loop-k-test.true)) c.index-parts-k.is
    c.loop-k.invariant c.add_keygroup.ensures

pub returns : goal.returns
returns c = adds-all keygroup_bytes c.args.parts.now c.loop-k.k c.args.hasher.now c.loop-k.hasher (omega (arith, c.loop-k-test.false)) c.loop-k.invariant
