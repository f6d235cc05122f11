use Rattle.std.proofs.Common.{refl, arith}
use Rattle.device.specs.Fingerprints.{writer_bytes}
use Rattle.device.proofs.Hashing.{adds-all, adds-more, adds-none}
use Rattle.device.proofs.fingerprint.add_writers.Goals as goal

pub loop-w-init : goal.loop-w-init
loop-w-init c = adds-none writer_bytes c.args.parts.now _ c.args.hasher.now c.add_wide.new.hasher refl c.add_wide.ensures

pub loop-w-preserved : goal.loop-w-preserved
loop-w-preserved c =
    adds-more writer_bytes c.args.parts.now c.loop-w.w c.index-parts-w.result c.args.hasher.now c.loop-w.hasher c.add_writer.new.hasher (omega (arith, c.loop-w-test.true)) c.index-parts-w.is
    c.loop-w.invariant c.add_writer.ensures

pub returns : goal.returns
returns c = adds-all writer_bytes c.args.parts.now c.loop-w.w c.args.hasher.now c.loop-w.hasher (omega (arith, c.loop-w-test.false)) c.loop-w.invariant
