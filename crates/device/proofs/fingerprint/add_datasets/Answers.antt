use Rattle.std.proofs.Common.{refl, arith}
use Rattle.device.specs.Fingerprints.{dataset_bytes}
use Rattle.device.proofs.Hashing.{adds-all, adds-more, adds-none}
use Rattle.device.proofs.fingerprint.add_datasets.Goals as goal

pub loop-d-init : goal.loop-d-init
loop-d-init c = adds-none dataset_bytes c.args.metas.now _ c.args.hasher.now c.add_wide.new.hasher refl c.add_wide.ensures

pub loop-d-preserved : goal.loop-d-preserved
loop-d-preserved c =
    adds-more dataset_bytes c.args.metas.now c.loop-d.d c.index-metas-d.result c.args.hasher.now c.loop-d.hasher c.add_dataset.new.hasher (omega (arith, c.loop-d-test.true)) c.index-metas-d.is
    c.loop-d.invariant c.add_dataset.ensures

pub returns : goal.returns
returns c = adds-all dataset_bytes c.args.metas.now c.loop-d.d c.args.hasher.now c.loop-d.hasher (omega (arith, c.loop-d-test.false)) c.loop-d.invariant
