use Rattle.std.proofs.Common.{refl, arith}
use Rattle.device.specs.Fingerprints.{field_bytes}
use Rattle.device.proofs.Hashing.{adds-all, adds-more, adds-none}
use Rattle.device.proofs.fingerprint.add_fields.Goals as goal

pub loop-f-init : goal.loop-f-init
loop-f-init c = adds-none field_bytes c.args.fields.now _ c.args.hasher.now c.add_wide.new.hasher refl c.add_wide.ensures

pub loop-f-preserved : goal.loop-f-preserved
loop-f-preserved c =
    adds-more field_bytes c.args.fields.now c.loop-f.f c.index-fields-f.result c.args.hasher.now c.loop-f.hasher c.add_field.new.hasher (omega (arith, c.loop-f-test.true)) c.index-fields-f.is
    c.loop-f.invariant c.add_field.ensures

pub returns : goal.returns
returns c = adds-all field_bytes c.args.fields.now c.loop-f.f c.args.hasher.now c.loop-f.hasher (omega (arith, c.loop-f-test.false)) c.loop-f.invariant
