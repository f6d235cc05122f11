use Rattle.device.specs.Fingerprints.{number, wide}
use Rattle.device.proofs.Hashing.{adds-then}
use Rattle.device.proofs.fingerprint.add_id_number.Goals as goal

pub returns : goal.returns
returns c = adds-then (number c.args.bits) (wide c.args.id) c.args.hasher.now c.add_number.new.hasher c.add_wide.new.hasher c.add_number.ensures c.add_wide.ensures
