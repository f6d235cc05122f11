use Rattle.device.specs.Fingerprints.{group_bytes}
use Rattle.device.proofs.Hashing.{AddsFirst}
use Rattle.device.proofs.fingerprint.add_groups.Given as goal

abbrev pub invariant-loop-g : goal.invariant-loop-g
invariant-loop-g l = AddsFirst group_bytes l.parts l.g l.fn.hasher l.hasher
