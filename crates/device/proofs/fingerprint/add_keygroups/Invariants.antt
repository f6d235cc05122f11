use Rattle.device.specs.Fingerprints.{keygroup_bytes}
use Rattle.device.proofs.Hashing.{AddsFirst}
use Rattle.device.proofs.fingerprint.add_keygroups.Given as goal

abbrev pub invariant-loop-k : goal.invariant-loop-k
invariant-loop-k l = AddsFirst keygroup_bytes l.parts l.k l.fn.hasher l.hasher
