use Rattle.device.specs.Fingerprints.{field_bytes}
use Rattle.device.proofs.Hashing.{AddsFirst}
use Rattle.device.proofs.fingerprint.add_fields.Given as goal

abbrev pub invariant-loop-f : goal.invariant-loop-f
invariant-loop-f l = AddsFirst field_bytes l.fields l.f l.fn.hasher l.hasher
