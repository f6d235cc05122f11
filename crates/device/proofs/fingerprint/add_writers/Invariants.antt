use Rattle.device.specs.Fingerprints.{writer_bytes}
use Rattle.device.proofs.Hashing.{AddsFirst}
use Rattle.device.proofs.fingerprint.add_writers.Given as goal

abbrev pub invariant-loop-w : goal.invariant-loop-w
invariant-loop-w l = AddsFirst writer_bytes l.parts l.w l.fn.hasher l.hasher
