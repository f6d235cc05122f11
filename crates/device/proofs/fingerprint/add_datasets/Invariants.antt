use Rattle.device.specs.Fingerprints.{dataset_bytes}
use Rattle.device.proofs.Hashing.{AddsFirst}
use Rattle.device.proofs.fingerprint.add_datasets.Given as goal

abbrev pub invariant-loop-d : goal.invariant-loop-d
invariant-loop-d l = AddsFirst dataset_bytes l.metas l.d l.fn.hasher l.hasher
