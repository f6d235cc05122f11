use Rattle.std.proofs.Common.{◌++◌, ℕ, List, subst}
use Rattle.ps_config.specs.declared.parts.WriterPart.{WriterPart}
use Rattle.device.specs.Fingerprints.{Adds, listed, number, place_number, writer_bytes}
use Rattle.device.proofs.Hashing.{adds-then}
use Rattle.device.proofs.fingerprint.add_group.Goals as goal

pub returns : goal.returns
returns c =
    let part = c.args.part.now in
    let a = c.args.hasher.now in
    let b = c.add_number.new.hasher in
    let d = c.add_number-2.new.hasher in
    let e = c.add_writers.new.hasher in
    let id : Adds (number part.id) a b = subst (λ (n : ℕ). Adds (number n) a b) c.from.ensures c.add_number.ensures in
    let place : Adds (number (place_number part.keygroup)) b d = subst (λ (n : ℕ). Adds (number n) b d) c.place_number.ensures c.add_number-2.ensures in
    let writers : Adds (listed writer_bytes part.writer) d e = subst (λ (l : List WriterPart). Adds (listed writer_bytes l) d e) c.as_slice.ensures c.add_writers.ensures in
    adds-then (number part.id) (number (place_number part.keygroup) ++ listed writer_bytes part.writer) a b e id
    (adds-then (number (place_number part.keygroup)) (listed writer_bytes part.writer) b d e place writers)
