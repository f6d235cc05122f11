use Rattle.std.proofs.Common.{◌++◌, ℕ, List, sym, subst}
use Rattle.config_tables.specs.declared.publisher.Publisher.{Publisher}
use Rattle.device.specs.Fingerprints.{Adds, id_bytes, number, text}
use Rattle.device.proofs.Hashing.{adds-then}
use Rattle.device.proofs.fingerprint.add_id.Goals as goal

pub returns-in-Text : goal.returns-in-Text
returns-in-Text c =
    let a = c.args.hasher.now in
    let b = c.add_text.new.hasher in
    subst (λ (id : Publisher). Adds (id_bytes id) a b) (sym c.in-Text.is)
    (subst (λ (l : List ℕ). Adds (number 0 ++ text l) a b) c.as_bytes.ensures.bytes
    (adds-then (number 0) (text c.as_bytes.result.now) a c.add_number.new.hasher b c.add_number.ensures c.add_text.ensures))
