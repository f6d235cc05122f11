-- The names of fields.
use Rattle.std.proofs.Common.{◌≡◌, ℕ, zero, suc, ◌<◌, List, [], ◌∷◌, length, get_or, ap, arith}
use Rattle.dataset_meta.specs.declared.field.Field.{Field}
use Rattle.json_frames.specs.Written.{name_at}

-- the name of the field that stands at an index
pub name_is : (fields : List Field) (i : ℕ) (field : Field) → i < length fields → field ≡ get_or fields i field → field.name ≡ name_at fields i
name_is [] i field inside is = absurd (omega arith)
name_is (f ∷ fields) zero field inside is = ap (λ (x : Field). x.name) is
name_is (f ∷ fields) (suc i) field inside is = name_is fields i field (omega arith) is
