use Rattle.std.proofs.Common.{subst, ◌≡◌, List, ℕ, IsTrue, sym, Err, Result}
use Rattle.std.specs.Str.{IsUtf8}
use Rattle.std.specs.Result.{MatchResult}
use Rattle.std.proofs.lemmas.Str.{IsUtf8-from_ascii}
use Rattle.std.proofs.lemmas.Str.Ascii.{IsAscii-from_all}
use Rattle.dataset_meta.specs.Names.{is_name}
use Rattle.dataset_meta.proofs.name32.Name32.as_str.Goals as goal

-- std's check of a text, which is UTF-8, answers no error
never : {A B : Type 0} (P : A → Type 0) (Q : B → Type 0) (r : Result A B) (e : B) (bytes : List ℕ)
    → MatchResult r (λ s. P s × IsUtf8 bytes) (λ e. (¬ IsUtf8 bytes) × Q e) → r ≡ Err e → IsUtf8 bytes → ⊥
never P Q r e bytes cases is utf8 =
    (subst (λ r. MatchResult r (λ s. P s × IsUtf8 bytes) (λ e. (¬ IsUtf8 bytes) × Q e)) is cases).0 utf8

pub unreachable-requires : goal.unreachable-requires
unreachable-requires c =
    let named : IsTrue (is_name c.as_bytes.result.now) =
    subst (λ (bytes : List ℕ). IsTrue (is_name bytes)) (sym c.as_bytes.ensures.bytes) c.as_bytes.ensures.name in
    never _ _ c.from_utf8.result c.in-Err.field-0 c.as_bytes.result.now c.from_utf8.ensures.cases c.in-Err.is
    (IsUtf8-from_ascii _ (IsAscii-from_all _ (c.a_name_is_ascii.ensures _ named)))
