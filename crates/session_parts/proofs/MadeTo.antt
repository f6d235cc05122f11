-- The parts of a new session, made one after another.
use Rattle.std.proofs.Common.{◌≡◌, refl, sym, ap, ◌∙◌, subst, arith, ℕ, ◌+◌, ◌<◌, ◌≢◌, ◌⊎◌, inl, inr, true, false, List, [], ◌∷◌, ◌++◌, length, length-append, get_or}
use Rattle.std.specs.Prelude.{◌==◌}
use Rattle.std.specs.List.{HoldsAt}
use Rattle.std.proofs.lemmas.Bool.Decides.{eqb_tells}
use Rattle.std.proofs.lemmas.List.{get_or_append_left}
use Rattle.std.proofs.Math.Seq.{get_or-append_seam}

-- the first n are so, each by its index
pub record MadeTo {X : Type 0} (P : ℕ → X → Type 0) (n : ℕ) (made : List X) : Type 0 where
  pub count : length made ≡ n
  pub each : (k : ℕ) → k < n → HoldsAt (P k) made k

pub made-none : {X : Type 0} (P : ℕ → X → Type 0) → MadeTo P 0 []
made-none P = record { count = refl; each = λ k low. absurd (omega (arith, low)) }

pub made-more : {X : Type 0} (P : ℕ → X → Type 0) (n : ℕ) (made : List X) (x : X) → MadeTo P n made → P n x → MadeTo P (n + 1) (made ++ x ∷ [])
made-more {X} P n made x so_far is = record {
  count = length-append made (x ∷ []) ∙ omega (arith, so_far.count);
  each = λ k low d. by_case k low d (eqb_tells k n);
}
  where
    by_case : (k : ℕ) → k < n + 1 → (d : X) → ((k == n) ≡ true) × (k ≡ n) ⊎ ((k == n) ≡ false) × (k ≢ n) → P k (get_or (made ++ x ∷ []) k d)
    by_case k low d (inl same) =
        let at : k ≡ length made = omega (arith, same.1, so_far.count) in
        subst (λ (y : X). P k y) (sym (ap (λ (j : ℕ). get_or (made ++ x ∷ []) j d) at ∙ get_or-append_seam made x [] d))
        (subst (λ (j : ℕ). P j x) (sym same.1) is)
    by_case k low d (inr other) =
        subst (λ (y : X). P k y) (sym (get_or_append_left made (x ∷ []) d k (omega (arith, low, other.1, so_far.count)))) (so_far.each k (omega (arith, low, other.1)) d)
