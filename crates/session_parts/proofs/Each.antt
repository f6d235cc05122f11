-- Loops that change each element of a list in its place.
use Rattle.std.proofs.Common.{◌≡◌, refl, sym, ◌∙◌, subst, arith, ℕ, ◌+◌, ◌<◌, ◌≤◌, ◌≢◌, ◌⊎◌, inl, inr, true, false, List, length, get_or}
use Rattle.std.specs.Prelude.{slice_set, ◌==◌}
use Rattle.std.proofs.lemmas.Bool.Decides.{eqb_tells}
use Rattle.std.proofs.lemmas.List.{get_or-set_other, get_or-set_same, get_or_read, length-set}

-- the first n were changed so, and the others not yet
pub record EachTo {X : Type 0} (R : ℕ → X → X → Type 0) (n : ℕ) (old new : List X) : Type 0 where
  pub count : length new ≡ length old
  pub done : (k : ℕ) → k < n → k < length old → (d : X) → R k (get_or old k d) (get_or new k d)
  pub left : (k : ℕ) → n ≤ k → (d : X) → get_or new k d ≡ get_or old k d

pub each-none : {X : Type 0} (R : ℕ → X → X → Type 0) (old : List X) → EachTo R 0 old old
each-none R old = record { count = refl; done = λ k low. absurd (omega (arith, low)); left = λ k at d. refl }

pub each-more : {X : Type 0} (R : ℕ → X → X → Type 0) (n : ℕ) (old mid : List X) (x y : X) → n < length mid → x ≡ get_or mid n x → R n x y
    → EachTo R n old mid → EachTo R (n + 1) old (slice_set mid n y)
each-more {X} R n old mid x y low is new each = record {
  count = length-set mid n y ∙ each.count;
  done = λ k below there d. by_case k below there d (eqb_tells n k);
  left = λ k at d. get_or-set_other mid n k y d (λ same. omega (arith, same, at)) ∙ each.left k (omega (arith, at)) d;
}
  where
    own : (d : X) → R n (get_or old n d) (get_or (slice_set mid n y) n d)
    own d =
        subst (λ (z : X). R n (get_or old n d) z) (sym (get_or-set_same mid n y d low))
        (subst (λ (z : X). R n z y) (get_or_read mid n x low is d ∙ each.left n (omega arith) d) new)

    by_case : (k : ℕ) → k < n + 1 → k < length old → (d : X) → ((n == k) ≡ true) × (n ≡ k) ⊎ ((n == k) ≡ false) × (n ≢ k)
        → R k (get_or old k d) (get_or (slice_set mid n y) k d)
    by_case k below there d (inl same) = subst (λ (j : ℕ). R j (get_or old j d) (get_or (slice_set mid n y) j d)) same.1 (own d)
    by_case k below there d (inr other) =
        subst (λ (z : X). R k (get_or old k d) z) (sym (get_or-set_other mid n k y d (λ same. other.1 (sym same))))
        (each.done k (omega (arith, below, other.1)) there d)
