-- Samples are cut to the fields of a moment.
use Rattle.std.proofs.Common.{◌≡◌, sym, subst, arith, ℕ, zero, suc, ◌+◌, ◌<◌, ◌≢◌, ◌⊎◌, inl, inr, true, false, List, [], ◌∷◌, length, get_or}
use Rattle.std.specs.Prelude.{◌==◌, slice_set}
use Rattle.std.specs.List.{AllZip}
use Rattle.std.proofs.lemmas.Bool.Decides.{eqb_tells}
use Rattle.std.proofs.lemmas.List.{get_or-set_other, get_or-set_same}

pub allzip-at : {A B : Type 0} (R : A → B → Type 0) (xs : List A) (ys : List B) (i : ℕ) (d : A) (e : B) → AllZip R xs ys → i < length xs → R (get_or xs i d) (get_or ys i e)
allzip-at R [] [] i d e h low = absurd (omega (arith, low))
allzip-at R [] (y ∷ ys) i d e h low = absurd h
allzip-at R (x ∷ xs) [] i d e h low = absurd h
allzip-at R (x ∷ xs) (y ∷ ys) zero d e h low = h.0
allzip-at R (x ∷ xs) (y ∷ ys) (suc i) d e h low = allzip-at R xs ys i d e h.1 (omega (arith, low))

pub allzip-from : {A B : Type 0} (R : A → B → Type 0) (xs : List A) (ys : List B) (d : A) (e : B) → length ys ≡ length xs
    → ((i : ℕ) → i < length xs → R (get_or xs i d) (get_or ys i e)) → AllZip R xs ys
allzip-from R [] [] d e same each = tt
allzip-from R [] (y ∷ ys) d e same each = absurd (omega (arith, same))
allzip-from R (x ∷ xs) [] d e same each = absurd (omega (arith, same))
allzip-from R (x ∷ xs) (y ∷ ys) d e same each = (each zero (omega arith), allzip-from R xs ys d e (omega (arith, same)) (λ i low. each (suc i) (omega (arith, low))))

-- what holds of the first places holds of one more
pub more-places : {X : Type 0} (P : ℕ → X → Type 0) (xs : List X) (n : ℕ) (x d : X) → n < length xs → P n x → ((k : ℕ) → k < n → P k (get_or xs k d)) → (k : ℕ) → k < n + 1 → P k (get_or (slice_set xs n x) k d)
more-places {X} P xs n x d low new each k below = by_case (eqb_tells n k)
  where
    by_case : ((n == k) ≡ true) × (n ≡ k) ⊎ ((n == k) ≡ false) × (n ≢ k) → P k (get_or (slice_set xs n x) k d)
    by_case (inl same) = subst (λ (j : ℕ). P j (get_or (slice_set xs n x) j d)) same.1 (subst (λ (y : X). P n y) (sym (get_or-set_same xs n x d low)) new)
    by_case (inr other) = subst (λ (y : X). P k y) (sym (get_or-set_other xs n k x d (λ same. other.1 (sym same)))) (each k (omega (arith, below, other.1)))
