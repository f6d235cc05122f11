-- The first place that passes a test.
use Rattle.std.proofs.Common.{◌≡◌, inl, inr, subst, ℕ, ◌+◌, ◌<◌, Bool, true, false, List, length, get_or, nat_lt, position, Some, None, sym, refl, arith}
use Rattle.std.specs.List.{position_or_len}
use Rattle.std.proofs.lemmas.Bool.{lt-ltb}
use Rattle.std.proofs.lemmas.Bool.Decides.{eqb_tells}
use Rattle.std.proofs.lemmas.List.Sums.{position_or_len_is}

pub position-found : {X : Type 0} (p : X → Bool) (xs : List X) (i : ℕ) (d : X) → i < length xs
    → ((k : ℕ) → k < i → p (get_or xs k d) ≡ false) → p (get_or xs i d) ≡ true → position p xs ≡ Some i
position-found p xs i d within before here =
    let at : position_or_len p xs ≡ i = position_or_len_is p xs i d (omega (arith, within)) before (λ _. here) in
    rw (at, lt-ltb i (length xs) within) refl

pub position-none : {X : Type 0} (p : X → Bool) (xs : List X) (d : X)
    → ((k : ℕ) → k < length xs → p (get_or xs k d) ≡ false) → position p xs ≡ None
position-none p xs d none =
    let at : position_or_len p xs ≡ length xs = position_or_len_is p xs (length xs) d (omega arith) none (λ h. absurd (omega (arith, h))) in
    rw (at, not_below (length xs)) refl
  where
    not_below : (n : ℕ) → nat_lt n n ≡ false
    not_below n = grind arith

-- one element more that doesn't pass
pub none-more : {X : Type 0} (p : X → Bool) (xs : List X) (i : ℕ) → ((k : ℕ) (d : X) → k < i → p (get_or xs k d) ≡ false)
    → ((d : X) → p (get_or xs i d) ≡ false) → (k : ℕ) (d : X) → k < i + 1 → p (get_or xs k d) ≡ false
none-more p xs i before here k d within =
    elim (eqb_tells k i) [
      | inl w ↦ subst (λ n. p (get_or xs n d) ≡ false) (sym w.1) (here d)
      | inr w ↦ before k d (omega (arith, within, w.1))
    ]
