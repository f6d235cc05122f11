-- What a test of each number below another tells of one.
use Rattle.std.proofs.Common.{◌≡◌, ℕ, zero, suc, ◌<◌, Bool, true, false, refl, arith}
use Rattle.std.specs.Prelude.{◌==◌, ◌&&◌, nat_lt}
use Rattle.std.specs.Bool.{beq}
use Rattle.std.proofs.lemmas.Bool.{eqb-true, eqb-false, ltb-true}

pub both : (a b : Bool) → (a && b) ≡ true → (a ≡ true) × (b ≡ true)
both true true e = (refl, refl)
both true false e = absurd cc
both false b e = absurd cc

pub same_bool : (a b : Bool) → beq a b ≡ true → a ≡ b
same_bool true true e = refl
same_bool false false e = refl
same_bool true false e = absurd cc
same_bool false true e = absurd cc

-- a test of every number below this one
unfoldable pub all_below : ℕ → (ℕ → Bool) → Bool
all_below zero test = true
all_below (suc n) test = test n && all_below n test

pub below_all : (n k : ℕ) (test : ℕ → Bool) → all_below n test ≡ true → k < n → test k ≡ true
unfolding all_below
below_all zero k test all below = absurd (omega arith)
below_all (suc n) k test all below = by_place (λ less. below_all n k test parts.1 less) (k == n) refl
  where
    parts : (test n ≡ true) × (all_below n test ≡ true)
    parts = both (test n) (all_below n test) all

    by_place : (k < n → test k ≡ true) → (b : Bool) → (k == n) ≡ b → test k ≡ true
    by_place lower true is = rw (eqb-true k n is) parts.0
    by_place lower false is = lower (omega (arith, eqb-false k n is))
