-- How many of a list name a call from a number on.
use Rattle.std.proofs.Common.{◌≡◌, ℕ, ◌+◌, ◌<◌, ◌≤◌, Bool, true, false, cond, List, [], ◌∷◌, nat_le, refl, arith}
use Rattle.std.specs.Bool.{◌==◌}
use Rattle.std.proofs.lemmas.Bool.Decides.{nat_tests}
use Rattle.std.proofs.lemmas.List.Sums.{sum_by-cons}
use Rattle.mem_edge.specs.Calls.{is_named, named_from}

named_from-cons : (a x : ℕ) (fails : List ℕ) → named_from a (x ∷ fails) ≡ cond (nat_le a x) 1 0 + named_from a fails
named_from-cons a x fails = sum_by-cons (λ (y : ℕ). cond (nat_le a y) 1 0) x fails

later : (a b x m n : ℕ) → a ≤ b → m ≤ n → cond (nat_le b x) 1 0 + m ≤ cond (nat_le a x) 1 0 + n
later a b x m n le h = grind (arith, nat_tests)

pub named_from-later : (a b : ℕ) (fails : List ℕ) → a ≤ b → named_from b fails ≤ named_from a fails
named_from-later a b [] le = omega arith
named_from-later a b (x ∷ fails) le =
    omega (arith, named_from-cons a x fails, named_from-cons b x fails, later a b x (named_from b fails) (named_from a fails) le (named_from-later a b fails le))

here : (a b x m n : ℕ) → a < b → m ≤ n → (x == a) ≡ true → cond (nat_le b x) 1 0 + m < cond (nat_le a x) 1 0 + n
here a b x m n lt h is = grind (arith, nat_tests)

behind : (a b x m n : ℕ) → a < b → m < n → cond (nat_le b x) 1 0 + m < cond (nat_le a x) 1 0 + n
behind a b x m n lt h = grind (arith, nat_tests)

one : (a b x : ℕ) (fails : List ℕ) → a < b → (t : Bool) → (x == a) ≡ t → is_named (x ∷ fails) a ≡ true → (is_named fails a ≡ true → named_from b fails < named_from a fails)
    → cond (nat_le b x) 1 0 + named_from b fails < cond (nat_le a x) 1 0 + named_from a fails
one a b x fails lt true is named others = here a b x (named_from b fails) (named_from a fails) lt (named_from-later a b fails (omega arith)) is
one a b x fails lt false is named others = behind a b x (named_from b fails) (named_from a fails) lt (others (rw is at named))

pub named_from-named : (a b : ℕ) (fails : List ℕ) → a < b → is_named fails a ≡ true → named_from b fails < named_from a fails
named_from-named a b [] lt named = cc
named_from-named a b (x ∷ fails) lt named =
    omega (arith, named_from-cons a x fails, named_from-cons b x fails, one a b x fails lt (x == a) refl named (λ more. named_from-named a b fails lt more))
