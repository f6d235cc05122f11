-- Places that rise with their numbers are near where the numbers are.
use Rattle.std.proofs.Common.{◌≡◌, refl, arith, ℕ, ◌+◌, ◌<◌, ◌≤◌, Bool, true, false, List, [], ◌∷◌, subst, ◌⊎◌, inl, inr}
use Rattle.std.specs.Prelude.{nat_le, max, Contains}
use Rattle.std.proofs.lemmas.List.Elements.{Contains-push_cases, Contains-append_cases}
use Rattle.std.proofs.lemmas.Bool.Decides.{nat_tests}
use Rattle.seq_number.specs.Numbers.{greatest}
use Rattle.reader_group.specs.Agreeing.{Rise, RisesWith, RiseTogether, numbers_in, places_in, NearByNumbers}

-- the greatest number of these pairs, and the greatest place
abbrev pub top_pair : List (ℕ × ℕ) → ℕ × ℕ
top_pair pairs = (greatest (numbers_in pairs), greatest (places_in pairs))

-- a pair that rises with the two rises with the greater
top_on : (b : Bool) (x y : ℕ × ℕ) (g : ℕ × ℕ) → nat_le g.0 y.0 ≡ b → Rise y g → Rise g y → Rise x y → Rise y x → Rise x g → Rise g x
    → Rise x (max y.0 g.0, max y.1 g.1) × Rise (max y.0 g.0, max y.1 g.1) x
top_on true x y g e yg gy xy yx xg gx =
    let a : g.0 ≤ y.0 = grind (arith, nat_tests) in
    let number : y.0 ≡ max y.0 g.0 = omega (arith, a) in
    let place : y.1 ≡ max y.1 g.1 = omega (arith, gy a) in
    subst (λ (n : ℕ). Rise x (n, max y.1 g.1) × Rise (n, max y.1 g.1) x) number (subst (λ (p : ℕ). Rise x (y.0, p) × Rise (y.0, p) x) place (xy, yx))
top_on false x y g e yg gy xy yx xg gx =
    let a : y.0 ≤ g.0 = grind (arith, nat_tests) in
    let number : g.0 ≡ max y.0 g.0 = omega (arith, a) in
    let place : g.1 ≡ max y.1 g.1 = omega (arith, yg a) in
    subst (λ (n : ℕ). Rise x (n, max y.1 g.1) × Rise (n, max y.1 g.1) x) number (subst (λ (p : ℕ). Rise x (g.0, p) × Rise (g.0, p) x) place (xg, gx))

-- the greatest number carries the greatest place
rise-top : (x y : ℕ × ℕ) (before : List (ℕ × ℕ)) → RiseTogether (y ∷ before) → RisesWith x (y ∷ before) → Rise x (top_pair (y ∷ before)) × Rise (top_pair (y ∷ before)) x
rise-top x y [] together with_x =
    let number : y.0 ≡ max y.0 0 = omega arith in
    let place : y.1 ≡ max y.1 0 = omega arith in
    subst (λ (n : ℕ). Rise x (n, max y.1 0) × Rise (n, max y.1 0) x) number (subst (λ (p : ℕ). Rise x (y.0, p) × Rise (y.0, p) x) place (with_x.0, with_x.1))
rise-top x y (z ∷ before) together with_x =
    let g = top_pair (z ∷ before) in
    let by_y = rise-top y z before together.1 together.0 in
    let by_x = rise-top x z before together.1 with_x.2 in
    top_on (nat_le g.0 y.0) x y g refl by_y.0 by_y.1 with_x.0 with_x.1 by_x.0 by_x.1

near_pair : (b : Bool) (x g : ℕ × ℕ) → nat_le g.0 x.0 ≡ b → Rise x g → Rise g x → x.0 < g.0 + 16384 → g.0 < x.0 + 1024 → (x.1 ≤ g.1 + 16384) × (g.1 < x.1 + 49152)
near_pair true x g e low high above below = let a : g.0 ≤ x.0 = grind (arith, nat_tests) in (omega (arith, high a, above), omega (arith, high a))
near_pair false x g e low high above below = let a : x.0 ≤ g.0 = grind (arith, nat_tests) in (omega (arith, low a), omega (arith, low a, below))

pub near-pairs : (pairs : List (ℕ × ℕ)) → NearByNumbers pairs
near-pairs [] together within = tt
near-pairs (x ∷ []) together within = tt
near-pairs (x ∷ y ∷ before) together within =
    let top = top_pair (y ∷ before) in
    let with_top = rise-top x y before together.1 together.0 in
    let close = near_pair (nat_le top.0 x.0) x top refl with_top.0 with_top.1 within.0 within.1 in
    (close.0, close.1, near-pairs (y ∷ before) together.1 within.2)

-- ---- two pairs of a list that rises

first_or : (first : ℕ × ℕ) (pairs : List (ℕ × ℕ)) (pair : ℕ × ℕ) → Contains (first ∷ pairs) pair → (first ≡ pair) ⊎ Contains pairs pair
first_or first pairs pair has =
    elim (Contains-append_cases (first ∷ []) pairs pair has) [
      | inl here ↦ elim (Contains-push_cases [] first pair here) [ inl none ↦ absurd (omega (arith, none.1)) | inr same ↦ inl same ]
      | inr behind ↦ inr behind
    ]

rises_one : (pair first other : ℕ × ℕ) → Rise pair first → Rise first pair → first ≡ other → Rise pair other × Rise other pair
rises_one pair first other up down same = subst (λ (p : ℕ × ℕ). Rise pair p × Rise p pair) same (up, down)

rises_all : (pair : ℕ × ℕ) (pairs : List (ℕ × ℕ)) (other : ℕ × ℕ) → RisesWith pair pairs → Contains pairs other → Rise pair other × Rise other pair
rises_all pair [] other h has = absurd (omega (arith, has.1))
rises_all pair (first ∷ pairs) other h has =
    elim (first_or first pairs other has) [ inl same ↦ rises_one pair first other h.0 h.1 same | inr behind ↦ rises_all pair pairs other h.2 behind ]

together_on : (first : ℕ × ℕ) (pairs : List (ℕ × ℕ)) (low high : ℕ × ℕ) → RisesWith first pairs → (Contains pairs low → Contains pairs high → Rise low high)
    → (first ≡ low) ⊎ Contains pairs low → (first ≡ high) ⊎ Contains pairs high → Rise low high
together_on first pairs low high h behind (inl low_is) (inl high_is) =
    let itself : Rise first first = λ least. (omega arith, omega arith) in
    subst (λ (p : ℕ × ℕ). Rise low p) high_is (subst (λ (p : ℕ × ℕ). Rise p first) low_is itself)
together_on first pairs low high h behind (inl low_is) (inr has) = subst (λ (p : ℕ × ℕ). Rise p high) low_is (rises_all first pairs high h has).0
together_on first pairs low high h behind (inr has) (inl high_is) = subst (λ (p : ℕ × ℕ). Rise low p) high_is (rises_all first pairs low h has).1
together_on first pairs low high h behind (inr has) (inr also) = behind has also

pub together-rise : (pairs : List (ℕ × ℕ)) → RiseTogether pairs → (low high : ℕ × ℕ) → Contains pairs low → Contains pairs high → Rise low high
together-rise [] h low high has also = absurd (omega (arith, has.1))
together-rise (first ∷ pairs) h low high has also =
    together_on first pairs low high h.0 (together-rise pairs h.1 low high) (first_or first pairs low has) (first_or first pairs high also)
