-- Which of two near places has the newer number, and that a number gives its place back.
use Rattle.std.proofs.Common.{◌≡◌, arith, ℕ, ◌+◌, ◌-◌, ◌<◌, ◌≤◌, ◌^◌, List, [], ◌∷◌, ◌++◌}
use Rattle.std.specs.Prelude.{◌%◌, nat_lt}
use Rattle.std.proofs.lemmas.Bool.Decides.{nat_tests}
use Rattle.seq_number.specs.Numbers.{number_of_place, newer, greatest, IsNear, place_from}

ahead : (p g : ℕ) → g < p → p ≤ g + 16384 → (65535 + p % 65536 - g % 65536) % 65536 < 16384
ahead p g a b = omega arith

behind : (p g : ℕ) → p ≤ g → g < p + 49152 → 16384 ≤ (65535 + p % 65536 - g % 65536) % 65536
behind p g a b = omega arith

-- of near places the greater one has the newer number
pub newer-near : (place other : ℕ) → place ≤ other + 16384 → other < place + 49152 → newer (number_of_place place) (number_of_place other) ≡ nat_lt other place
newer-near place other a b = grind (arith, nat_tests, ahead place other, behind place other)

-- at each step of near places
pub newer-steps :
    (later : List ℕ) (place last : ℕ) (before : List ℕ)
    → IsNear (later ++ place ∷ last ∷ before)
    → newer (number_of_place place) (number_of_place (greatest (last ∷ before))) ≡ nat_lt (greatest (last ∷ before)) place
newer-steps [] place last before near = newer-near place (greatest (last ∷ before)) near.0 near.1
newer-steps (x ∷ []) place last before near = newer-steps [] place last before near.2
newer-steps (x ∷ y ∷ later) place last before near = newer-steps (y ∷ later) place last before near.2

-- the place with a number, of those from the first on
pub place_from-number : (first place : ℕ) → first ≤ place → place < first + 65536 → place_from first (number_of_place place) ≡ place
place_from-number first place a b = omega arith

-- a place that a number stands for has that number
pub number-place_from : (first number : ℕ) → number < 2 ^ 16 → number_of_place (place_from first number) ≡ number
number-place_from first number a = omega arith

-- the number before the next place's
pub number-before : (next : ℕ) → 1 ≤ next → (number_of_place next + 65535) % 65536 ≡ number_of_place (next - 1)
number-before next a = omega arith
