-- Keys in order.
use Rattle.std.proofs.Common.{◌≡◌, ℕ, zero, suc, ◌+◌, ◌<◌, true, ◌&&◌, ◌==◌, nat_lt, List, [], ◌∷◌, map, length, slice_index, Some, refl, sym, ap, ◌∙◌, subst, arith}
use Rattle.std.specs.List.Sorted.{IsStrictlyIncreasing}
use Rattle.std.proofs.lemmas.Bool.{false≢true, eqb-true, and_parts}
use Rattle.std.proofs.lemmas.Bool.Decides.{nat_tests}
use Rattle.ps_config.specs.Faults.{rises_from, rises, starts_at_zero}

above : (n m : ℕ) → nat_lt n m ≡ true → n < m
above n m h = grind (arith, nat_tests)

rising_from : (n : ℕ) (ns : List ℕ) → rises_from (Some n) ns ≡ true → IsStrictlyIncreasing (n ∷ ns)
rising_from n [] h k within = absurd (omega arith)
rising_from n (m ∷ ns) h zero within = above n m (and_parts (nat_lt n m) (rises_from (Some m) ns) h).0
rising_from n (m ∷ ns) h (suc k) within =
    let rest = rising_from m ns (and_parts (nat_lt n m) (rises_from (Some m) ns) h).1 k (omega arith) in
    let e : suc k + 1 ≡ suc (k + 1) = omega arith in
    subst (λ i. slice_index (m ∷ ns) k < slice_index (n ∷ m ∷ ns) i) (sym e) rest

-- numbers that pass rise
pub rising : (ns : List ℕ) → rises ns ≡ true → IsStrictlyIncreasing ns
rising [] h = λ k within. absurd (omega arith)
rising (n ∷ ns) h = rising_from n ns h

below_next : (n m : ℕ) → n < m → nat_lt n m ≡ true
below_next n m h = grind (arith, nat_tests)

behind : (n : ℕ) (ns : List ℕ) → IsStrictlyIncreasing (n ∷ ns) → IsStrictlyIncreasing ns
behind n ns h k within =
    let e : suc k + 1 ≡ suc (k + 1) = omega arith in
    subst (λ i. slice_index ns k < slice_index (n ∷ ns) i) e (h (suc k) (omega arith))

pass_from : (n : ℕ) (ns : List ℕ) → IsStrictlyIncreasing (n ∷ ns) → rises_from (Some n) ns ≡ true
pass_from n [] h = refl
pass_from n (m ∷ ns) h = ap (λ b. b && rises_from (Some m) ns) (below_next n m (h zero (omega arith))) ∙ pass_from m ns (behind n (m ∷ ns) h)

-- and numbers that rise pass
pub passes_rising : (ns : List ℕ) → IsStrictlyIncreasing ns → rises ns ≡ true
passes_rising [] h = refl
passes_rising (n ∷ ns) h = pass_from n ns h

-- numbers whose first is 0 start at zero
pub starting : (ns : List ℕ) → 0 < length ns → slice_index ns 0 ≡ 0 → starts_at_zero ns ≡ true
starting [] some first = absurd (omega arith)
starting (n ∷ ns) some first = ap (λ m. m == 0) first

-- numbers that start at zero are some, and the first is 0
pub some_first : (ns : List ℕ) → starts_at_zero ns ≡ true → (0 < length ns) × (slice_index ns 0 ≡ 0)
some_first [] h = absurd (false≢true h)
some_first (n ∷ ns) h = (omega arith, eqb-true n 0 h)

pub map_twice : {X Y Z : Type 0} (f : X → Y) (g : Y → Z) (xs : List X) → map g (map f xs) ≡ map (λ x. g (f x)) xs
map_twice f g [] = refl
map_twice f g (x ∷ xs) = ap (λ l. g (f x) ∷ l) (map_twice f g xs)
