-- The pairs of a number in a list that rises.
use Rattle.std.proofs.Common.{◌≡◌, ℕ, ◌+◌, ◌<◌, ◌≤◌, Bool, true, false, not, List, [], ◌∷◌, length, get_or, take, drop, All, refl, sym, ap, ◌∙◌, subst, arith, length-drop, leb, ltb}
use Rattle.std.specs.Prelude.{◌==◌, filter, ◌&&◌}
use Rattle.std.specs.List.{AllWithin}
use Rattle.std.specs.List.Sorted.{IsStableByKey, IsPartitionPoint, ties}
use Rattle.std.specs.Ordering.{nat_cmp, is_lt}
use Rattle.std.proofs.lemmas.Bool.Decides.{nat_tests}
use Rattle.std.proofs.lemmas.List.{append-nil, get_or-drop, get_or-take, length-take-le, take-append-drop}
use Rattle.std.proofs.lemmas.List.Elements.{All-head, All-tail, All-take, All-weaker, filter-append, filter_agree}

-- neither is below the other: they are equal
tied : (x y : ℕ) → (not (is_lt (nat_cmp x y)) && not (is_lt (nat_cmp y x))) ≡ (y == x)
tied x y = grind (arith, nat_tests)

-- a stable sort by number leaves the pairs of each number in their order
pub stable_filter : {T : Type 0} (xs ys : List (ℕ × T)) (number : ℕ) → length ys ≡ length xs → IsStableByKey (λ p. p.0) nat_cmp xs ys → filter (λ p. p.0 == number) ys ≡ filter (λ p. p.0 == number) xs
stable_filter {T} [] [] number len stable = refl
stable_filter {T} [] (y ∷ ys) number len stable = absurd (omega arith)
stable_filter {T} (x ∷ xs) ys number len stable =
    let lt : ℕ × T → ℕ × T → Bool = λ a b. is_lt (nat_cmp a.0 b.0) in
    let at : ℕ × T = (number, x.1) in
    filter_agree (λ (p : ℕ × T). p.0 == number) (ties lt at) (λ p. sym (tied number p.0)) ys
    ∙ stable at ∙ filter_agree (ties lt at) (λ (p : ℕ × T). p.0 == number) (λ p. tied number p.0) (x ∷ xs)

pub filter_none : {X : Type 0} (p : X → Bool) (xs : List X) → All (λ x. p x ≡ false) xs → filter p xs ≡ []
filter_none p [] all = refl
filter_none {X} p (x ∷ xs) all =
    let P : X → Type 0 = λ x. p x ≡ false in
    rw (All-head P x xs all, filter_none p xs (All-tail P x xs all)) refl

pub filter_all : {X : Type 0} (p : X → Bool) (xs : List X) → All (λ x. p x ≡ true) xs → filter p xs ≡ xs
filter_all p [] all = refl
filter_all {X} p (x ∷ xs) all =
    let P : X → Type 0 = λ x. p x ≡ true in
    rw (All-head P x xs all, filter_all p xs (All-tail P x xs all)) refl

-- the first pairs of a list, up to a place
all_first : {X : Type 0} (P : X → Type 0) (xs : List X) (n : ℕ) → n ≤ length xs → AllWithin P xs 0 n → All P (take n xs)
all_first {X} P xs n le within = λ k d lt.
    let low : k < n = omega (arith, length-take-le n xs le, lt) in
    subst P (sym (get_or-take n xs k d low)) (within k d (omega arith) low)

all_later : {X : Type 0} (P : X → Type 0) (xs : List X) (n : ℕ) → n ≤ length xs → AllWithin P xs n (length xs) → All P (drop n xs)
all_later {X} P xs n le within = λ k d lt.
    subst P (sym (get_or-drop n xs k d)) (within (n + k) d (omega arith) (omega (arith, length-drop n xs, lt)))

equal_from : (x number : ℕ) → leb x number ≡ true → ltb x number ≡ false → (x == number) ≡ true
equal_from x number le not_lt = grind (arith, nat_tests)

above_from : (x number : ℕ) → leb x number ≡ false → (x == number) ≡ false
above_from x number gt = grind (arith, nat_tests)

below_from : (x number : ℕ) → ltb x number ≡ true → (x == number) ≡ false
below_from x number lt = grind (arith, nat_tests)

both_all : {X : Type 0} (P Q R : X → Type 0) → ((x : X) → P x → Q x → R x) → (xs : List X) → All P xs → All Q xs → All R xs
both_all P Q R f xs p q = λ k d lt. f (get_or xs k d) (p k d lt) (q k d lt)

-- between the places where a rising list reaches a number and where it passes it stand the pairs of that number
pub filter_between : {T : Type 0} (xs : List (ℕ × T)) (number start count : ℕ) → start ≤ length xs → count ≤ length (drop start xs)
    → IsPartitionPoint (λ p. ltb p.0 number ≡ true) (λ p. ltb p.0 number ≡ false) xs start
    → IsPartitionPoint (λ p. leb p.0 number ≡ true) (λ p. leb p.0 number ≡ false) (drop start xs) count
    → take count (drop start xs) ≡ filter (λ p. p.0 == number) xs
filter_between {T} xs number start count within inside before after =
    let p : ℕ × T → Bool = λ p. p.0 == number in
    let later : List (ℕ × T) = drop start xs in
    let reached : All (λ (q : ℕ × T). ltb q.0 number ≡ false) later = all_later (λ (q : ℕ × T). ltb q.0 number ≡ false) xs start within before.1 in
    let front : filter p (take start xs) ≡ [] = filter_none p (take start xs) (All-weaker (λ (q : ℕ × T). ltb q.0 number ≡ true) (λ (q : ℕ × T). p q ≡ false) (λ q h. below_from q.0 number h) (take start xs) (all_first (λ (q : ℕ × T). ltb q.0 number ≡ true) xs start within before.0)) in
    let middle : filter p (take count later) ≡ take count later =
    filter_all p (take count later) (both_all (λ (q : ℕ × T). leb q.0 number ≡ true) (λ (q : ℕ × T). ltb q.0 number ≡ false) (λ (q : ℕ × T). p q ≡ true) (λ q h k. equal_from q.0 number h k) (take count later)
    (all_first (λ (q : ℕ × T). leb q.0 number ≡ true) later count inside after.0) (All-take (λ (q : ℕ × T). ltb q.0 number ≡ false) count later reached)) in
    let rest : filter p (drop count later) ≡ [] = filter_none p (drop count later) (All-weaker (λ (q : ℕ × T). leb q.0 number ≡ false) (λ (q : ℕ × T). p q ≡ false) (λ q h. above_from q.0 number h) (drop count later) (all_later (λ (q : ℕ × T). leb q.0 number ≡ false) later count inside after.1)) in
    let parted : filter p later ≡ take count later =
    ap (filter p) (sym (take-append-drop count later)) ∙ filter-append p (take count later) (drop count later) ∙ rw (middle, rest) (append-nil (take count later)) in
    sym (ap (filter p) (sym (take-append-drop start xs)) ∙ filter-append p (take start xs) later ∙ rw (front, parted) refl)
