-- The calls that are named to fail, looked up one after another.
use Rattle.std.proofs.Common.{◌≡◌, ℕ, zero, suc, ◌+◌, ◌^◌, ◌<◌, ◌≤◌, Bool, true, false, List, [], ◌∷◌, length, get_or, drop, All, Contains, refl, sym, ap, ◌∙◌, subst, arith, add-one, eqb}
use Rattle.std.specs.Prelude.{◌==◌, ◌||◌}
use Rattle.std.specs.List.{AllPairs, dedup}
use Rattle.std.specs.List.Sorted.{IsPermutation, IsSorted}
use Rattle.std.specs.Ordering.{nat_cmp}
use Rattle.std.proofs.lemmas.Bool.Decides.{nat_tests}
use Rattle.std.proofs.lemmas.List.Elements.{All-cons, All-head, All-weaker}
use Rattle.std.proofs.lemmas.List.Folds.{Any-from_list_any, list_any-from_Any, list_any_none}
use Rattle.std.proofs.lemmas.List.Kept.{AllPairs-from_increasing, Contains-dedup_nat, Contains-from_dedup}
use Rattle.std.proofs.lemmas.List.Sorted.{Contains-permutation, IsPermutation-sym}
use Rattle.std.proofs.lemmas.Map.Keys.{IsStrictlyIncreasing-dedup}
use Rattle.std.proofs.Math.Seq.{drop-cons}
use Rattle.mem_edge.specs.Calls.{is_named, next_call}
use Rattle.mem_edge.specs.Failings.{IsAhead}

-- ---- lists with the same elements name the same calls

agree : (a b : Bool) → (a ≡ true → b ≡ true) → (b ≡ true → a ≡ true) → a ≡ b
agree true b there back = sym (there refl)
agree false true there back = back refl
agree false false there back = refl

named_kept : (n : ℕ) (xs ys : List ℕ) → ((x : ℕ) → Contains xs x → Contains ys x) → is_named xs n ≡ true → is_named ys n ≡ true
named_kept n xs ys keeps named =
    let one = Any-from_list_any (λ (x : ℕ). x == n) xs named in
    let there = keeps one.1 (one.0, one.2, one.3) in
    list_any-from_Any (λ (x : ℕ). x == n) ys (there.0, one.1, there.1, there.2, one.4)

named_same : (n : ℕ) (xs ys : List ℕ) → ((x : ℕ) → Contains xs x → Contains ys x) → ((x : ℕ) → Contains ys x → Contains xs x) → is_named xs n ≡ is_named ys n
named_same n xs ys there back = agree (is_named xs n) (is_named ys n) (named_kept n xs ys there) (named_kept n ys xs back)

-- sorted, and each number once
pub sorted_ahead : (fails given sorted once : List ℕ) → given ≡ fails → IsPermutation given sorted → IsSorted nat_cmp sorted → once ≡ dedup eqb sorted → IsAhead fails 0 once
sorted_ahead fails given sorted once is moved rises each = record {
  rising = rw each (AllPairs-from_increasing (dedup eqb sorted) (IsStrictlyIncreasing-dedup sorted rises));
  later = λ k d lt. omega arith;
  same = λ n low. named_same n once fails
      (λ x h. subst (λ (l : List ℕ). Contains l x) is (Contains-permutation _ _ x (IsPermutation-sym _ _ moved) (Contains-from_dedup eqb sorted x (subst (λ (l : List ℕ). Contains l x) each h))))
      (λ x h. subst (λ (l : List ℕ). Contains l x) (sym each) (Contains-dedup_nat sorted x (Contains-permutation _ _ x moved (subst (λ (l : List ℕ). Contains l x) (sym is) h))));
}

-- ---- the first of those to come

pub ahead_first : (xs : List ℕ) (next x : ℕ) → next < length xs → x ≡ get_or xs next x → drop next xs ≡ x ∷ drop (next + 1) xs
ahead_first xs next x lt is = drop-cons xs next x lt ∙ ap (λ (y : ℕ). y ∷ drop (suc next) xs) (sym is) ∙ rw add-one refl

pub ahead_none : (xs : List ℕ) (next : ℕ) → length xs ≤ next → drop next xs ≡ []
ahead_none [] zero le = refl
ahead_none [] (suc next) le = refl
ahead_none (x ∷ xs) zero le = absurd (omega arith)
ahead_none (x ∷ xs) (suc next) le = ahead_none xs next (omega arith)

tail_above : (low x : ℕ) (xs : List ℕ) → low ≤ x → AllPairs (λ m n. m < n) (x ∷ xs) → All (λ n. low < n) xs
tail_above low x xs le rising = λ k d lt. let up : x < get_or xs k d = rising 0 (suc k) d (omega arith) (omega arith) in omega (arith, up, le)

tail_rising : (x : ℕ) (xs : List ℕ) → AllPairs (λ m n. m < n) (x ∷ xs) → AllPairs (λ m n. m < n) xs
tail_rising x xs rising = λ i j d lt within. rising (suc i) (suc j) d (omega arith) (omega arith)

above_unnamed : (n : ℕ) (xs : List ℕ) → All (λ x. n < x) xs → is_named xs n ≡ false
above_unnamed n xs above = list_any_none (λ (x : ℕ). x == n) xs (All-weaker (λ (x : ℕ). n < x) (λ (x : ℕ). (x == n) ≡ false) (λ x lt. grind (arith, nat_tests)) xs above)

or_false : (b : Bool) → (b || false) ≡ b
or_false true = refl
or_false false = refl

pub first_named : (fails xs : List ℕ) (number x : ℕ) → IsAhead fails number (x ∷ xs) → (x == number) ≡ is_named fails number
first_named fails xs number x ahead =
    let low : number ≤ x = All-head (λ (n : ℕ). number ≤ n) x xs ahead.later in
    let none : is_named xs number ≡ false = above_unnamed number xs (tail_above number x xs low ahead.rising) in
    sym (or_false (x == number)) ∙ ap (λ (b : Bool). (x == number) || b) (sym none) ∙ ahead.same number (omega arith)

pub none_named : (fails : List ℕ) (number : ℕ) → IsAhead fails number [] → false ≡ is_named fails number
none_named fails number ahead = ahead.same number (omega arith)

-- ---- the call is over

-- it was the first
pub passed : (fails xs : List ℕ) (number x : ℕ) → x ≡ number → x < 2 ^ 64 → IsAhead fails number (x ∷ xs) → IsAhead fails (next_call number) xs
passed fails xs number x is small ahead = record {
  rising = tail_rising x xs ahead.rising;
  later = All-weaker (λ (n : ℕ). number < n) (λ (n : ℕ). next_call number ≤ n) (λ n lt. omega (arith, lt)) xs (tail_above number x xs (omega (arith, is)) ahead.rising);
  same = λ n le.
      let other : (x == n) ≡ false = grind (arith, nat_tests, is, small, le) in
      ap (λ (b : Bool). b || is_named xs n) (sym other) ∙ ahead.same n (omega (arith, le));
}

-- it was none of them
pub unpassed : (fails xs : List ℕ) (number x : ℕ) → number < 2 ^ 128 → (x == number) ≡ false → IsAhead fails number (x ∷ xs) → IsAhead fails (next_call number) (x ∷ xs)
unpassed fails xs number x small differs ahead =
    let low : number ≤ x = All-head (λ (n : ℕ). number ≤ n) x xs ahead.later in
    record {
      rising = ahead.rising;
      later =
          All-cons (λ (n : ℕ). next_call number ≤ n) x xs (grind (arith, nat_tests, low, differs))
          (All-weaker (λ (n : ℕ). number < n) (λ (n : ℕ). next_call number ≤ n) (λ n lt. omega (arith, lt)) xs (tail_above number x xs low ahead.rising));
      same = λ n le. ahead.same n (omega (arith, le, small));
    }

pub none_passed : (fails : List ℕ) (number : ℕ) → number < 2 ^ 128 → IsAhead fails number [] → IsAhead fails (next_call number) []
none_passed fails number small ahead = record { rising = ahead.rising; later = λ k d lt. omega (arith, lt); same = λ n le. ahead.same n (omega (arith, le, small)) }

-- a number of 64 bits is far from the last
pub next_is : (fails ahead : List ℕ) (number : ℕ) → number < 2 ^ 64 → IsAhead fails (next_call number) ahead → IsAhead fails (number + 1) ahead
next_is fails ahead number small h = subst (λ (n : ℕ). IsAhead fails n ahead) (let same : next_call number ≡ number + 1 = omega (arith, small) in same) h
