-- Lemmas on what a look-up among key sets finds.
use Rattle.std.proofs.Common.{le-leb, eqb-true, eq-eqb, ◌==◌, ◌≡◌, ◌≢◌, ℕ, ◌-◌, ◌<◌, ◌≤◌, inl, inr, Bool, true, false, cond, List, [], ◌∷◌, length, map, find, reverse, get_or, Option, Some, None, sym, ◌∙◌, ap, arith, nat_le, Bor, IfSome, IfNone, All}
use Rattle.std.proofs.Math.Dec.{eqb}
use Rattle.std.proofs.lemmas.Bool.Decides.{eqb_tells, leb_tells}
use Rattle.std.proofs.lemmas.List.{get_or-map, get_or-reverse, length-map, length-reverse, reverse-append}
use Rattle.std.proofs.lemmas.List.Folds.{find-append, find_at}
use Rattle.std.proofs.lemmas.List.Kept.{AllPairs-from_increasing}
use Rattle.std.proofs.lemmas.List.Sums.{fails_before_first, passes_at_first}
use Rattle.std.proofs.lemmas.Option.{none-some, slice_get_cases, slice_get_within, get_or_from_slice_get}
use Rattle.std.specs.List.{position_or_len}
use Rattle.std.specs.List.{IsAmong}
use Rattle.std.specs.List.Sorted.{IsStrictlyIncreasing}
use Rattle.std.specs.Option.{option_or, option_copied}

-- the element that is found passes, and none before it does
pub record IsFirstAt {X : Type 0} (p : X → Bool) (xs : List X) (x : X) (i : ℕ) : Type 0 where
  pub within : i < length xs
  pub here : get_or xs i x ≡ x
  pub passes : p x ≡ true
  pub none_before : (k : ℕ) (d : X) → k < i → p (get_or xs k d) ≡ false

pub found_at : {X : Type 0} (p : X → Bool) (xs : List X) (x : X) → find p xs ≡ Some x → IsFirstAt p xs x (position_or_len p xs)
found_at p xs x found =
    let got = sym (find_at p xs) ∙ found in
    let within = slice_get_within xs _ x got in
    let here = get_or_from_slice_get xs _ x x got in record {
      within = within;
      here = here;
      passes = ap p (sym here) ∙ passes_at_first p xs x within;
      none_before = λ k d before. fails_before_first p xs k d before;
    }

-- the last element that passes
record IsLastAt {X : Type 0} (p : X → Bool) (xs : List X) (x : X) (i : ℕ) : Type 0 where
  pub within : i < length xs
  pub here : get_or xs i x ≡ x
  pub passes : p x ≡ true
  pub none_after : (k : ℕ) (d : X) → i < k → k < length xs → p (get_or xs k d) ≡ false

last_found_at : {X : Type 0} (p : X → Bool) (xs : List X) (x : X) → find p (reverse xs) ≡ Some x →
    IsLastAt p xs x (length xs - 1 - position_or_len p (reverse xs))
last_found_at p xs x found =
    let i = position_or_len p (reverse xs) in
    let at = found_at p (reverse xs) x found in
    let within : i < length xs = omega (arith, at.within, length-reverse xs) in record {
      within = omega arith;
      here = sym (get_or-reverse xs i x within) ∙ at.here;
      passes = at.passes;
      none_after = λ k d after below.
          let back : length xs - 1 - (length xs - 1 - k) ≡ k = omega arith in
          ap (λ j. p (get_or xs j d)) (sym back)
          ∙ ap p (sym (get_or-reverse xs (length xs - 1 - k) d (omega arith)))
          ∙ at.none_before (length xs - 1 - k) d (omega arith);
    }

-- what holds of f of each element holds of f of the one at an index
has_at : {X : Type 0} (f : X → ℕ) (xs : List X) (n : ℕ) (x : X) (i : ℕ) →
    ((k : ℕ) → k < length xs → get_or (map f xs) k 0 ≡ n) → i < length xs → get_or xs i x ≡ x → f x ≡ n
has_at f xs n x i all within here = ap f (sym here) ∙ sym (get_or-map f xs i x 0 within) ∙ all i within

-- what holds of f of each element holds of f of the last that is found
pub last_found_has : {X : Type 0} (f : X → ℕ) (p : X → Bool) (xs : List X) (n : ℕ) (x : X) →
    ((k : ℕ) → k < length xs → get_or (map f xs) k 0 ≡ n) → find p (reverse xs) ≡ Some x → f x ≡ n
last_found_has f p xs n x all found =
    let at = last_found_at p xs x found in has_at f xs n x _ all at.within at.here

-- the last that is found is an element, and passes
pub last_found_listed : {X : Type 0} (p : X → Bool) (xs : List X) (x : X) → find p (reverse xs) ≡ Some x → IsAmong xs x
last_found_listed p xs x found =
    let at = last_found_at p xs x found in (_, (at.within, sym at.here))

pub last_found_passes : {X : Type 0} (p : X → Bool) (xs : List X) (x : X) → find p (reverse xs) ≡ Some x → p x ≡ true
last_found_passes p xs x found = (last_found_at p xs x found).passes

-- numbers that rise don't fall from an index to a later one
not_falling : (ns : List ℕ) (k i : ℕ) → IsStrictlyIncreasing ns → k ≤ i → i < length ns → get_or ns k 0 ≤ get_or ns i 0
not_falling ns k i rise below within =
    elim (eqb_tells k i) [
      | inl t ↦ omega (arith, ap (λ j. get_or ns j 0) t.1)
      | inr f ↦ omega (arith, AllPairs-from_increasing ns rise k i 0 (omega (arith, f.1)) within)
    ]

-- where f rises along the list, no element that passes is above the last one
pub last_found_latest : {X : Type 0} (f : X → ℕ) (now : ℕ) (xs : List X) (x : X) → IsStrictlyIncreasing (map f xs) →
    find (λ x. nat_le (f x) now) (reverse xs) ≡ Some x → All (λ y. f y ≤ now → f y ≤ f x) xs
last_found_latest f now xs x rise found =
    λ k d below come.
    let p = λ (y : _). nat_le (f y) now in
    let i = length xs - 1 - position_or_len p (reverse xs) in
    let at = last_found_at p xs x found in
    let at_k : get_or (map f xs) k 0 ≡ f (get_or xs k d) = get_or-map f xs k d 0 below in
    let at_i : get_or (map f xs) i 0 ≡ f x = get_or-map f xs i x 0 at.within ∙ ap f at.here in
    elim (leb_tells k i) [
      | inl t ↦ omega (arith, at_k, at_i, not_falling (map f xs) k i rise t.1 (omega (arith, at.within, length-map xs f)))
      | inr after ↦ (
          let fails : nat_le (f (get_or xs k d)) now ≡ false = at.none_after k d after.1 below in
          let passes : nat_le (f (get_or xs k d)) now ≡ true = le-leb (f (get_or xs k d)) now come in
          absurd (cc)
          )
    ]

none_of_or : {X : Type 0} (o : Option X) (x : X) → option_or o (Some x) ≢ None
none_of_or None x none = cc
none_of_or (Some y) x none = cc

-- where the first element passes, some last one does
pub some_last : {X : Type 0} (f : X → ℕ) (now : ℕ) (xs : List X) → 0 < length xs → get_or (map f xs) 0 0 ≡ 0 →
    find (λ x. nat_le (f x) now) (reverse xs) ≢ None
some_last f now [] some first none = absurd (omega arith)
some_last f now (x ∷ xs) some first none =
    let passes : nat_le (f x) now ≡ true = le-leb (f x) now (omega arith) in
    let p = λ (y : _). nat_le (f y) now in
    let split : find p (reverse (x ∷ xs)) ≡ option_or (find p (reverse xs)) (find p (x ∷ [])) =
    ap (λ ys. find p ys) (reverse-append (x ∷ []) xs) ∙ find-append p (reverse xs) (x ∷ []) in
    let last : find p (x ∷ []) ≡ Some x = ap (λ b. cond b (Some x) None) passes in
    none_of_or (find p (reverse xs)) x (sym (ap (λ o. option_or (find p (reverse xs)) o) last) ∙ sym split ∙ none)

-- the same as last_found_has, of the first that is found, by reference
pub IfSome-found : {X : Type 0} (f : X → ℕ) (p : X → Bool) (xs : List X) (n : ℕ) (r : Option (Bor X)) →
    ((k : ℕ) → k < length xs → get_or (map f xs) k 0 ≡ n) → option_copied r ≡ find p xs → IfSome r (λ x. f x.now ≡ n)
IfSome-found f p xs n None all found = tt
IfSome-found f p xs n (Some x) all found =
    let at = found_at p xs x.now (sym found) in has_at f xs n x.now _ all at.within at.here

-- the first that is found is an element
pub IfSome-listed : {X : Type 0} (p : X → Bool) (xs : List X) (r : Option (Bor X)) → option_copied r ≡ find p xs →
    IfSome r (λ x. IsAmong xs x.now)
IfSome-listed p xs None found = tt
IfSome-listed p xs (Some x) found =
    let at = found_at p xs x.now (sym found) in (_, (at.within, sym at.here))

-- f of the first that is found is the number looked for
pub IfSome-equal : {X : Type 0} (f : X → ℕ) (n : ℕ) (xs : List X) (r : Option (Bor X)) →
    option_copied r ≡ find (λ x. f x == n) xs → IfSome r (λ x. f x.now ≡ n)
IfSome-equal f n xs None found = tt
IfSome-equal f n xs (Some x) found =
    eqb-true (f x.now) n (found_at (λ x. f x == n) xs x.now (sym found)).passes

-- where none is found, no element passes
none_passes : {X : Type 0} (p : X → Bool) (xs : List X) (k : ℕ) (d : X) → find p xs ≡ None → k < length xs →
    p (get_or xs k d) ≡ false
none_passes p xs k d none below =
    elim (slice_get_cases xs (position_or_len p xs)).1 [
      | inl here ↦ absurd (none-some here.0 (sym none ∙ find_at p xs ∙ here.2))
      | inr past ↦ fails_before_first p xs k d (omega (arith, past.0))
    ]

-- where none is found, f of no element is the number looked for
pub none_equal : {X : Type 0} (f : X → ℕ) (n : ℕ) (xs : List X) → find (λ x. f x == n) xs ≡ None → All (λ x. f x ≢ n) xs
none_equal f n xs none =
    λ k d below same.
    let fails : eqb (f (get_or xs k d)) n ≡ false = none_passes (λ x. f x == n) xs k d none below in
    let passes : eqb (f (get_or xs k d)) n ≡ true = eq-eqb (f (get_or xs k d)) n same in
    cc

pub IfNone-equal : {X : Type 0} (f : X → ℕ) (n : ℕ) (xs : List X) (r : Option (Bor X)) →
    option_copied r ≡ find (λ x. f x == n) xs → IfNone r (All (λ x. f x ≢ n) xs)
IfNone-equal f n xs None found = none_equal f n xs (sym found)
IfNone-equal f n xs (Some x) found = tt
