-- What each table that passes says, and where it stands.
use Rattle.std.proofs.Common.{◌≡◌, ◌⊎◌, inl, inr, ℕ, zero, suc, ◌≤◌, Bool, true, false, ◌&&◌, ◌==◌, cond, nat_le, int_le, pos, negsuc, List, [], ◌∷◌, ◌++◌, filter, All, slice_get, Option, Some, None, is_none, unwrap_or, option_and_then, refl, sym, ap, ◌∙◌, arith}
use Rattle.std.specs.List.{list_any, AllByRecursion}
use Rattle.std.proofs.lemmas.Bool.{false≢true, eqb-true, and_parts, or_parts}
use Rattle.std.proofs.lemmas.Bool.Decides.{nat_tests}
use Rattle.std.proofs.lemmas.List.Elements.{All-from_recursion}
use Rattle.toml.specs.Data.{Data, string, integer, float, boolean, datetime, array, table, Members, as_integer}
use Rattle.config_tables.specs.declared.fault.Fault.TheVariants.{WrongType, BadNumber}
use Rattle.config_tables.specs.declared.place.Part.{Part}
use Rattle.config_tables.specs.declared.place.Part.TheVariants.{DataSet, KeyGroup, Group, ReadGroup}
use Rattle.config_tables.specs.declared.place.Place.{Place}
use Rattle.config_tables.specs.declared.place.Place.TheVariants.{Root, Publisher, Outer, Inner}
use Rattle.config_tables.specs.Grammar.{number}
use Rattle.config_tables.specs.Places.{is_part, is_outer, is_inner, is_inner_of, index_of}
use Rattle.config_tables.specs.Tables.{Located}
use Rattle.config_tables.specs.Values.{natural, at_most, unless, value_fault}
use Rattle.ps_config.specs.Faults.{is_fault}
use Rattle.ps_config.specs.Sound.{IsWithin}

-- what holds of each table that passes holds of the filtered list
passing_from : (p : Located → Bool) (Q : Located → Type 0) (rest : List Located)
    → ((front : List Located) (t : Located) (back : List Located) → rest ≡ front ++ t ∷ back → p t ≡ true → Q t) → AllByRecursion Q (filter p rest)
passing_from p Q [] each = tt
passing_from p Q (t ∷ rest) each =
    go (p t) refl (each [] t rest refl) (passing_from p Q rest (λ front s back is passes. each (t ∷ front) s back (ap (λ l. t ∷ l) is) passes))
  where
    go : (b : Bool) → p t ≡ b → (p t ≡ true → Q t) → AllByRecursion Q (filter p rest) → AllByRecursion Q (cond b (t ∷ filter p rest) (filter p rest))
    go true is here later = (here is, later)
    go false is here later = later

pub passing : (p : Located → Bool) (Q : Located → Type 0) (ts : List Located)
    → ((front : List Located) (t : Located) (back : List Located) → ts ≡ front ++ t ∷ back → p t ≡ true → Q t) → All Q (filter p ts)
passing p Q ts each = All-from_recursion Q (filter p ts) (passing_from p Q ts each)

same_part : (a b : Part) → is_part a b ≡ true → a ≡ b
same_part DataSet DataSet h = refl
same_part KeyGroup KeyGroup h = refl
same_part Group Group h = refl
same_part ReadGroup ReadGroup h = refl
same_part DataSet KeyGroup h = absurd (false≢true h)
same_part DataSet Group h = absurd (false≢true h)
same_part DataSet ReadGroup h = absurd (false≢true h)
same_part KeyGroup DataSet h = absurd (false≢true h)
same_part KeyGroup Group h = absurd (false≢true h)
same_part KeyGroup ReadGroup h = absurd (false≢true h)
same_part Group DataSet h = absurd (false≢true h)
same_part Group KeyGroup h = absurd (false≢true h)
same_part Group ReadGroup h = absurd (false≢true h)
same_part ReadGroup DataSet h = absurd (false≢true h)
same_part ReadGroup KeyGroup h = absurd (false≢true h)
same_part ReadGroup Group h = absurd (false≢true h)

-- an element of an array stands at its index
pub outer_place : (part : Part) (place : Place) → is_outer part place ≡ true → place ≡ Outer part (index_of place)
outer_place part (Outer own i) h = ap (λ p. Outer p i) (sym (same_part part own h))
outer_place part (Inner own i j) h = absurd (false≢true h)
outer_place part Root h = absurd (false≢true h)
outer_place part Publisher h = absurd (false≢true h)

-- and an inner one at some index
pub inner_place : (part : Part) (i : ℕ) (place : Place) → is_inner_of part i place ≡ true → (j : ℕ) × (place ≡ Inner part i j)
inner_place part i (Inner own k j) h =
    let both = and_parts (is_part part own) (i == k) h in
    (j, ap (λ p. Inner p k j) (sym (same_part part own both.0)) ∙ ap (λ n. Inner part n j) (sym (eqb-true i k both.1)))
inner_place part i (Outer own k) h = absurd (false≢true h)
inner_place part i Root h = absurd (false≢true h)
inner_place part i Publisher h = absurd (false≢true h)

pub any_inner_place : (part : Part) (place : Place) → is_inner part place ≡ true → (i : ℕ) × (j : ℕ) × (place ≡ Inner part i j)
any_inner_place part (Inner own i j) h = (i, j, ap (λ p. Inner p i j) (sym (same_part part own h)))
any_inner_place part (Outer own i) h = absurd (false≢true h)
any_inner_place part Root h = absurd (false≢true h)
any_inner_place part Publisher h = absurd (false≢true h)

-- a test that no element passes, at one of them
pub none_at : {X : Type 0} (f : X → Bool) (xs : List X) (k : ℕ) (x : X) → list_any f xs ≡ false → slice_get xs k ≡ Some x → f x ≡ false
none_at f [] k x none at = cc
none_at f (y ∷ xs) zero x none at = let same : y ≡ x = cc in ap f (sym same) ∙ (or_parts (f y) (list_any f xs) none).0
none_at f (y ∷ xs) (suc k) x none at = none_at f xs k x (or_parts (f y) (list_any f xs) none).1 at

number_unless : (b : Bool) → is_fault BadNumber (unless b BadNumber) ≡ false → b ≡ true
number_unless true h = refl
number_unless false h = sym h

-- the number at a key, else the default
abbrev pub number_in : ℕ → ℕ → Option Data → ℕ
number_in most default o = unwrap_or (option_and_then (at_most most) (option_and_then natural (option_and_then as_integer o))) default

within_both : (least most default n : ℕ) → (int_le (pos least) (pos n) && int_le (pos n) (pos most)) ≡ true → IsWithin least most (number_in most default (Some (integer (pos n))))
within_both least most default n h =
    let both = and_parts (nat_le least n) (nat_le n most) h in
    let low : least ≤ n = grind (arith, nat_tests, both.0) in
    let high : n ≤ most = grind (arith, nat_tests, both.1) in
    rw (both.1) (low, high)

-- a number that is there is in its range, and one that isn't is the default
pub number_within : (outer : Members) (o : Option Data) (least most default : ℕ) → (is_none o ≡ false) ⊎ IsWithin least most default
    → is_fault WrongType (option_and_then (value_fault outer (number least most)) o) ≡ false → is_fault BadNumber (option_and_then (value_fault outer (number least most)) o) ≡ false
    → IsWithin least most (number_in most default o)
number_within outer None least most default (inl there) b c = absurd (false≢true (sym there))
number_within outer None least most default (inr within) b c = within
number_within outer (Some (integer (pos n))) least most default d b c = within_both least most default n (number_unless (int_le (pos least) (pos n) && int_le (pos n) (pos most)) c)
number_within outer (Some (integer (negsuc n))) least most default d b c = absurd (false≢true (sym c))
number_within outer (Some (string x)) least most default d b c = absurd (false≢true (sym b))
number_within outer (Some (float x)) least most default d b c = absurd (false≢true (sym b))
number_within outer (Some (boolean x)) least most default d b c = absurd (false≢true (sym b))
number_within outer (Some (datetime x)) least most default d b c = absurd (false≢true (sym b))
number_within outer (Some (array x)) least most default d b c = absurd (false≢true (sym b))
number_within outer (Some (table x)) least most default d b c = absurd (false≢true (sym b))
