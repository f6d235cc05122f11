-- Sums over the tables that are left.
use Rattle.std.proofs.Common.{◌≡◌, ℕ, ◌+◌, ◌<◌, Bool, true, false, cond, List, ◌∷◌, ◌++◌, map, filter, length, get_or, take, drop, sum_by, refl, sym, ap, ◌∙◌}
use Rattle.std.proofs.lemmas.Bool.{false≢true}
use Rattle.std.proofs.lemmas.List.{drop_more, map-append, take-append-drop}
use Rattle.config_tables.specs.declared.place.Part.TheVariants.{DataSet, KeyGroup, Group, ReadGroup}
use Rattle.config_tables.specs.declared.place.Place.{Place}
use Rattle.config_tables.specs.declared.place.Place.TheVariants.{Root, Publisher, Outer, Inner}
use Rattle.config_tables.specs.Places.{is_outer, index_of}
use Rattle.std.proofs.lemmas.List.Sums.{sum_by-cons}
use Rattle.config_tables.specs.declared.document.Placed.{Placed}
use Rattle.config_tables.specs.Tables.{Located}
use Rattle.config_tables.specs.Seen.{seen}

abbrev pub sum_left : (Located → ℕ) → (Located → Bool) → List Placed → ℕ → ℕ
sum_left f p ts i = sum_by f (filter p (map seen (drop i ts)))

pub next_seen : (ts : List Placed) (i : ℕ) (t : Placed) → i < length ts → t ≡ get_or ts i t → map seen (drop i ts) ≡ seen t ∷ map seen (drop (i + 1) ts)
next_seen ts i t h is = ap (map seen) (drop_more ts i t h) ∙ ap (λ x. seen x ∷ map seen (drop (i + 1) ts)) (sym is)

-- a table that passes is next, or one that doesn't
pub sum_here : (f : Located → ℕ) (p : Located → Bool) (ts : List Placed) (i : ℕ) (t : Placed) → i < length ts → t ≡ get_or ts i t → p (seen t) ≡ true
    → sum_left f p ts i ≡ f (seen t) + sum_left f p ts (i + 1)
sum_here f p ts i t h is passes = ap (λ xs. sum_by f (filter p xs)) (next_seen ts i t h is) ∙ ap (λ b. sum_by f (cond b (seen t ∷ filter p (map seen (drop (i + 1) ts))) (filter p (map seen (drop (i + 1) ts))))) passes ∙ sum_by-cons f (seen t) (filter p (map seen (drop (i + 1) ts)))

pub sum_other : (f : Located → ℕ) (p : Located → Bool) (ts : List Placed) (i : ℕ) (t : Placed) → i < length ts → t ≡ get_or ts i t → p (seen t) ≡ false
    → sum_left f p ts i ≡ sum_left f p ts (i + 1)
sum_other f p ts i t h is fails = ap (λ xs. sum_by f (filter p xs)) (next_seen ts i t h is) ∙ ap (λ b. sum_by f (cond b (seen t ∷ filter p (map seen (drop (i + 1) ts))) (filter p (map seen (drop (i + 1) ts))))) fails

-- the tables before one, it, and those after it
pub seen_split : (ts : List Placed) (i : ℕ) (t : Placed) → i < length ts → t ≡ get_or ts i t → map seen ts ≡ map seen (take i ts) ++ seen t ∷ map seen (drop (i + 1) ts)
seen_split ts i t h is =
    ap (map seen) (sym (take-append-drop i ts)) ∙ map-append seen (take i ts) (drop i ts) ∙ ap (λ xs. map seen (take i ts) ++ xs) (next_seen ts i t h is)

pub outer_is : (place : Place) → is_outer DataSet place ≡ true → place ≡ Outer DataSet (index_of place)
outer_is (Outer DataSet i) h = refl
outer_is (Outer KeyGroup i) h = absurd (false≢true h)
outer_is (Outer Group i) h = absurd (false≢true h)
outer_is (Outer ReadGroup i) h = absurd (false≢true h)
outer_is (Inner part i j) h = absurd (false≢true h)
outer_is Root h = absurd (false≢true h)
outer_is Publisher h = absurd (false≢true h)
