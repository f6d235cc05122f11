-- What a reader holds, to which a key frame came at a place that no other frame reaches.
use Rattle.std.proofs.Common.{◌≡◌, refl, ap, ◌∙◌, arith, ℕ, zero, suc, ◌<◌, ◌≤◌, ◌⊎◌, inl, inr, Bool, true, false, List, [], ◌∷◌, length, get_or, Option, Some, All}
use Rattle.std.specs.Prelude.{Contains, nat_lt, ◌&&◌}
use Rattle.std.proofs.lemmas.Bool.{and_cases, ltb-false, ltb-true}
use Rattle.std.proofs.lemmas.List.Elements.{All-head, All-tail}
use Rattle.dataset_meta.specs.DataValues.{DataValue}
use Rattle.dataset_meta.specs.Rows.{cons_if}
use Rattle.pubsub_model.specs.Frames.{PlacedFrame, Whole}
use Rattle.pubsub_model.specs.Records.{Item, at, held_in, is_record, place_in, records}

-- a key frame at this place with this row, or a frame at an earlier place
abbrev pub IsLastOrEarlier : ℕ → List DataValue → Item → Type 0
IsLastOrEarlier place row item = (item.frame ≡ Whole place row) ⊎ (place_in item < place)

-- one of the items is at the place or behind it
abbrev pub Reaches : ℕ → List Item → Type 0
Reaches place [] = ⊥
Reaches place (item ∷ before) = (place ≤ place_in item) ⊎ Reaches place before

reaches-less : (low high : ℕ) (items : List Item) → low ≤ high → Reaches high items → Reaches low items
reaches-less low high [] le none = elim none [ ]
reaches-less low high (item ∷ before) le (inl here) = inl (omega arith)
reaches-less low high (item ∷ before) le (inr more) = inr (reaches-less low high before le more)

-- what isn't a record has a frame at its place or behind it before it
not-record : (before : List Item) (item : Item) → is_record before item ≡ false → Reaches (place_in item) before
not-record [] item e = absurd (cc)
not-record (first ∷ before) item e =
    go (λ none. not-record before item none) (and_cases (nat_lt (place_in first) (place_in item)) (is_record before item) e)
  where
    go : (is_record before item ≡ false → Reaches (place_in item) before) → (nat_lt (place_in first) (place_in item) ≡ false) ⊎ (is_record before item ≡ false)
        → Reaches (place_in item) (first ∷ before)
    go more (inl late) = inl (ltb-false (place_in first) (place_in item) late)
    go more (inr none) = inr (more none)

both-true : (x y : Bool) → (x && y) ≡ true → (x ≡ true) × (y ≡ true)
both-true true y e = (refl, e)
both-true false y e = absurd (cc)

-- a record is behind all that came before it
record-above : (low : ℕ) (before : List Item) (item : Item) → is_record before item ≡ true → Reaches low before → low < place_in item
record-above low [] item e none = elim none [ ]
record-above low (first ∷ before) item e (inl here) =
    let lt : place_in first < place_in item = ltb-true (place_in first) (place_in item) (both-true (nat_lt (place_in first) (place_in item)) (is_record before item) e).0 in
    omega arith
record-above low (first ∷ before) item e (inr more) =
    record-above low before item (both-true (nat_lt (place_in first) (place_in item)) (is_record before item) e).1 more

whole-held : (place moment : ℕ) (stamp : Option ℕ) (row : List DataValue) (before : List Item)
    → held_in (at moment stamp (Whole place row) ∷ before) ≡ Some (record { place = place; row = row })
whole-held place moment stamp row before = refl

-- it is held, however often it came, and whatever came before or behind it
pub held-last : (place : ℕ) (row : List DataValue) (items : List Item) → All (IsLastOrEarlier place row) items → Reaches place items
    → held_in (records items) ≡ Some (record { place = place; row = row })
held-last place row [] all none = elim none [ ]
held-last place row (item ∷ before) all reaches =
    go (held-last place row before (All-tail (IsLastOrEarlier place row) item before all)) (is_record before item) refl (All-head (IsLastOrEarlier place row) item before all) reaches
  where
    go : (Reaches place before → held_in (records before) ≡ Some (record { place = place; row = row })) → (b : Bool) → is_record before item ≡ b → IsLastOrEarlier place row item → (place ≤ place_in item) ⊎ Reaches place before
        → held_in (cons_if b item (records before)) ≡ Some (record { place = place; row = row })
    go held true e (inl same) reach =
        ap (λ (frame : PlacedFrame). held_in (at item.moment item.stamp frame ∷ records before)) same ∙ whole-held place item.moment item.stamp row (records before)
    go held true e (inr early) (inl here) = absurd (omega arith)
    go held true e (inr early) (inr more) = let above : place < place_in item = record-above place before item e more in absurd (omega arith)
    go held false e is (inl here) = held (reaches-less place (place_in item) before here (not-record before item e))
    go held false e is (inr more) = held more

found-reaches : (place : ℕ) (items : List Item) (item : Item) (k : ℕ) → k < length items → get_or items k item ≡ item → place_in item ≡ place → Reaches place items
found-reaches place [] item k lt is at = absurd (omega arith)
found-reaches place (first ∷ before) item zero lt is at = let same : place_in first ≡ place_in item = ap place_in is in inl (omega arith)
found-reaches place (first ∷ before) item (suc k) lt is at = inr (found-reaches place before item k (omega arith) is at)

-- one of the items is at the place
pub contained-reaches : (place : ℕ) (items : List Item) (item : Item) → Contains items item → place_in item ≡ place → Reaches place items
contained-reaches place items item (k, lt, is) at = found-reaches place items item k lt is at
