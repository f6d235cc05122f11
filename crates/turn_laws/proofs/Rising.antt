-- Pairs of a number and a place, turn by turn: those of a turn rise with all before it.
use Rattle.std.proofs.Common.{◌≡◌, refl, sym, ap, subst, arith, ℕ, zero, suc, ◌+◌, ◌<◌, ◌≤◌, Bool, true, false, List, [], ◌∷◌, Option, Some, None, Contains, eqb-true}
use Rattle.std.specs.Prelude.{⊤, ◌==◌}
use Rattle.std.proofs.lemmas.Bool.Decides.{nat_tests}
use Rattle.pubsub_model.specs.Frames.{PlacedFrame, place_of}
use Rattle.reader_group.specs.Agreeing.{RisesWith, RiseTogether}
use Rattle.turn_laws.specs.Sent.{given_on, numbered_on}

-- ---- what stands before a turn

-- the place is before the next one, and no further from it than the number is from the last one used
pub record IsUnder (next last : ℕ) (pair : ℕ × ℕ) : Type 0 where
  pub place : pair.1 < next
  pub number : next + pair.0 ≤ pair.1 + last + 1

abbrev pub AreUnder : ℕ → ℕ → List (ℕ × ℕ) → Type 0
AreUnder next last [] = ⊤
AreUnder next last (pair ∷ pairs) = IsUnder next last pair × AreUnder next last pairs

-- further places, and as many further numbers, leave them so
under-more : (next last after used : ℕ) (pairs : List (ℕ × ℕ)) → next ≤ after → after + last ≤ next + used → AreUnder next last pairs → AreUnder after used pairs
under-more next last after used [] le few h = tt
under-more next last after used (pair ∷ pairs) le few h =
    let place = h.0.place in
    let number = h.0.number in
    (record { place = omega (arith, place, le); number = omega (arith, number, few) }, under-more next last after used pairs le few h.1)

-- a pair of a further number, and of the next place or the one before it, rises with them
rises-behind : (next last number place : ℕ) (pairs : List (ℕ × ℕ)) → last < number → next ≤ place + 1 → place ≤ next → AreUnder next last pairs → RisesWith (number, place) pairs
rises-behind next last number place [] above low high h = tt
rises-behind next last number place (pair ∷ pairs) above low high h =
    let under = h.0.place in
    let near = h.0.number in (
      λ le. (omega (arith, under, near, above, le), omega (arith, under, near, above, le)),
      λ le. (omega (arith, under, low), omega (arith, near, above, high)),
      rises-behind next last number place pairs above low high h.1,
    )

-- ---- the pairs of a turn

-- a further number at their place rises with them
rises-with-turn : (next last number place count : ℕ) (pairs : List (ℕ × ℕ)) → last + count < number → next ≤ place + 1 → place ≤ next → AreUnder next last pairs → RisesWith (number, place) (numbered_on last place count pairs)
rises-with-turn next last number place zero pairs above low high h = rises-behind next last number place pairs (omega (arith, above)) low high h
rises-with-turn next last number place (suc count) pairs above low high h = (
  λ le. (omega arith, omega (arith, le)),
  λ le. (omega arith, omega (arith, le)),
  rises-with-turn next last number place count pairs (omega (arith, above)) low high h,
)

turn-rises : (next last place count : ℕ) (pairs : List (ℕ × ℕ)) → next ≤ place + 1 → place ≤ next → AreUnder next last pairs → RiseTogether pairs → RiseTogether (numbered_on last place count pairs)
turn-rises next last place zero pairs low high h rise = rise
turn-rises next last place (suc count) pairs low high h rise =
    (rises-with-turn next last (last + suc count) place count pairs (omega arith) low high h, turn-rises next last place count pairs low high h rise)

turn-under : (after used last place count : ℕ) (pairs : List (ℕ × ℕ)) → place < after → after ≤ place + 1 → last + count ≤ used → AreUnder after used pairs → AreUnder after used (numbered_on last place count pairs)
turn-under after used last place zero pairs below top few h = h
turn-under after used last place (suc count) pairs below top few h =
    (record { place = below; number = omega (arith, top, few) }, turn-under after used last place count pairs below top (omega (arith, few)) h)

-- ---- all pairs so far, under one token

-- they rise, and stand before the next place and the next number
pub record Upto (next last : ℕ) (pairs : List (ℕ × ℕ)) : Type 0 where
  pub rise : RiseTogether pairs
  pub under : AreUnder next last pairs

pub upto-more : (next last after used : ℕ) (pairs : List (ℕ × ℕ)) → next ≤ after → after + last ≤ next + used → Upto next last pairs → Upto after used pairs
upto-more next last after used pairs le few h = record { rise = h.rise; under = under-more next last after used pairs le few h.under }

-- where an answer stands, of a writer whose next place was `next` and is `after` then
pub record IsPlacedAt (first next after place : ℕ) : Type 0 where
  pub low : next ≤ place + 1
  pub high : place ≤ next
  pub above : first ≤ place
  pub below : place < after
  pub top : after ≤ place + 1
  pub more : next ≤ after

-- with those of a turn, which makes a datagram where the writer answered
pub upto-given : (first next after last count : ℕ) (answer : Option PlacedFrame) (pairs : List (ℕ × ℕ)) → ((frame : PlacedFrame) → answer ≡ Some frame → IsPlacedAt first next after (place_of frame))
    → ((frame : PlacedFrame) → answer ≡ Some frame → 0 < count) → (answer ≡ None → after ≡ next) → Upto next last pairs → Upto after (last + count) (given_on true answer last count pairs)
upto-given first next after last count None pairs placed some quiet h =
    let same : after ≡ next = quiet refl in
    upto-more next last after (last + count) pairs (omega (arith, same)) (omega (arith, same)) h
upto-given first next after last count (Some frame) pairs placed some quiet h =
    let at = placed frame refl in
    let one : 0 < count = some frame refl in
    let top = at.top in
    let high = at.high in
    record {
      rise = turn-rises next last (place_of frame) count pairs at.low at.high h.under h.rise;
      under = turn-under after (last + count) last (place_of frame) count pairs at.below at.top (omega arith) (under-more next last after (last + count) pairs at.more (omega (arith, top, high, one)) h.under);
    }

-- ---- the span of their places

abbrev pub AreSpanned : ℕ → ℕ → List (ℕ × ℕ) → Type 0
AreSpanned first next [] = ⊤
AreSpanned first next (pair ∷ pairs) = (first ≤ pair.1) × (pair.1 < next) × AreSpanned first next pairs

pub spanned-more : (first next after : ℕ) (pairs : List (ℕ × ℕ)) → next ≤ after → AreSpanned first next pairs → AreSpanned first after pairs
spanned-more first next after [] le h = tt
spanned-more first next after (pair ∷ pairs) le h = let high = h.1 in (h.0, omega (arith, high, le), spanned-more first next after pairs le h.2)

turn-spanned : (first after last place count : ℕ) (pairs : List (ℕ × ℕ)) → first ≤ place → place < after → AreSpanned first after pairs → AreSpanned first after (numbered_on last place count pairs)
turn-spanned first after last place zero pairs above below h = h
turn-spanned first after last place (suc count) pairs above below h = (above, below, turn-spanned first after last place count pairs above below h)

pub given-spanned : (first after last count : ℕ) (answer : Option PlacedFrame) (pairs : List (ℕ × ℕ)) → ((frame : PlacedFrame) → answer ≡ Some frame → (first ≤ place_of frame) × (place_of frame < after)) → AreSpanned first after pairs
    → AreSpanned first after (given_on true answer last count pairs)
given-spanned first after last count None pairs placed h = h
given-spanned first after last count (Some frame) pairs placed h = let at = placed frame refl in turn-spanned first after last (place_of frame) count pairs at.0 at.1 h

pub spanned-at : (first next : ℕ) (pairs : List (ℕ × ℕ)) (pair : ℕ × ℕ) → AreSpanned first next pairs → Contains pairs pair → (first ≤ pair.1) × (pair.1 < next)
spanned-at first next [] pair h has = absurd (let below = has.1 in omega (arith, below))
spanned-at first next (other ∷ pairs) pair h (zero, below, same) =
    let at : other.1 ≡ pair.1 = ap (λ (p : ℕ × ℕ). p.1) same in
    let low = h.0 in
    let high = h.1 in
    (omega (arith, at, low), omega (arith, at, high))
spanned-at first next (other ∷ pairs) pair h (suc k, below, same) = spanned-at first next pairs pair h.2 (k, omega (arith, below), same)

-- ---- which pairs there are

pub has-head : (pair : ℕ × ℕ) (pairs : List (ℕ × ℕ)) → Contains (pair ∷ pairs) pair
has-head pair pairs = (0, omega arith, refl)

pub has-behind : (other : ℕ × ℕ) (pairs : List (ℕ × ℕ)) (pair : ℕ × ℕ) → Contains pairs pair → Contains (other ∷ pairs) pair
has-behind other pairs pair has = (suc has.0, let lt = has.1 in omega (arith, lt), has.2)

number-there : (last place count index : ℕ) (pairs : List (ℕ × ℕ)) (b : Bool) → (index == count) ≡ b → index < suc count → (index < count → Contains (numbered_on last place count pairs) (last + suc index, place))
    → Contains ((last + suc count, place) ∷ numbered_on last place count pairs) (last + suc index, place)
number-there last place count index pairs true e lt rest =
    let same : index ≡ count = eqb-true index count e in
    let number : last + suc count ≡ last + suc index = omega (arith, same) in
    subst (λ (n : ℕ). Contains ((last + suc count, place) ∷ numbered_on last place count pairs) (n, place)) number (has-head (last + suc count, place) (numbered_on last place count pairs))
number-there last place count index pairs false e lt rest =
    let lower : index < count = grind (arith, nat_tests, e, lt) in
    has-behind (last + suc count, place) (numbered_on last place count pairs) (last + suc index, place) (rest lower)

-- the datagram of the turn with this index, from 0, has the number behind those
turn-has : (last place count index : ℕ) (pairs : List (ℕ × ℕ)) → index < count → Contains (numbered_on last place count pairs) (last + suc index, place)
turn-has last place zero index pairs lt = absurd (omega (arith, lt))
turn-has last place (suc count) index pairs lt = number-there last place count index pairs (index == count) refl lt (λ lower. turn-has last place count index pairs lower)

pub given-has : (b : Bool) (answer : Option PlacedFrame) (frame : PlacedFrame) (last count index number : ℕ) (pairs : List (ℕ × ℕ)) → b ≡ true → answer ≡ Some frame → number ≡ last + suc index → index < count
    → Contains (given_on b answer last count pairs) (number, place_of frame)
given-has b answer frame last count index number pairs counts is number_is lt =
    subst (λ (t : Bool). Contains (given_on t answer last count pairs) (number, place_of frame)) (sym counts)
    (subst (λ (o : Option PlacedFrame). Contains (given_on true o last count pairs) (number, place_of frame)) (sym is)
    (subst (λ (n : ℕ). Contains (numbered_on last (place_of frame) count pairs) (n, place_of frame)) (sym number_is) (turn-has last (place_of frame) count index pairs lt)))

turn-keeps : (last place count : ℕ) (pairs : List (ℕ × ℕ)) (pair : ℕ × ℕ) → Contains pairs pair → Contains (numbered_on last place count pairs) pair
turn-keeps last place zero pairs pair has = has
turn-keeps last place (suc count) pairs pair has = has-behind (last + suc count, place) (numbered_on last place count pairs) pair (turn-keeps last place count pairs pair has)

pub given-keeps : (b : Bool) (answer : Option PlacedFrame) (last count : ℕ) (pairs : List (ℕ × ℕ)) (pair : ℕ × ℕ) → Contains pairs pair → Contains (given_on b answer last count pairs) pair
given-keeps false answer last count pairs pair has = has
given-keeps true None last count pairs pair has = has
given-keeps true (Some frame) last count pairs pair has = turn-keeps last (place_of frame) count pairs pair has
