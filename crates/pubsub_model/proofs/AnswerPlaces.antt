-- The places of a writer's answers.
use Rattle.std.proofs.Common.{◌≡◌, refl, sym, subst, arith, ℕ, ◌+◌, ◌<◌, ◌≤◌, Bool, true, false, List, [], ◌∷◌, Option, Some, None, inl, inr}
use Rattle.pubsub_model.specs.Frames.{PlacedFrame, Whole, Change, Alive, place_of, is_silent}
use Rattle.pubsub_model.specs.Cadence.{Settings, WriterTurn, Answered, WriterDeed, Refreshed, HadTurn, cadence, answer, is_fresh, next_place}
use Rattle.pubsub_model.proofs.CadenceLaws.{counted_on, some_data}
use Rattle.pubsub_model.proofs.PlaceLaws.{IsNext, IsNext-answer}
use Rattle.pubsub_model.specs.Answers.{IsAnswer, places_used, InSpan}

-- a turn with its answer
abbrev pub took : WriterTurn → Option PlacedFrame → Answered
took turn a = record { turn = turn; answer = a }

-- an answer uses up its places
pub next-count : (s : Settings) (before : List Answered) (turn : WriterTurn) (o : Option PlacedFrame) → next_place s (took turn o ∷ before) ≡ next_place s before + places_used o
next-count s before turn None = omega (arith, counted_on turn None before false refl)
next-count s before turn (Some (Whole place row)) = omega (arith, counted_on turn (Some (Whole place row)) before true refl)
next-count s before turn (Some (Change place patch)) = omega (arith, counted_on turn (Some (Change place patch)) before true refl)
next-count s before turn (Some (Alive next)) = omega (arith, counted_on turn (Some (Alive next)) before false refl)

-- further places leave it in its span
in-wider : (first next more : ℕ) (frame : PlacedFrame) → next ≤ more → InSpan first next frame → InSpan first more frame
in-wider first next more (Whole place row) le h = (h.0, omega (arith, h.1, le))
in-wider first next more (Change place patch) le h = (h.0, omega (arith, h.1, le))
in-wider first next more (Alive n) le h = (h.0, omega (arith, h.1, le))

-- a turn that isn't fresh has a data frame before it
abbrev pub Counts : Settings → List WriterDeed → Type 0
Counts s deeds = is_fresh deeds ≡ false → s.first_number < next_place s (cadence s deeds)

pub has-data : (s : Settings) (deeds : List WriterDeed) → Counts s deeds
has-data s [] e = absurd (cc)
has-data s (Refreshed ∷ before) e = absurd (cc)
has-data s (HadTurn turn ∷ before) e = let some = some_data s turn before in omega (arith, some)

-- what a fresh turn is answered by
abbrev IsKey : Option PlacedFrame → Type 0
IsKey None = ⊥
IsKey (Some (Whole place row)) = Unit {0}
IsKey (Some (Change place patch)) = ⊥
IsKey (Some (Alive next)) = ⊥

fresh-key : (s : Settings) (fresh : Bool) (before : List Answered) (turn : WriterTurn) → fresh ≡ true → IsKey (answer s fresh before turn)
fresh-key s true before turn e = tt
fresh-key s false before turn e = absurd (cc)

new-span : (s : Settings) (before : List Answered) (turn : WriterTurn) (fresh : Bool) (frame : PlacedFrame) → (fresh ≡ true → IsKey (Some frame)) → (fresh ≡ false → s.first_number < next_place s before)
    → IsNext (next_place s before) (Some frame) → InSpan s.first_number (next_place s (took turn (Some frame) ∷ before)) frame
new-span s before turn fresh (Whole place row) key counts next = let e = next-count s before turn (Some (Whole place row)) in (omega (arith, next), omega (arith, next, e))
new-span s before turn fresh (Change place patch) key counts next = let e = next-count s before turn (Some (Change place patch)) in (omega (arith, next), omega (arith, next, e))
new-span s before turn true (Alive n) key counts next = absurd (key refl)
new-span s before turn false (Alive n) key counts next = let e = next-count s before turn (Some (Alive n)) in let some = counts refl in (omega (arith, next, some), omega (arith, next, e))

-- the answer's own place
pub next-is : (s : Settings) (before : List WriterDeed) (turn : WriterTurn) (frame : PlacedFrame) → answer s (is_fresh before) (cadence s before) turn ≡ Some frame → IsNext (next_place s (cadence s before)) (Some frame)
next-is s before turn frame e = subst (λ (o : Option PlacedFrame). IsNext (next_place s (cadence s before)) o) e (IsNext-answer s (is_fresh before) (cadence s before) turn)

answer-span : (s : Settings) (before : List WriterDeed) (turn : WriterTurn) (frame : PlacedFrame) → answer s (is_fresh before) (cadence s before) turn ≡ Some frame
    → InSpan s.first_number (next_place s (took turn (Some frame) ∷ cadence s before)) frame
answer-span s before turn frame e =
    new-span s (cadence s before) turn (is_fresh before) frame (λ fresh. subst IsKey e (fresh-key s (is_fresh before) (cadence s before) turn fresh)) (has-data s before) (next-is s before turn frame e)

-- each answer's place is at least the first number and below the next place
pub answers-span : (s : Settings) (deeds : List WriterDeed) (frame : PlacedFrame) → IsAnswer (cadence s deeds) frame → InSpan s.first_number (next_place s (cadence s deeds)) frame
answers-span s [] frame is = absurd is
answers-span s (Refreshed ∷ before) frame is = answers-span s before frame is
answers-span s (HadTurn turn ∷ before) frame (inl e) =
    subst (λ (o : Option PlacedFrame). InSpan s.first_number (next_place s (took turn o ∷ cadence s before)) frame) (sym e) (answer-span s before turn frame e)
answers-span s (HadTurn turn ∷ before) frame (inr is) =
    let e = next-count s (cadence s before) turn (answer s (is_fresh before) (cadence s before) turn) in
    in-wider s.first_number _ _ frame (omega (arith, e)) (answers-span s before frame is)

pub place-span : (first next : ℕ) (frame : PlacedFrame) → InSpan first next frame → (first ≤ place_of frame) × (place_of frame < next)
place-span first next (Whole place row) h = h
place-span first next (Change place patch) h = h
place-span first next (Alive n) h = (omega (arith, h.0), omega (arith, h.0, h.1))

pub data-at : (n : ℕ) (frame : PlacedFrame) → is_silent frame ≡ false → IsNext n (Some frame) → place_of frame ≡ n
data-at n (Whole place row) loud next = next
data-at n (Change place patch) loud next = next
data-at n (Alive next) loud is = absurd (cc)
