-- The log has the version of each place, and its versions never fall.
use Rattle.std.proofs.Common.{◌≡◌, refl, sym, ap, ◌∙◌, subst, arith, ℕ, ◌+◌, ◌-◌, ◌<◌, ◌≤◌, Bool, true, false, List, [], ◌∷◌, length, reverse, Option, Some, None, All}
use Rattle.std.specs.Prelude.{◌==◌, ◌%◌, find, filter_map, option_map, if◌then◌else◌}
use Rattle.std.specs.List.{cons_option}
use Rattle.std.specs.List.Sorted.{IsNonDecreasingBy}
use Rattle.std.proofs.lemmas.Bool.Decides.{nat_tests}
use Rattle.std.proofs.lemmas.List.{reverse-reverse, reverse-append}
use Rattle.std.proofs.lemmas.List.Elements.{All-nil, All-cons, All-head, All-tail, All-push}
use Rattle.std.proofs.lemmas.List.Sorted.{IsNonDecreasingBy-push, IsNonDecreasingBy-short}
use Rattle.pubsub_model.specs.Frames.{PlacedFrame, Whole, Change, Alive}
use Rattle.pubsub_model.specs.Cadence.{Settings, WriterTurn, Answered, WriterDeed, Refreshed, HadTurn, cadence, answer, is_fresh, next_place, log_entry, log_of}
use Rattle.pubsub_model.proofs.PlaceLaws.{IsNext}
use Rattle.pubsub_model.specs.Answers.{version_of}
use Rattle.pubsub_model.specs.Answers.{is_data_at, turn_versions, NeverFall}
use Rattle.pubsub_model.proofs.AnswerPlaces.{took, next-count, next-is}
use Rattle.pubsub_model.proofs.AnswerRows.{turn_sent}

-- ---- the version of a place

abbrev entries : List Answered → List (ℕ × ℕ)
entries answered = filter_map log_entry answered

abbrev has_number : ℕ → ℕ × ℕ → Bool
has_number number entry = entry.0 % 65536 == number

-- one data frame more
data-found : (turn : WriterTurn) (frame : PlacedFrame) (before : List Answered) (p place first : ℕ) (b : Bool) → log_entry (took turn (Some frame)) ≡ Some (p, turn.version)
    → is_data_at place (took turn (Some frame)) ≡ (p == place) → (p == place) ≡ b → first ≤ place → place ≤ p → p < first + 65536
    → (place < p → find (has_number (place % 65536)) (entries before) ≡ Some (place, (turn_sent before place).version))
    → find (has_number (place % 65536)) (cons_option (Some (p, turn.version)) (entries before)) ≡ Some (place, (if b then turn else turn_sent before place).version)
data-found turn frame before p place first true entry at is low le few rest =
    let same : p ≡ place = grind (arith, nat_tests) in
    let here : (p % 65536 == place % 65536) ≡ true = grind (arith, nat_tests, same) in
    ap (λ (c : Bool). if c then Some (p, turn.version) else find (has_number (place % 65536)) (entries before)) here ∙ ap (λ (n : ℕ). Some (n, turn.version)) same
data-found turn frame before p place first false entry at is low le few rest =
    let lt : place < p = grind (arith, nat_tests, le) in
    let other : (p % 65536 == place % 65536) ≡ false = grind (arith, nat_tests, lt, low, few) in
    ap (λ (c : Bool). if c then Some (p, turn.version) else find (has_number (place % 65536)) (entries before)) other ∙ rest lt

abbrev Finds : List Answered → ℕ → Type 0
Finds answered place = find (has_number (place % 65536)) (entries answered) ≡ Some (place, (turn_sent answered place).version)

found-on : (s : Settings) (before : List Answered) (turn : WriterTurn) (o : Option PlacedFrame) (place : ℕ) → ((frame : PlacedFrame) → o ≡ Some frame → IsNext (next_place s before) (Some frame))
    → (place < next_place s before → Finds before place) → s.first_number ≤ place → place < next_place s (took turn o ∷ before) → next_place s (took turn o ∷ before) ≤ s.first_number + 65536 → Finds (took turn o ∷ before) place
found-on s before turn None place next h low lt few = let e = next-count s before turn None in h (omega (arith, e, lt))
found-on s before turn (Some (Alive n)) place next h low lt few = let e = next-count s before turn (Some (Alive n)) in h (omega (arith, e, lt))
found-on s before turn (Some (Whole p row)) place next h low lt few =
    let e = next-count s before turn (Some (Whole p row)) in let at = next (Whole p row) refl in
    data-found turn (Whole p row) before p place s.first_number (p == place) refl refl refl low (omega (arith, e, at, lt)) (omega (arith, e, at, few)) (λ below. h (omega (arith, at, below)))
found-on s before turn (Some (Change p patch)) place next h low lt few =
    let e = next-count s before turn (Some (Change p patch)) in let at = next (Change p patch) refl in
    data-found turn (Change p patch) before p place s.first_number (p == place) refl refl refl low (omega (arith, e, at, lt)) (omega (arith, e, at, few)) (λ below. h (omega (arith, at, below)))

-- each place is found by its number, with its turn's version
found-at : (s : Settings) (deeds : List WriterDeed) (place : ℕ) → s.first_number ≤ place → place < next_place s (cadence s deeds) → next_place s (cadence s deeds) ≤ s.first_number + 65536 → Finds (cadence s deeds) place
found-at s [] place low lt few = absurd (omega (arith, low, lt))
found-at s (Refreshed ∷ before) place low lt few = found-at s before place low lt few
found-at s (HadTurn turn ∷ before) place low lt few =
    let a = answer s (is_fresh before) (cadence s before) turn in
    let e = next-count s (cadence s before) turn a in
    found-on s (cadence s before) turn a place (λ frame is. next-is s before turn frame is) (λ below. found-at s before place low below (omega (arith, e, few))) low lt few

pub version-is : (s : Settings) (deeds : List WriterDeed) (place : ℕ) → s.first_number ≤ place → place < next_place s (cadence s deeds) → next_place s (cadence s deeds) ≤ s.first_number + 65536
    → version_of (log_of s deeds) (place % 65536) ≡ Some (turn_sent (cadence s deeds) place).version
version-is s deeds place low lt few =
    ap (λ (log : List (ℕ × ℕ)). option_map (λ (entry : ℕ × ℕ). entry.1) (find (has_number (place % 65536)) log)) (reverse-reverse (entries (cadence s deeds)))
    ∙ ap (option_map (λ (entry : ℕ × ℕ). entry.1)) (found-at s deeds place low lt few)

-- ---- versions never fall

abbrev AreBelow : ℕ → List (ℕ × ℕ) → Type 0
AreBelow most log = All (λ (entry : ℕ × ℕ). entry.1 ≤ most) log

below-on : (most : ℕ) (turn : WriterTurn) (o : Option PlacedFrame) (before : List Answered) → turn.version ≤ most → AreBelow most (entries before) → AreBelow most (entries (took turn o ∷ before))
below-on most turn None before le all = all
below-on most turn (Some (Alive n)) before le all = all
below-on most turn (Some (Whole p row)) before le all = All-cons (λ (entry : ℕ × ℕ). entry.1 ≤ most) (p, turn.version) (entries before) le all
below-on most turn (Some (Change p patch)) before le all = All-cons (λ (entry : ℕ × ℕ). entry.1 ≤ most) (p, turn.version) (entries before) le all

all-below : (most : ℕ) (s : Settings) (deeds : List WriterDeed) → All (λ earlier. earlier ≤ most) (turn_versions deeds) → AreBelow most (entries (cadence s deeds))
all-below most s [] all = All-nil (λ (entry : ℕ × ℕ). entry.1 ≤ most)
all-below most s (Refreshed ∷ before) all = all-below most s before all
all-below most s (HadTurn turn ∷ before) all =
    below-on most turn _ (cadence s before) (All-head (λ earlier. earlier ≤ most) turn.version (turn_versions before) all)
    (all-below most s before (All-tail (λ earlier. earlier ≤ most) turn.version (turn_versions before) all))

abbrev Rises : List (ℕ × ℕ) → Type 0
Rises log = IsNonDecreasingBy (λ (entry : ℕ × ℕ). entry.1) log

all-reversed : (P : ℕ × ℕ → Type 0) (log : List (ℕ × ℕ)) → All P log → All P (reverse log)
all-reversed P [] all = All-nil P
all-reversed P (entry ∷ log) all =
    subst (All P) (sym (reverse-append (entry ∷ []) log)) (All-push P (reverse log) entry (all-reversed P log (All-tail P entry log all)) (All-head P entry log all))

rise-entry : (log : List (ℕ × ℕ)) (entry : ℕ × ℕ) → AreBelow entry.1 log → Rises (reverse log) → Rises (reverse (entry ∷ log))
rise-entry log entry all rises =
    subst Rises (sym (reverse-append (entry ∷ []) log))
    (IsNonDecreasingBy-push (λ (entry : ℕ × ℕ). entry.1) (reverse log) entry rises
    (λ d some. all-reversed (λ (e : ℕ × ℕ). e.1 ≤ entry.1) log all (length (reverse log) - 1) d (omega (arith, some))))

rises-on : (turn : WriterTurn) (o : Option PlacedFrame) (before : List Answered) → AreBelow turn.version (entries before) → Rises (reverse (entries before)) → Rises (reverse (entries (took turn o ∷ before)))
rises-on turn None before all rises = rises
rises-on turn (Some (Alive n)) before all rises = rises
rises-on turn (Some (Whole p row)) before all rises = rise-entry (entries before) (p, turn.version) all rises
rises-on turn (Some (Change p patch)) before all rises = rise-entry (entries before) (p, turn.version) all rises

pub log-rises : (s : Settings) (deeds : List WriterDeed) → NeverFall (turn_versions deeds) → Rises (log_of s deeds)
log-rises s [] never = IsNonDecreasingBy-short (λ (entry : ℕ × ℕ). entry.1) [] (omega arith)
log-rises s (Refreshed ∷ before) never = log-rises s before never
log-rises s (HadTurn turn ∷ before) never = rises-on turn _ (cadence s before) (all-below turn.version s before never.0) (log-rises s before never.1)
