-- Which places the frames of a cadence have, and when its keep-alives come.
use Rattle.std.proofs.Common.{◌≡◌, ◌<◌, ◌≤◌, refl, sym, ap, ◌∙◌, arith, ℕ, zero, suc, ◌+◌, ◌-◌, Bool, true, false, not, ◌&&◌, cond, List, [], ◌∷◌, ◌++◌, length, reverse, Option, Some, None}
use Rattle.std.specs.Prelude.{All, filter_map, count_by, nat_le, ◌==◌, find, slice_get}
use Rattle.std.proofs.lemmas.Bool.Decides.{nat_tests}
use Rattle.std.proofs.lemmas.List.{reverse-append}
use Rattle.std.proofs.lemmas.List.Elements.{All-head, All-tail}
use Rattle.dataset_meta.specs.DataValues.{DataValue}
use Rattle.dataset_meta.specs.Rows.{differs}
use Rattle.pubsub_model.specs.Frames.{PlacedFrame, Whole, Change, Alive}
use Rattle.pubsub_model.specs.Cadence.{Settings, WriterTurn, Answered, WriterDeed, Refreshed, HadTurn, cadence, answer, quiet_answer, change_answer, is_key_due, is_data, is_any, is_fresh, last_turn, turn_of, next_place, log_entry, log_of}
use Rattle.pubsub_model.proofs.CadenceLaws.{length-log_of}

-- ---- the place of an answer

-- a frame, if any, that tells of this place
abbrev pub IsNext : ℕ → Option PlacedFrame → Type 0
IsNext n None = Unit {0}
IsNext n (Some (Whole place row)) = place ≡ n
IsNext n (Some (Change place patch)) = place ≡ n
IsNext n (Some (Alive next)) = next ≡ n

next_quiet : (due : Bool) (n : ℕ) → IsNext n (cond due (Some (Alive n)) None)
next_quiet true n = refl
next_quiet false n = tt

next_change : (s : Settings) (before : List Answered) (turn : WriterTurn) (patch : List (ℕ × DataValue)) → IsNext (next_place s before) (change_answer s before turn patch)
next_change s before turn [] = next_quiet (not (s.keep_alive == 0) && nat_le s.keep_alive (turn.moment - (last_turn is_any before).moment)) (next_place s before)
next_change s before turn (change ∷ patch) = refl

next_case : (due : Bool) (n : ℕ) (row : List DataValue) (a : Option PlacedFrame) → IsNext n a → IsNext n (cond due (Some (Whole n row)) a)
next_case true n row a h = refl
next_case false n row a h = h

-- each answer tells of the next place
pub IsNext-answer : (s : Settings) (fresh : Bool) (before : List Answered) (turn : WriterTurn) → IsNext (next_place s before) (answer s fresh before turn)
IsNext-answer s fresh before turn =
    let patch = differs (last_turn is_data before).row turn.row in
    next_case (is_key_due s fresh before turn) (next_place s before) turn.row (change_answer s before turn patch) (next_change s before turn patch)

alive_next : (n : ℕ) (a : Option PlacedFrame) (next : ℕ) → IsNext n a → a ≡ Some (Alive next) → next ≡ n
alive_next n None next h e = absurd (cc)
alive_next n (Some (Whole place row)) next h e = absurd (cc)
alive_next n (Some (Change place patch)) next h e = absurd (cc)
alive_next n (Some (Alive other)) next h e = let same : other ≡ next = cc in sym same ∙ h

-- a keep-alive tells of the place behind all of the log
pub alive-place : (s : Settings) (before : List WriterDeed) (turn : WriterTurn) (next : ℕ) → answer s (is_fresh before) (cadence s before) turn ≡ Some (Alive next)
    → next ≡ s.first_number + length (log_of s before)
alive-place s before turn next e =
    let earlier = cadence s before in
    alive_next (next_place s earlier) (answer s (is_fresh before) earlier turn) next (IsNext-answer s (is_fresh before) earlier turn) e
    ∙ ap (λ (n : ℕ). s.first_number + n) (sym (length-log_of s before))

-- ---- the places of the log

-- the entries of a log have the places from this one on, in a row
abbrev InRow : ℕ → List (ℕ × ℕ) → Type 0
InRow n log = (j : ℕ) (entry : ℕ × ℕ) → slice_get log j ≡ Some entry → entry.0 ≡ n + j

InRow-end : (n : ℕ) (log : List (ℕ × ℕ)) (new : ℕ × ℕ) → InRow n log → new.0 ≡ n + length log → InRow n (log ++ new ∷ [])
InRow-end n [] new all is zero entry e = let same : new ≡ entry = cc in sym (ap (λ (x : ℕ × ℕ). x.0) same) ∙ is
InRow-end n [] new all is (suc j) entry e = absurd (cc)
InRow-end n (first ∷ log) new all is zero entry e = all 0 entry e
InRow-end n (first ∷ log) new all is (suc j) entry e =
    let rest = InRow-end (n + 1) log new (λ k x same. all (suc k) x same ∙ omega arith) (is ∙ omega arith) j entry e in rest ∙ omega arith

new_entry : (n place version : ℕ) (log : List (ℕ × ℕ)) → place ≡ n + length (reverse log) → InRow n (reverse log) → InRow n (reverse ((place, version) ∷ log))
new_entry n place version log is all j entry e =
    InRow-end n (reverse log) (place, version) all is j entry (sym (ap (λ (l : List (ℕ × ℕ)). slice_get l j) (reverse-append ((place, version) ∷ []) log)) ∙ e)

InRow-on : (s : Settings) (turn : WriterTurn) (a : Option PlacedFrame) (before : List Answered) → IsNext (next_place s before) a
    → length (reverse (filter_map log_entry before)) ≡ count_by is_data before → InRow s.first_number (reverse (filter_map log_entry before))
    → InRow s.first_number (reverse (filter_map log_entry (record { turn = turn; answer = a } ∷ before)))
InRow-on s turn None before next count all = all
InRow-on s turn (Some (Alive place)) before next count all = all
InRow-on s turn (Some (Whole place row)) before next count all =
    new_entry s.first_number place turn.version (filter_map log_entry before) (next ∙ ap (λ (n : ℕ). s.first_number + n) (sym count)) all
InRow-on s turn (Some (Change place patch)) before next count all =
    new_entry s.first_number place turn.version (filter_map log_entry before) (next ∙ ap (λ (n : ℕ). s.first_number + n) (sym count)) all

-- the places of the log are in a row from the first number on
pub log-in_row : (s : Settings) (deeds : List WriterDeed) (j : ℕ) (entry : ℕ × ℕ) → slice_get (log_of s deeds) j ≡ Some entry → entry.0 ≡ s.first_number + j
log-in_row s [] j entry e = absurd (cc)
log-in_row s (Refreshed ∷ before) j entry e = log-in_row s before j entry e
log-in_row s (HadTurn turn ∷ before) j entry e =
    let earlier = cadence s before in
    InRow-on s turn (answer s (is_fresh before) earlier turn) earlier (IsNext-answer s (is_fresh before) earlier turn) (length-log_of s before) (log-in_row s before) j entry e

-- ---- when keep-alives come

pub quiet-never : (s : Settings) (before : List Answered) (turn : WriterTurn) → s.keep_alive ≡ 0 → quiet_answer s before turn ≡ None
quiet-never s before turn e = rw e refl

-- a turn that is answered by nothing, and one that is answered by a frame
unanswered : (a : Answered) → a.answer ≡ None → is_any a ≡ false
unanswered a e = rw e refl

answered_by : (a : Answered) (frame : PlacedFrame) → a.answer ≡ Some frame → is_any a ≡ true
answered_by a frame e = rw e refl

-- the last turn that is answered by a frame
last_answered : (since earlier : List Answered) (last : Answered) (frame : PlacedFrame) → All (λ a. a.answer ≡ None) since → last.answer ≡ Some frame
    → find is_any (since ++ last ∷ earlier) ≡ Some last
last_answered [] earlier last frame none is = rw (answered_by last frame is) refl
last_answered (a ∷ since) earlier last frame none is =
    rw (unanswered a (All-head (λ x. x.answer ≡ None) a since none)) (last_answered since earlier last frame (All-tail (λ x. x.answer ≡ None) a since none) is)

due_if : (keep last now : ℕ) → 1 ≤ keep → last + keep ≤ now → (not (keep == 0) && nat_le keep (now - last)) ≡ true
due_if keep last now some late = grind (arith, nat_tests, some, late)

early_if : (keep last now : ℕ) → now < last + keep → (not (keep == 0) && nat_le keep (now - last)) ≡ false
early_if zero last now early = refl
early_if (suc keep) last now early = grind (arith, nat_tests, early)

quiet_case : (s : Settings) (before : List Answered) (last : Answered) (turn : WriterTurn) (due : Bool) → find is_any before ≡ Some last
    → (not (s.keep_alive == 0) && nat_le s.keep_alive (turn.moment - last.turn.moment)) ≡ due → quiet_answer s before turn ≡ cond due (Some (Alive (next_place s before))) None
quiet_case s before last turn due found is =
    ap (λ (o : Option Answered). cond (not (s.keep_alive == 0) && nat_le s.keep_alive (turn.moment - (turn_of o).moment)) (Some (Alive (next_place s before))) None) found
    ∙ ap (λ (b : Bool). cond b (Some (Alive (next_place s before))) None) is

pub quiet-due : (s : Settings) (since earlier : List Answered) (last : Answered) (frame : PlacedFrame) (turn : WriterTurn) → All (λ a. a.answer ≡ None) since
    → last.answer ≡ Some frame → 1 ≤ s.keep_alive → last.turn.moment + s.keep_alive ≤ turn.moment
    → quiet_answer s (since ++ last ∷ earlier) turn ≡ Some (Alive (next_place s (since ++ last ∷ earlier)))
quiet-due s since earlier last frame turn none is some late =
    quiet_case s (since ++ last ∷ earlier) last turn true (last_answered since earlier last frame none is) (due_if s.keep_alive last.turn.moment turn.moment some late)

pub quiet-early : (s : Settings) (since earlier : List Answered) (last : Answered) (frame : PlacedFrame) (turn : WriterTurn) → All (λ a. a.answer ≡ None) since
    → last.answer ≡ Some frame → turn.moment < last.turn.moment + s.keep_alive → quiet_answer s (since ++ last ∷ earlier) turn ≡ None
quiet-early s since earlier last frame turn none is early =
    quiet_case s (since ++ last ∷ earlier) last turn false (last_answered since earlier last frame none is) (early_if s.keep_alive last.turn.moment turn.moment early)
