-- The log has the version of the turn at a place.
use Rattle.std.proofs.Common.{◌≡◌, refl, sym, ap, ◌∙◌, subst, arith, ℕ, suc, zero, ◌+◌, ◌<◌, ◌≤◌, Bool, true, false, List, [], ◌∷◌, ◌++◌, reverse, Option, Some, None, Contains, inl, inr}
use Rattle.std.specs.Prelude.{filter_map, if◌then◌else◌}
use Rattle.std.specs.List.{cons_option}
use Rattle.std.proofs.lemmas.Bool.Decides.{nat_tests}
use Rattle.std.proofs.lemmas.List.{reverse-append}
use Rattle.std.proofs.lemmas.List.Elements.{Contains-append_left, Contains-append_right, Contains-push}
use Rattle.dataset_meta.specs.Metas.{MetaData}
use Rattle.pubsub_model.specs.Frames.{PlacedFrame, Whole, Change, Alive, place_of, is_silent}
use Rattle.pubsub_model.specs.Cadence.{Settings, WriterTurn, Answered, WriterDeed, Refreshed, HadTurn, cadence, answer, is_fresh, next_place, log_entry}
use Rattle.pubsub_model.specs.Records.{Held}
use Rattle.pubsub_model.proofs.PlaceLaws.{IsNext}
use Rattle.pubsub_model.specs.Answers.{IsAnswer, IsRowSent, IsLogged, is_data_at}
use Rattle.pubsub_model.proofs.AnswerPlaces.{took, answers-span, place-span, next-is}
use Rattle.pubsub_model.proofs.AnswerRows.{turn_sent}
use Rattle.pubsub_model.proofs.LogVersions.{version-is}

-- ---- one turn for each place

pub record HasData (place : ℕ) (a : Answered) : Type 0 where
  pub frame : PlacedFrame
  pub answer : a.answer ≡ Some frame
  pub at : place_of frame ≡ place
  pub loud : is_silent frame ≡ false

data-frame : (place : ℕ) (turn : WriterTurn) (o : Option PlacedFrame) → is_data_at place (took turn o) ≡ true → HasData place (took turn o)
data-frame place turn None e = absurd (cc)
data-frame place turn (Some (Whole p row)) e = let same : p ≡ place = grind (arith, nat_tests) in record { frame = Whole p row; answer = refl; at = same; loud = refl }
data-frame place turn (Some (Change p patch)) e = let same : p ≡ place = grind (arith, nat_tests) in record { frame = Change p patch; answer = refl; at = same; loud = refl }
data-frame place turn (Some (Alive n)) e = absurd (cc)

pub has-data-at : (place : ℕ) (a : Answered) → is_data_at place a ≡ true → HasData place a
has-data-at place a e = data-frame place a.turn a.answer e

-- the answers have it
pub answer-in : (a : Answered) (frame : PlacedFrame) (answered : List Answered) → Contains answered a → a.answer ≡ Some frame → IsAnswer answered frame
answer-in a frame [] has e = absurd (let below = has.1 in omega (arith, below))
answer-in a frame (b ∷ answered) (zero, below, same) e = inl (ap (λ (x : Answered). x.answer) same ∙ e)
answer-in a frame (b ∷ answered) (suc k, below, same) e = inr (answer-in a frame answered (k, omega (arith, below), same) e)

loud-at : (n : ℕ) (frame : PlacedFrame) → is_silent frame ≡ false → IsNext n (Some frame) → place_of frame ≡ n
loud-at n (Whole place row) loud next = next
loud-at n (Change place patch) loud next = next
loud-at n (Alive next) loud is = absurd (cc)

earlier-below : (s : Settings) (deeds : List WriterDeed) (a : Answered) (place : ℕ) → Contains (cadence s deeds) a → is_data_at place a ≡ true → (s.first_number ≤ place) × (place < next_place s (cadence s deeds))
earlier-below s deeds a place has e =
    let f = has-data-at place a e in
    let span = place-span s.first_number (next_place s (cadence s deeds)) f.frame (answers-span s deeds f.frame (answer-in a f.frame (cadence s deeds) has f.answer)) in
    let at = f.at in
    (omega (arith, at, span.0), omega (arith, at, span.1))

-- the turn of a place is the one that `turn_sent` finds
pub turn-at : (s : Settings) (deeds : List WriterDeed) (a : Answered) (place : ℕ) → Contains (cadence s deeds) a → is_data_at place a ≡ true → turn_sent (cadence s deeds) place ≡ a.turn
turn-at s [] a place has e = absurd (let below = has.1 in omega (arith, below))
turn-at s (Refreshed ∷ before) a place has e = turn-at s before a place has e
turn-at s (HadTurn turn ∷ before) a place (zero, below, same) e =
    let now = took turn (answer s (is_fresh before) (cadence s before) turn) in
    let here : is_data_at place now ≡ true = ap (is_data_at place) same ∙ e in
    ap (λ (b : Bool). if b then turn else turn_sent (cadence s before) place) here ∙ ap (λ (x : Answered). x.turn) same
turn-at s (HadTurn turn ∷ before) a place (suc k, below, same) e = later (is_data_at place now) refl (turn-at s before a place (k, omega (arith, below), same) e)
  where
    now : Answered
    now = took turn (answer s (is_fresh before) (cadence s before) turn)

    has : Contains (cadence s before) a
    has = (k, omega (arith, below), same)

    later : (b : Bool) → is_data_at place now ≡ b → turn_sent (cadence s before) place ≡ a.turn → (if b then turn else turn_sent (cadence s before) place) ≡ a.turn
    later true here rest =
        let f = has-data-at place now here in
        let at = loud-at (next_place s (cadence s before)) f.frame f.loud (next-is s before turn f.frame f.answer) in
        let old = earlier-below s before a place has e in
        absurd (let lt = old.1 in let is = f.at in omega (arith, at, is, lt))
    later false here rest = rest

-- ---- its entry

entry-of : (a : Answered) (place : ℕ) → is_data_at place a ≡ true → log_entry a ≡ Some (place, a.turn.version)
entry-of a place e = entry-on a.answer e
  where
    entry-on : (o : Option PlacedFrame) → is_data_at place (took a.turn o) ≡ true → log_entry (took a.turn o) ≡ Some (place, a.turn.version)
    entry-on None e = absurd (cc)
    entry-on (Some (Whole p row)) e = let same : p ≡ place = grind (arith, nat_tests) in ap (λ (n : ℕ). Some (n, a.turn.version)) same
    entry-on (Some (Change p patch)) e = let same : p ≡ place = grind (arith, nat_tests) in ap (λ (n : ℕ). Some (n, a.turn.version)) same
    entry-on (Some (Alive n)) e = absurd (cc)

in-entries : (a : Answered) (entry : ℕ × ℕ) (answered : List Answered) → Contains answered a → log_entry a ≡ Some entry → Contains (filter_map log_entry answered) entry
in-entries a entry [] has e = absurd (let below = has.1 in omega (arith, below))
in-entries a entry (b ∷ answered) (zero, below, same) e =
    subst (λ (o : Option (ℕ × ℕ)). Contains (cons_option o (filter_map log_entry answered)) entry) (sym e ∙ ap log_entry (sym same)) (0, omega arith, refl)
in-entries a entry (b ∷ answered) (suc k, below, same) e = in-cons (log_entry b) (in-entries a entry answered (k, omega (arith, below), same) e)
  where
    in-cons : (o : Option (ℕ × ℕ)) → Contains (filter_map log_entry answered) entry → Contains (cons_option o (filter_map log_entry answered)) entry
    in-cons None h = h
    in-cons (Some x) h = Contains-append_right (x ∷ []) (filter_map log_entry answered) entry h

in-reversed : (entry : ℕ × ℕ) (log : List (ℕ × ℕ)) → Contains log entry → Contains (reverse log) entry
in-reversed entry [] has = absurd (let below = has.1 in omega (arith, below))
in-reversed entry (x ∷ log) (zero, below, same) =
    subst (λ (l : List (ℕ × ℕ)). Contains l entry) (sym (reverse-append (x ∷ []) log)) (subst (Contains (reverse log ++ x ∷ [])) same (Contains-push (reverse log) x))
in-reversed entry (x ∷ log) (suc k, below, same) =
    subst (λ (l : List (ℕ × ℕ)). Contains l entry) (sym (reverse-append (x ∷ []) log)) (Contains-append_left (reverse log) (x ∷ []) entry (in-reversed entry log (k, omega (arith, below), same)))

-- THE LAW
pub logged : (short : MetaData) (s : Settings) (deeds : List WriterDeed) (h : Held) → next_place s (cadence s deeds) ≤ s.first_number + 65536
    → (sent : IsRowSent short (cadence s deeds) h) → IsLogged s deeds h.place sent.turn.turn.version
logged short s deeds h few sent =
    let answered = cadence s deeds in
    let span = earlier-below s deeds sent.turn h.place sent.one_of sent.place in
    record {
      entry = in-reversed (h.place, sent.turn.turn.version) (filter_map log_entry answered) (in-entries sent.turn (h.place, sent.turn.turn.version) answered sent.one_of (entry-of sent.turn h.place sent.place));
      named = version-is s deeds h.place span.0 span.1 few ∙ ap (λ (t : WriterTurn). Some t.version) (turn-at s deeds sent.turn h.place sent.one_of sent.place);
    }
