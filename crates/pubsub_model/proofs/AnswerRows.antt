-- A writer's answers are faithful to the rows of its turns.
use Rattle.std.proofs.Common.{◌≡◌, refl, sym, ap, ◌∙◌, subst, arith, ℕ, suc, ◌+◌, ◌<◌, ◌≤◌, Bool, true, false, List, [], ◌∷◌, ◌++◌, length, Option, Some, None, inl, inr, Contains}
use Rattle.std.specs.Prelude.{◌==◌, if◌then◌else◌}
use Rattle.std.proofs.lemmas.Bool.Decides.{nat_tests}
use Rattle.dataset_meta.specs.DataValues.{DataValue}
use Rattle.dataset_meta.specs.Metas.{MetaData}
use Rattle.dataset_meta.specs.Rows.{patched, row_cut}
use Rattle.dataset_meta.proofs.CutLaws.{patched-cut}
use Rattle.pubsub_model.specs.Frames.{PlacedFrame, Whole, Change, Alive, published}
use Rattle.pubsub_model.specs.Cadence.{Settings, WriterTurn, Answered, WriterDeed, Refreshed, HadTurn, turn_of, HasRowsOf, cadence, answer, is_fresh, is_data, last_turn, next_place, frames_of}
use Rattle.pubsub_model.proofs.CadenceLaws.{cadence-publishes}
use Rattle.pubsub_model.proofs.PlaceLaws.{IsNext}
use Rattle.pubsub_model.specs.Frames.{placed_cut}
use Rattle.pubsub_model.specs.Answers.{IsAnswer, is_data_at, InSpan}
use Rattle.pubsub_model.proofs.AnswerPlaces.{took, next-count, answers-span, next-is, has-data}

-- ---- the row of a place

-- the turn whose data frame has this place
abbrev pub turn_sent : List Answered → ℕ → WriterTurn
turn_sent [] place = turn_of None
turn_sent (a ∷ before) place = if is_data_at place a then a.turn else turn_sent before place

-- its row
abbrev pub row_sent : List Answered → ℕ → List DataValue
row_sent answered place = (turn_sent answered place).row

-- ---- one more turn

same-test : (p place : ℕ) → p ≡ place → (p == place) ≡ true
same-test p place e = grind (arith, nat_tests)

other-test : (p place : ℕ) → place < p → (p == place) ≡ false
other-test p place lt = grind (arith, nat_tests)

-- at the place of the next data frame, if the turn has one
sent-if : (turn : WriterTurn) (frame : PlacedFrame) (before : List Answered) (place : ℕ) (b : Bool) → is_data_at place (took turn (Some frame)) ≡ b
    → row_sent (took turn (Some frame) ∷ before) place ≡ (if b then turn else turn_sent before place).row
sent-if turn frame before place b e = ap (λ (c : Bool). (if c then turn else turn_sent before place).row) e

here-whole : (turn : WriterTurn) (before : List Answered) (p place : ℕ) (row : List DataValue) → p ≡ place → row_sent (took turn (Some (Whole p row)) ∷ before) place ≡ turn.row
here-whole turn before p place row e = sent-if turn (Whole p row) before place true (same-test p place e)

here-change : (turn : WriterTurn) (before : List Answered) (p place : ℕ) (patch : List (ℕ × DataValue)) → p ≡ place → row_sent (took turn (Some (Change p patch)) ∷ before) place ≡ turn.row
here-change turn before p place patch e = sent-if turn (Change p patch) before place true (same-test p place e)

-- below the next place the rows are as before
abbrev AnswersNext : Settings → List Answered → Option PlacedFrame → Type 0
AnswersNext s before o = (frame : PlacedFrame) → o ≡ Some frame → IsNext (next_place s before) (Some frame)

sent-before : (s : Settings) (before : List Answered) (turn : WriterTurn) (o : Option PlacedFrame) (place : ℕ) → AnswersNext s before o → place < next_place s before
    → row_sent (took turn o ∷ before) place ≡ row_sent before place
sent-before s before turn None place next lt = refl
sent-before s before turn (Some (Alive n)) place next lt = refl
sent-before s before turn (Some (Whole p row)) place next lt = let at = next (Whole p row) refl in sent-if turn (Whole p row) before place false (other-test p place (omega (arith, at, lt)))
sent-before s before turn (Some (Change p patch)) place next lt = let at = next (Change p patch) refl in sent-if turn (Change p patch) before place false (other-test p place (omega (arith, at, lt)))

next-of : (s : Settings) (before : List WriterDeed) (turn : WriterTurn) → AnswersNext s (cadence s before) (answer s (is_fresh before) (cadence s before) turn)
next-of s before turn frame e = next-is s before turn frame e

last-sent-on : (s : Settings) (before : List Answered) (turn : WriterTurn) (o : Option PlacedFrame) (place : ℕ) → AnswersNext s before o
    → (place + 1 ≡ next_place s before → row_sent before place ≡ (last_turn is_data before).row) → place + 1 ≡ next_place s (took turn o ∷ before)
    → row_sent (took turn o ∷ before) place ≡ (last_turn is_data (took turn o ∷ before)).row
last-sent-on s before turn None place next h at = let e = next-count s before turn None in h (omega (arith, e, at))
last-sent-on s before turn (Some (Alive n)) place next h at = let e = next-count s before turn (Some (Alive n)) in h (omega (arith, e, at))
last-sent-on s before turn (Some (Whole p row)) place next h at =
    let e = next-count s before turn (Some (Whole p row)) in let is = next (Whole p row) refl in here-whole turn before p place row (omega (arith, e, is, at))
last-sent-on s before turn (Some (Change p patch)) place next h at =
    let e = next-count s before turn (Some (Change p patch)) in let is = next (Change p patch) refl in here-change turn before p place patch (omega (arith, e, is, at))

-- the place before the next one is that of the last data frame
last-sent : (s : Settings) (deeds : List WriterDeed) (place : ℕ) → s.first_number ≤ place → place + 1 ≡ next_place s (cadence s deeds) → row_sent (cadence s deeds) place ≡ (last_turn is_data (cadence s deeds)).row
last-sent s [] place le at = absurd (omega (arith, le, at))
last-sent s (Refreshed ∷ before) place le at = last-sent s before place le at
last-sent s (HadTurn turn ∷ before) place le at = last-sent-on s (cadence s before) turn _ place (next-of s before turn) (last-sent s before place le) at

-- ---- each place has its turn

pub record IsSentAt (answered : List Answered) (place : ℕ) : Type 0 where
  pub turn : Answered
  pub one_of : Contains answered turn
  pub at : is_data_at place turn ≡ true
  pub is : turn_sent answered place ≡ turn.turn

contains-here : (a : Answered) (before : List Answered) → Contains (a ∷ before) a
contains-here a before = (0, omega arith, refl)

contains-later : (a b : Answered) (before : List Answered) → Contains before b → Contains (a ∷ before) b
contains-later a b before h = (suc h.0, let lt = h.1 in omega (arith, lt), h.2)

sent-now : (a : Answered) (before : List Answered) (place : ℕ) → is_data_at place a ≡ true → IsSentAt (a ∷ before) place
sent-now a before place e = record { turn = a; one_of = contains-here a before; at = e; is = ap (λ (c : Bool). if c then a.turn else turn_sent before place) e }

sent-earlier : (a : Answered) (before : List Answered) (place : ℕ) → is_data_at place a ≡ false → IsSentAt before place → IsSentAt (a ∷ before) place
sent-earlier a before place e h = record {
  turn = h.turn;
  one_of = contains-later a h.turn before h.one_of;
  at = h.at;
  is = ap (λ (c : Bool). if c then a.turn else turn_sent before place) e ∙ h.is;
}

sent-on : (s : Settings) (before : List Answered) (turn : WriterTurn) (o : Option PlacedFrame) (place : ℕ) → AnswersNext s before o → (place < next_place s before → IsSentAt before place)
    → place < next_place s (took turn o ∷ before) → IsSentAt (took turn o ∷ before) place
sent-on s before turn None place next h lt = let e = next-count s before turn None in sent-earlier (took turn None) before place refl (h (omega (arith, e, lt)))
sent-on s before turn (Some (Alive n)) place next h lt = let e = next-count s before turn (Some (Alive n)) in sent-earlier (took turn (Some (Alive n))) before place refl (h (omega (arith, e, lt)))
sent-on s before turn (Some (Whole p row)) place next h lt = new (p == place) refl
  where
    new : (b : Bool) → (p == place) ≡ b → IsSentAt (took turn (Some (Whole p row)) ∷ before) place
    new true is = sent-now (took turn (Some (Whole p row))) before place is
    new false is =
        let at = next (Whole p row) refl in let e = next-count s before turn (Some (Whole p row)) in
        let old : place < next_place s before = grind (arith, nat_tests, e, lt, at) in sent-earlier (took turn (Some (Whole p row))) before place is (h old)
sent-on s before turn (Some (Change p patch)) place next h lt = new (p == place) refl
  where
    new : (b : Bool) → (p == place) ≡ b → IsSentAt (took turn (Some (Change p patch)) ∷ before) place
    new true is = sent-now (took turn (Some (Change p patch))) before place is
    new false is =
        let at = next (Change p patch) refl in let e = next-count s before turn (Some (Change p patch)) in
        let old : place < next_place s before = grind (arith, nat_tests, e, lt, at) in sent-earlier (took turn (Some (Change p patch))) before place is (h old)

-- each place below the next one has its turn
pub sent-at : (s : Settings) (deeds : List WriterDeed) (place : ℕ) → s.first_number ≤ place → place < next_place s (cadence s deeds) → IsSentAt (cadence s deeds) place
sent-at s [] place le lt = absurd (omega (arith, le, lt))
sent-at s (Refreshed ∷ before) place le lt = sent-at s before place le lt
sent-at s (HadTurn turn ∷ before) place le lt = sent-on s (cadence s before) turn _ place (next-of s before turn) (sent-at s before place le) lt

-- ---- a frame that an answer may be

-- it publishes the turn's row behind the row of the last data frame
abbrev Fits : List Answered → WriterTurn → PlacedFrame → Type 0
Fits before turn (Whole place row) = row ≡ turn.row
Fits before turn (Change place patch) = patched (last_turn is_data before).row patch ≡ turn.row
Fits before turn (Alive next) = Unit {0}

published-fits : (before : List Answered) (turn : WriterTurn) (o : Option PlacedFrame) (frame : PlacedFrame) → o ≡ Some frame → published (frames_of before) ≡ (last_turn is_data before).row
    → published (frames_of (took turn o ∷ before)) ≡ (last_turn is_data (took turn o ∷ before)).row → Fits before turn frame
published-fits before turn None frame e old new = absurd (cc)
published-fits before turn (Some (Whole place row)) frame e old new = let same : Whole place row ≡ frame = cc in subst (λ (f : PlacedFrame). Fits before turn f) same new
published-fits before turn (Some (Change place patch)) frame e old new =
    let same : Change place patch ≡ frame = cc in subst (λ (f : PlacedFrame). Fits before turn f) same (ap (λ (row : List DataValue). patched row patch) (sym old) ∙ new)
published-fits before turn (Some (Alive next)) frame e old new = let same : Alive next ≡ frame = cc in subst (λ (f : PlacedFrame). Fits before turn f) same tt

fits : (meta : MetaData) (s : Settings) (turn : WriterTurn) (before : List WriterDeed) (frame : PlacedFrame) → HasRowsOf meta (HadTurn turn ∷ before)
    → answer s (is_fresh before) (cadence s before) turn ≡ Some frame → Fits (cadence s before) turn frame
fits meta s turn before frame rows e =
    published-fits (cadence s before) turn (answer s (is_fresh before) (cadence s before) turn) frame e (cadence-publishes meta s before rows.1) (cadence-publishes meta s (HadTurn turn ∷ before) rows)

-- ---- answers are faithful to the rows of their places

-- a Whole has the row of its place, and a Change makes it of the row before
abbrev pub IsFaithful : (ℕ → List DataValue) → PlacedFrame → Type 0
IsFaithful rows (Whole place row) = row ≡ rows place
IsFaithful rows (Change place patch) = (last : ℕ) → place ≡ last + 1 → patched (rows last) patch ≡ rows place
IsFaithful rows (Alive next) = Unit {0}

faithful-more : (rows more : ℕ → List DataValue) (first next : ℕ) (frame : PlacedFrame) → InSpan first next frame → ((place : ℕ) → place < next → more place ≡ rows place) → IsFaithful rows frame → IsFaithful more frame
faithful-more rows more first next (Whole place row) span same h = h ∙ sym (same place span.1)
faithful-more rows more first next (Change place patch) span same h =
    λ last e. ap (λ (row : List DataValue). patched row patch) (same last (let lt = span.1 in omega (arith, e, lt))) ∙ h last e ∙ sym (same place span.1)
faithful-more rows more first next (Alive n) span same h = tt

-- a Change stands behind a data frame
abbrev HasBehind : Settings → List Answered → PlacedFrame → Type 0
HasBehind s before (Whole place row) = Unit {0}
HasBehind s before (Change place patch) = s.first_number < next_place s before
HasBehind s before (Alive next) = Unit {0}

fresh-behind : (s : Settings) (fresh : Bool) (before : List Answered) (turn : WriterTurn) (frame : PlacedFrame) → (fresh ≡ false → s.first_number < next_place s before) → answer s fresh before turn ≡ Some frame → HasBehind s before frame
fresh-behind s fresh before turn (Whole place row) counts e = tt
fresh-behind s true before turn (Change place patch) counts e = absurd (cc)
fresh-behind s false before turn (Change place patch) counts e = counts refl
fresh-behind s fresh before turn (Alive next) counts e = tt

faithful-new : (s : Settings) (deeds : List WriterDeed) (turn : WriterTurn) (frame : PlacedFrame) → IsNext (next_place s (cadence s deeds)) (Some frame) → HasBehind s (cadence s deeds) frame → Fits (cadence s deeds) turn frame
    → IsFaithful (row_sent (took turn (Some frame) ∷ cadence s deeds)) frame
faithful-new s deeds turn (Whole place row) next behind fits = fits ∙ sym (here-whole turn (cadence s deeds) place place row refl)
faithful-new s deeds turn (Change place patch) next behind fits =
    λ last e.
    let only : AnswersNext s (cadence s deeds) (Some (Change place patch)) = λ frame is. (let same : Change place patch ≡ frame = cc in subst (λ (f : PlacedFrame). IsNext (next_place s (cadence s deeds)) (Some f)) same next) in
    let row : row_sent (took turn (Some (Change place patch)) ∷ cadence s deeds) last ≡ (last_turn is_data (cadence s deeds)).row =
    sent-before s (cadence s deeds) turn (Some (Change place patch)) last only (omega (arith, e, next)) ∙ last-sent s deeds last (omega (arith, e, next, behind)) (omega (arith, e, next)) in
    ap (λ (r : List DataValue). patched r patch) row ∙ fits ∙ sym (here-change turn (cadence s deeds) place place patch refl)
faithful-new s deeds turn (Alive n) next behind fits = tt

-- each answer is faithful to the rows of all turns
pub answers-faithful : (meta : MetaData) (s : Settings) (deeds : List WriterDeed) (frame : PlacedFrame) → HasRowsOf meta deeds → IsAnswer (cadence s deeds) frame → IsFaithful (row_sent (cadence s deeds)) frame
answers-faithful meta s [] frame rows is = absurd is
answers-faithful meta s (Refreshed ∷ before) frame rows is = answers-faithful rows.0 s before frame rows.1 is
answers-faithful meta s (HadTurn turn ∷ before) frame rows (inl e) =
    let earlier = cadence s before in
    subst (λ (o : Option PlacedFrame). IsFaithful (row_sent (took turn o ∷ earlier)) frame) (sym e)
    (faithful-new s before turn frame (next-is s before turn frame e) (fresh-behind s (is_fresh before) earlier turn frame (has-data s before) e) (fits meta s turn before frame rows e))
answers-faithful meta s (HadTurn turn ∷ before) frame rows (inr is) =
    let earlier = cadence s before in
    faithful-more (row_sent earlier) (row_sent (took turn (answer s (is_fresh before) earlier turn) ∷ earlier)) s.first_number (next_place s earlier) frame (answers-span s before frame is)
    (λ place lt. sent-before s earlier turn _ place (next-of s before turn) lt) (answers-faithful meta s before frame rows.1 is)

-- so they are for a reader of the first fields
pub cut-faithful : (short : MetaData) (rows : ℕ → List DataValue) (frame : PlacedFrame) → IsFaithful rows frame → IsFaithful (λ place. row_cut short (rows place)) (placed_cut short frame)
cut-faithful short rows (Whole place row) h = ap (row_cut short) h
cut-faithful short rows (Change place patch) h = λ last e. sym (patched-cut (length short.fields) (rows last) patch) ∙ ap (row_cut short) (h last e)
cut-faithful short rows (Alive n) h = tt

-- ---- the rows of the turns before

pub rows-behind : (meta : MetaData) (later deeds : List WriterDeed) → HasRowsOf meta (later ++ deeds) → (now : MetaData) × HasRowsOf now deeds
rows-behind meta [] deeds rows = (meta, rows)
rows-behind meta (Refreshed ∷ later) deeds rows = rows-behind rows.0 later deeds rows.1
rows-behind meta (HadTurn turn ∷ later) deeds rows = rows-behind meta later deeds rows.1
