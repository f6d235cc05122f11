-- What is held is the row of its place.
use Rattle.std.proofs.Common.{◌≡◌, refl, sym, ap, ◌∙◌, subst, arith, ℕ, ◌+◌, Bool, true, false, not, cond, List, [], ◌∷◌, ◌++◌, map, Option, Some, None, All}
use Rattle.std.specs.Prelude.{◌==◌, ◌&&◌}
use Rattle.std.specs.List.{list_any}
use Rattle.std.proofs.lemmas.Bool.Decides.{nat_tests}
use Rattle.std.proofs.lemmas.List.Elements.{All-nil, All-cons, All-head, All-tail, All-weaker}
use Rattle.dataset_meta.specs.DataValues.{DataValue}
use Rattle.dataset_meta.specs.Metas.{MetaData}
use Rattle.dataset_meta.specs.Rows.{patched, cons_if, row_cut}
use Rattle.pubsub_model.specs.declared.reading.Break.{Break}
use Rattle.pubsub_model.specs.Frames.{PlacedFrame, Whole, Change, Alive, place_of, is_whole, published}
use Rattle.pubsub_model.specs.Cadence.{Settings, WriterTurn, WriterDeed, HasRowsOf, cadence, next_place}
use Rattle.pubsub_model.specs.Records.{Item, Arrival, Held, at, since_cut, place_in, records, is_record, breaks_with, breaks_of, from_whole, is_nothing, last_with, held_in, held}
use Rattle.pubsub_model.proofs.RecordsLaws.{starts}
use Rattle.pubsub_model.specs.Frames.{placed_cut}
use Rattle.pubsub_model.specs.Answers.{IsAnswerCut, IsRowSent, IsPlaced}
use Rattle.pubsub_model.proofs.AnswerPlaces.{answers-span, place-span}
use Rattle.pubsub_model.proofs.AnswerRows.{IsFaithful, row_sent, answers-faithful, cut-faithful, sent-at}

abbrev pub AreFaithful : (ℕ → List DataValue) → List Item → Type 0
AreFaithful rows items = All (λ item. IsFaithful rows item.frame) items

abbrev frames : List Item → List PlacedFrame
frames items = map (λ (item : Item). item.frame) items

abbrev any_whole : List Item → Bool
any_whole items = list_any (λ (item : Item). is_whole item.frame) items

abbrev first_place : List Item → ℕ
first_place [] = 0
first_place (item ∷ items) = place_in item

-- two records without a break, and none before
apart : (t : Bool) (b : Break) (more : List Break) → is_nothing (cons_if t b [] ++ more) ≡ true → (t ≡ false) × (is_nothing more ≡ true)
apart true b more e = absurd (cc)
apart false b more e = (refl, e)

change-on : (rows : ℕ → List DataValue) (m : ℕ) (s : Option ℕ) (place : ℕ) (patch : List (ℕ × DataValue)) (l : Item) (fw t : List Item) → fw ≡ l ∷ t
    → IsFaithful rows (Change place patch) → published (frames fw) ≡ rows (first_place fw)
    → is_nothing (breaks_of (at m s (Change place patch) ∷ fw)) ≡ true → published (frames (at m s (Change place patch) ∷ fw)) ≡ rows place
change-on rows m s place patch l fw t e faithful same unbroken =
    let unbroken' : is_nothing (breaks_of (at m s (Change place patch) ∷ l ∷ t)) ≡ true = rw e at unbroken in
    let parts = apart (not (place == place_in l + 1)) _ (breaks_of (l ∷ t)) unbroken' in
    let test : not (place == place_in l + 1) ≡ false = parts.0 in
    let next : place ≡ place_in l + 1 = grind (arith, nat_tests) in
    let behind : published (frames fw) ≡ rows (place_in l) = same ∙ ap (λ (x : List Item). rows (first_place x)) e in
    ap (λ (r : List DataValue). patched r patch) behind ∙ faithful (place_in l) next

alive-on : (m : ℕ) (s : Option ℕ) (next : ℕ) (l : Item) (fw t : List Item) → fw ≡ l ∷ t → is_nothing (breaks_of (at m s (Alive next) ∷ fw)) ≡ true → ⊥
alive-on m s next l fw t e unbroken = let wrong : is_nothing (breaks_of (at m s (Alive next) ∷ l ∷ t)) ≡ true = rw e at unbroken in absurd (cc)

unbroken-rest : (x l : Item) (fw t : List Item) → fw ≡ l ∷ t → is_nothing (breaks_of (x ∷ fw)) ≡ true → is_nothing (breaks_of fw) ≡ true
unbroken-rest x l fw t e unbroken =
    let unbroken' : is_nothing (breaks_of (x ∷ l ∷ t)) ≡ true = rw e at unbroken in
    rw e ((apart (breaks_with l x) _ (breaks_of (l ∷ t)) unbroken').1)

abbrev Publishes : (ℕ → List DataValue) → List Item → Type 0
Publishes rows rs = any_whole rs ≡ true → is_nothing (breaks_of (from_whole rs)) ≡ true → published (frames (from_whole rs)) ≡ rows (first_place (from_whole rs))

run-on : (rows : ℕ → List DataValue) (m : ℕ) (s : Option ℕ) (frame : PlacedFrame) (rest : List Item) → IsFaithful rows frame → Publishes rows rest → Publishes rows (at m s frame ∷ rest)
run-on rows m s (Whole place row) rest faithful before whole unbroken = faithful
run-on rows m s (Change place patch) [] faithful before whole unbroken = absurd (cc)
run-on rows m s (Change place patch) (l ∷ rest) faithful before whole unbroken =
    let e = starts (is_whole l.frame) l (from_whole rest) in
    change-on rows m s place patch l (from_whole (l ∷ rest)) _ e faithful
    (before whole (unbroken-rest (at m s (Change place patch)) l (from_whole (l ∷ rest)) _ e unbroken)) unbroken
run-on rows m s (Alive next) [] faithful before whole unbroken = absurd (cc)
run-on rows m s (Alive next) (l ∷ rest) faithful before whole unbroken =
    absurd (alive-on m s next l (from_whole (l ∷ rest)) _ (starts (is_whole l.frame) l (from_whole rest)) unbroken)

-- the row since the last Whole is that of the last record's place
run-published : (rows : ℕ → List DataValue) (rs : List Item) → AreFaithful rows rs → Publishes rows rs
run-published rows [] faithful = λ whole unbroken. absurd (cc)
run-published rows (x ∷ rest) faithful =
    run-on rows x.moment x.stamp x.frame rest (All-head (λ item. IsFaithful rows item.frame) x rest faithful) (run-published rows rest (All-tail (λ item. IsFaithful rows item.frame) x rest faithful))

held_or : Held → Option Held → Held
held_or d None = d
held_or d (Some h) = h

some-held : {g h : Held} → Some g ≡ Some h → g ≡ h
unfolding held_or
some-held {g} e = ap (held_or g) e

-- what holds of the last record's place, and its row
row-of-last : (rows : ℕ → List DataValue) (fw : List Item) (h : Held) → published (frames fw) ≡ rows (first_place fw) → last_with fw ≡ Some h → h.row ≡ rows h.place
row-of-last rows [] h same e = absurd (cc)
row-of-last rows (x ∷ fw) h same e = subst (λ (g : Held). g.row ≡ rows g.place) (some-held e) same

held-case : (rows : ℕ → List DataValue) (rs : List Item) (h : Held) (a b : Bool) → AreFaithful rows rs → any_whole rs ≡ a → is_nothing (breaks_of (from_whole rs)) ≡ b
    → cond (a && b) (last_with (from_whole rs)) None ≡ Some h → h.row ≡ rows h.place
held-case rows rs h true true faithful e f held = row-of-last rows (from_whole rs) h (run-published rows rs faithful e f) held
held-case rows rs h true false faithful e f held = absurd (cc)
held-case rows rs h false b faithful e f held = absurd (cc)

pub held-faithful : (rows : ℕ → List DataValue) (rs : List Item) (h : Held) → AreFaithful rows rs → held_in rs ≡ Some h → h.row ≡ rows h.place
held-faithful rows rs h faithful held = held-case rows rs h (any_whole rs) (is_nothing (breaks_of (from_whole rs))) faithful refl refl held

-- ---- its place is that of an item

record-if : (P : Item → Type 0) (b : Bool) (item : Item) (rs : List Item) → P item → All P rs → All P (cons_if b item rs)
record-if P true item rs p h = All-cons P item rs p h
record-if P false item rs p h = h

pub all-records : (P : Item → Type 0) (items : List Item) → All P items → All P (records items)
all-records P [] h = All-nil P
all-records P (item ∷ before) h = record-if P (is_record before item) item (records before) (All-head P item before h) (all-records P before (All-tail P item before h))

whole-if : (P : Item → Type 0) (b : Bool) (item : Item) (rs : List Item) → P item → All P rs → All P (cond b (item ∷ []) (item ∷ rs))
whole-if P true item rs p h = All-cons P item [] p (All-nil P)
whole-if P false item rs p h = All-cons P item rs p h

all-from-whole : (P : Item → Type 0) (items : List Item) → All P items → All P (from_whole items)
all-from-whole P [] h = All-nil P
all-from-whole P (item ∷ before) h = whole-if P (is_whole item.frame) item (from_whole before) (All-head P item before h) (all-from-whole P before (All-tail P item before h))

last-place : (P : ℕ → Type 0) (items : List Item) (h : Held) → All (λ item. P (place_in item)) items → last_with items ≡ Some h → P h.place
last-place P [] h all e = absurd (cc)
last-place P (item ∷ before) h all e = subst (λ (g : Held). P g.place) (some-held e) (All-head (λ item. P (place_in item)) item before all)

held-place : (P : ℕ → Type 0) (rs : List Item) (h : Held) → All (λ item. P (place_in item)) rs → held_in rs ≡ Some h → P h.place
held-place P rs h all e = held-if (any_whole rs && is_nothing (breaks_of (from_whole rs))) e
  where
    held-if : (b : Bool) → cond b (last_with (from_whole rs)) None ≡ Some h → P h.place
    held-if true e = last-place P (from_whole rs) h (all-from-whole (λ item. P (place_in item)) rs all) e
    held-if false e = absurd (cc)

-- ---- a writer's answers, cut

cut-place : (short : MetaData) (frame : PlacedFrame) → place_of (placed_cut short frame) ≡ place_of frame
cut-place short (Whole place row) = refl
cut-place short (Change place patch) = refl
cut-place short (Alive next) = refl

item-faithful : (meta short : MetaData) (s : Settings) (deeds : List WriterDeed) (item : Item) → HasRowsOf meta deeds → IsAnswerCut short (cadence s deeds) item
    → IsFaithful (λ place. row_cut short (row_sent (cadence s deeds) place)) item.frame
item-faithful meta short s deeds item rows is =
    subst (λ (f : PlacedFrame). IsFaithful (λ place. row_cut short (row_sent (cadence s deeds) place)) f) (sym is.cut)
    (cut-faithful short (row_sent (cadence s deeds)) is.frame (answers-faithful meta s deeds is.frame rows is.answer))

pub item-placed : (short : MetaData) (s : Settings) (deeds : List WriterDeed) (item : Item) → IsAnswerCut short (cadence s deeds) item → IsPlaced s (cadence s deeds) (place_in item)
item-placed short s deeds item is =
    let place : place_in item ≡ place_of is.frame = ap place_of is.cut ∙ cut-place short is.frame in
    let span = place-span s.first_number (next_place s (cadence s deeds)) is.frame (answers-span s deeds is.frame is.answer) in
    (omega (arith, place, span.0), omega (arith, place, span.1))

-- THE LAW
pub held-sent : (meta short : MetaData) (s : Settings) (deeds : List WriterDeed) (arrivals : List Arrival) (h : Held) → HasRowsOf meta deeds → All (IsAnswerCut short (cadence s deeds)) (since_cut arrivals)
    → held arrivals ≡ Some h → IsRowSent short (cadence s deeds) h
held-sent meta short s deeds arrivals h rows are e =
    let answered = cadence s deeds in
    let items = since_cut arrivals in
    let cut_rows : ℕ → List DataValue = λ place. row_cut short (row_sent answered place) in
    let faithful : AreFaithful cut_rows (records items) =
    all-records (λ item. IsFaithful cut_rows item.frame) items (All-weaker (IsAnswerCut short answered) (λ item. IsFaithful cut_rows item.frame) (λ item is. item-faithful meta short s deeds item rows is) items are) in
    let placed = all-records (λ item. IsPlaced s answered (place_in item)) items (All-weaker (IsAnswerCut short answered) (λ item. IsPlaced s answered (place_in item)) (λ item is. item-placed short s deeds item is) items are) in
    let span = held-place (IsPlaced s answered) (records items) h placed e in
    let row = held-faithful cut_rows (records items) h faithful e in
    let at = sent-at s deeds h.place span.0 span.1 in
    record { turn = at.turn; one_of = at.one_of; place = at.at; row = row ∙ ap (λ (t : WriterTurn). row_cut short t.row) at.is }
