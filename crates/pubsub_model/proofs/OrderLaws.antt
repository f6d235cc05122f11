-- A reader to which each frame of a writer comes, once and in order.
use Rattle.std.proofs.Common.{◌≡◌, ◌≤◌, refl, sym, ap, ◌∙◌, arith, ℕ, ◌+◌, ◌-◌, Bool, true, false, not, cond, List, [], ◌∷◌, ◌++◌, map, Option, Some, None}
use Rattle.std.specs.Prelude.{count_by, nat_lt, ◌==◌, option_map}
use Rattle.std.proofs.lemmas.Bool.Decides.{nat_tests}
use Rattle.dataset_meta.specs.DataValues.{DataValue}
use Rattle.dataset_meta.specs.Metas.{MetaData}
use Rattle.dataset_meta.specs.Rows.{patched, cons_if}
use Rattle.seq_number.specs.Numbers.{number_of_place}
use Rattle.pubsub_model.specs.declared.reading.Break.{Break}
use Rattle.pubsub_model.specs.Frames.{PlacedFrame, Whole, Change, Alive, place_of, carried, published}
use Rattle.pubsub_model.specs.Cadence.{Settings, WriterTurn, Answered, WriterDeed, Refreshed, HadTurn, cadence, answer, is_data, last_turn, next_place, frames_of, HasRowsOf}
use Rattle.pubsub_model.specs.Records.{Item, Held, Arrival, Came, at, place_in, since_cut, is_record, records, breaks_with, break_between, break_with, held_in, held, breaks}
use Rattle.pubsub_model.proofs.CadenceLaws.{counted_on, some_data, cadence-publishes}
use Rattle.pubsub_model.proofs.PlaceLaws.{IsNext, IsNext-answer}
use Rattle.pubsub_model.proofs.RecordsLaws.{above_last, above_all-last, held-whole, held-change}

-- each frame comes once, in order
abbrev pub come : List PlacedFrame → List Arrival
come frames = map (λ frame. Came (at 0 None frame)) frames

abbrev items : List PlacedFrame → List Item
items frames = map (at 0 None) frames

-- ---- one more frame

since_cut-come : (frames : List PlacedFrame) → since_cut (come frames) ≡ items frames
since_cut-come [] = refl
since_cut-come (frame ∷ frames) = ap (λ (l : List Item). at 0 None frame ∷ l) (since_cut-come frames)

is_record-by : (before rs : List Item) (item : Item) → records before ≡ rs → is_record before item ≡ above_last rs (place_in item)
is_record-by before rs item are = above_all-last before (place_in item) ∙ ap (λ (r : List Item). above_last r (place_in item)) are

records-on : (before rs : List Item) (item : Item) (new : Bool) → records before ≡ rs → above_last rs (place_in item) ≡ new → records (item ∷ before) ≡ cons_if new item rs
records-on before rs item new are above =
    ap (λ (b : Bool). cons_if b item (records before)) (is_record-by before rs item are ∙ above) ∙ ap (cons_if new item) are

breaks-on : (frames : List PlacedFrame) (rs : List Item) (frame : PlacedFrame) (new : Bool) → records (items frames) ≡ rs → above_last rs (place_of frame) ≡ new
    → breaks (come (frame ∷ frames)) ≡ cond new (break_with rs (at 0 None frame)) [] ++ breaks (come frames)
breaks-on frames rs frame new are above =
    ap (λ (l : List Item). cond (is_record l (at 0 None frame)) (break_with (records l) (at 0 None frame)) [] ++ breaks (come frames)) (since_cut-come frames)
    ∙ ap (λ (b : Bool). cond b (break_with (records (items frames)) (at 0 None frame)) [] ++ breaks (come frames)) (is_record-by (items frames) rs (at 0 None frame) are ∙ above)
    ∙ ap (λ (r : List Item). cond new (break_with r (at 0 None frame)) [] ++ breaks (come frames)) are

-- ---- a run without a break

-- there is no data frame yet, or the last record stands before the next place, and what was published is held
abbrev Stands : Settings → List Answered → List Item → Type 0
Stands s before [] = count_by is_data before ≡ 0
Stands s before (last ∷ rs) =
    (place_in last + 1 ≡ next_place s before) × (held_in (last ∷ rs) ≡ Some (record { place = place_in last; row = published (frames_of before) }))

record Runs (s : Settings) (before : List Answered) : Type 0 where
  rs : List Item
  are : records (items (frames_of before)) ≡ rs
  stands : Stands s before rs
  unbroken : breaks (come (frames_of before)) ≡ []

next_after : (place last : ℕ) → place ≡ last + 1 → not (place == last + 1) ≡ false
next_after place last e = let same : (place == last + 1) ≡ true = grind (arith, nat_tests, e) in ap not same

above_next : (place last : ℕ) → place ≡ last + 1 → nat_lt last place ≡ true
above_next place last e = grind (arith, nat_tests, e)

one_more : (s : Settings) (turn : WriterTurn) (a : Option PlacedFrame) (before : List Answered) (place : ℕ) → is_data (record { turn = turn; answer = a }) ≡ true → place ≡ next_place s before
    → place + 1 ≡ next_place s (record { turn = turn; answer = a } ∷ before)
one_more s turn a before place is next = omega (arith, next, counted_on turn a before true (sym is))

-- a record that follows the last one
follows_on : (s : Settings) (turn : WriterTurn) (before : List Answered) (rs : List Item) (frame : PlacedFrame) → records (items (frames_of before)) ≡ rs → breaks (come (frames_of before)) ≡ []
    → above_last rs (place_of frame) ≡ true → break_with rs (at 0 None frame) ≡ [] → Stands s (record { turn = turn; answer = Some frame } ∷ before) (at 0 None frame ∷ rs)
    → Runs s (record { turn = turn; answer = Some frame } ∷ before)
follows_on s turn before rs frame are unbroken above no_break stands = record {
  rs = at 0 None frame ∷ rs;
  are = records-on (items (frames_of before)) rs (at 0 None frame) true are above;
  stands = stands;
  unbroken = breaks-on (frames_of before) rs frame true are above ∙ ap (λ (l : List Break). l ++ breaks (come (frames_of before))) no_break ∙ unbroken;
}

-- what doesn't break tells of no break
no_break : (last item : Item) → breaks_with last item ≡ false → break_between last item ≡ []
no_break last item e = ap (λ (b : Bool). cons_if b (record { expected = number_of_place (place_in last + 1); got = carried item.frame }) []) e

whole_by : (s : Settings) (turn : WriterTurn) (before : List Answered) (place : ℕ) (row : List DataValue) (rs : List Item) → place ≡ next_place s before → records (items (frames_of before)) ≡ rs
    → breaks (come (frames_of before)) ≡ [] → Stands s before rs → Runs s (record { turn = turn; answer = Some (Whole place row) } ∷ before)
whole_by s turn before place row [] next are unbroken stands =
    follows_on s turn before [] (Whole place row) are unbroken refl refl (one_more s turn (Some (Whole place row)) before place refl next, held-whole 0 None place row [])
whole_by s turn before place row (last ∷ rs) next are unbroken stands =
    let behind = next ∙ sym stands.0 in
    follows_on s turn before (last ∷ rs) (Whole place row) are unbroken (above_next place (place_in last) behind)
    (no_break last (at 0 None (Whole place row)) (next_after place (place_in last) behind))
    (one_more s turn (Some (Whole place row)) before place refl next, held-whole 0 None place row (last ∷ rs))

change_by : (s : Settings) (turn : WriterTurn) (before : List Answered) (place : ℕ) (patch : List (ℕ × DataValue)) (rs : List Item) → place ≡ next_place s before → 1 ≤ count_by is_data before
    → records (items (frames_of before)) ≡ rs → breaks (come (frames_of before)) ≡ [] → Stands s before rs → Runs s (record { turn = turn; answer = Some (Change place patch) } ∷ before)
change_by s turn before place patch [] next some are unbroken stands = absurd (omega (arith, some, stands))
change_by s turn before place patch (last ∷ rs) next some are unbroken stands =
    let behind = next ∙ sym stands.0 in
    let joins : breaks_with last (at 0 None (Change place patch)) ≡ false = next_after place (place_in last) behind in
    follows_on s turn before (last ∷ rs) (Change place patch) are unbroken (above_next place (place_in last) behind) (no_break last (at 0 None (Change place patch)) joins) (
      one_more s turn (Some (Change place patch)) before place refl next,
      held-change 0 None place patch last rs joins ∙ ap (option_map (λ (h : Held). record { place = place; row = patched h.row patch })) stands.1,
    )

-- a turn without a data frame
same_next : (s : Settings) (turn : WriterTurn) (a : Option PlacedFrame) (before : List Answered) → is_data (record { turn = turn; answer = a }) ≡ false
    → next_place s (record { turn = turn; answer = a } ∷ before) ≡ next_place s before
same_next s turn a before is = omega (arith, counted_on turn a before false (sym is))

quiet_stands : (s : Settings) (turn : WriterTurn) (before : List Answered) (rs : List Item) → Stands s before rs → Stands s (record { turn = turn; answer = None } ∷ before) rs
quiet_stands s turn before [] stands = omega (arith, stands, counted_on turn None before false refl)
quiet_stands s turn before (last ∷ rs) stands = (stands.0 ∙ sym (same_next s turn None before refl), stands.1)

alive_stands : (s : Settings) (turn : WriterTurn) (before : List Answered) (next : ℕ) (rs : List Item) → Stands s before rs → Stands s (record { turn = turn; answer = Some (Alive next) } ∷ before) rs
alive_stands s turn before next [] stands = omega (arith, stands, counted_on turn (Some (Alive next)) before false refl)
alive_stands s turn before next (last ∷ rs) stands = (stands.0 ∙ sym (same_next s turn (Some (Alive next)) before refl), stands.1)

not_above : (next last : ℕ) → next ≡ last + 1 → nat_lt last (next - 1) ≡ false
not_above next last e = grind (arith, nat_tests, e)

alive_by : (s : Settings) (turn : WriterTurn) (before : List Answered) (next : ℕ) (rs : List Item) → next ≡ next_place s before → 1 ≤ count_by is_data before
    → records (items (frames_of before)) ≡ rs → breaks (come (frames_of before)) ≡ [] → Stands s before rs → Runs s (record { turn = turn; answer = Some (Alive next) } ∷ before)
alive_by s turn before next [] is some are unbroken stands = absurd (omega (arith, some, stands))
alive_by s turn before next (last ∷ rs) is some are unbroken stands =
    let above = not_above next (place_in last) (is ∙ sym stands.0) in
    record {
      rs = last ∷ rs;
      are = records-on (items (frames_of before)) (last ∷ rs) (at 0 None (Alive next)) false are above;
      stands = alive_stands s turn before next (last ∷ rs) stands;
      unbroken = breaks-on (frames_of before) (last ∷ rs) (Alive next) false are above ∙ unbroken;
    }

runs_on : (s : Settings) (turn : WriterTurn) (a : Option PlacedFrame) (before : List Answered) → IsNext (next_place s before) a → 1 ≤ count_by is_data before → Runs s before
    → Runs s (record { turn = turn; answer = a } ∷ before)
runs_on s turn None before next some runs = record { rs = runs.rs; are = runs.are; stands = quiet_stands s turn before runs.rs runs.stands; unbroken = runs.unbroken }
runs_on s turn (Some (Whole place row)) before next some runs = whole_by s turn before place row runs.rs next runs.are runs.unbroken runs.stands
runs_on s turn (Some (Change place patch)) before next some runs = change_by s turn before place patch runs.rs next some runs.are runs.unbroken runs.stands
runs_on s turn (Some (Alive place)) before next some runs = alive_by s turn before place runs.rs next some runs.are runs.unbroken runs.stands

-- a fresh turn
fresh_on : (s : Settings) (turn : WriterTurn) (before : List Answered) → Runs s before → Runs s (record { turn = turn; answer = answer s true before turn } ∷ before)
fresh_on s turn before runs = whole_by s turn before (next_place s before) turn.row runs.rs refl runs.are runs.unbroken runs.stands

runs : (s : Settings) (deeds : List WriterDeed) → Runs s (cadence s deeds)
runs s [] = record { rs = []; are = refl; stands = refl; unbroken = refl }
runs s (Refreshed ∷ before) = runs s before
runs s (HadTurn turn ∷ []) = fresh_on s turn [] (runs s [])
runs s (HadTurn turn ∷ Refreshed ∷ before) = fresh_on s turn (cadence s before) (runs s before)
runs s (HadTurn turn ∷ HadTurn last ∷ before) =
    let earlier = cadence s (HadTurn last ∷ before) in
    runs_on s turn (answer s false earlier turn) earlier (IsNext-answer s false earlier turn) (some_data s last before) (runs s (HadTurn last ∷ before))

-- no frame of a writer breaks the run of a reader to which each comes in order
pub in_order-unbroken : (s : Settings) (deeds : List WriterDeed) → breaks (map (λ frame. Came (at 0 None frame)) (frames_of (cadence s deeds))) ≡ []
in_order-unbroken s deeds = (runs s deeds).unbroken

held_by : (s : Settings) (before : List Answered) (rs : List Item) → records (items (frames_of before)) ≡ rs → 1 ≤ count_by is_data before → Stands s before rs
    → option_map (λ (h : Held). h.row) (held (come (frames_of before))) ≡ Some (published (frames_of before))
held_by s before [] are some stands = absurd (omega (arith, some, stands))
held_by s before (last ∷ rs) are some stands =
    ap (λ (l : List Item). option_map (λ (h : Held). h.row) (held_in (records l))) (since_cut-come (frames_of before))
    ∙ ap (λ (l : List Item). option_map (λ (h : Held). h.row) (held_in l)) are
    ∙ ap (option_map (λ (h : Held). h.row)) stands.1

-- and it holds the row of the last turn with a data frame
pub in_order-held : (meta : MetaData) (s : Settings) (turn : WriterTurn) (before : List WriterDeed) → HasRowsOf meta (HadTurn turn ∷ before)
    → option_map (λ h. h.row) (held (map (λ frame. Came (at 0 None frame)) (frames_of (cadence s (HadTurn turn ∷ before)))))
    ≡ Some (last_turn is_data (cadence s (HadTurn turn ∷ before))).row
in_order-held meta s turn before rows =
    let all = runs s (HadTurn turn ∷ before) in
    held_by s (cadence s (HadTurn turn ∷ before)) all.rs all.are (some_data s turn before) all.stands
    ∙ ap (λ (row : List DataValue). Some row) (cadence-publishes meta s (HadTurn turn ∷ before) rows)
