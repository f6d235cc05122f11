-- What the frames of a writer publish up to a turn is the row of that turn.
use Rattle.std.proofs.Common.{◌≡◌, refl, sym, ap, ◌∙◌, Bool, true, false, ◌&&◌, not, cond, List, [], ◌∷◌, ℕ, ◌-◌, Some, None}
use Rattle.std.specs.Prelude.{nat_le, ◌==◌}
use Rattle.dataset_meta.specs.DataValues.{DataValue}
use Rattle.dataset_meta.specs.Metas.{MetaData}
use Rattle.dataset_meta.specs.Rows.{IsRow, patched, differs}
use Rattle.dataset_meta.proofs.RowLaws.{patched-differs}
use Rattle.pubsub_model.specs.Frames.{Whole, Alive, published}
use Rattle.pubsub_model.specs.Cadence.{Settings, WriterTurn, Answered, WriterDeed, Refreshed, HadTurn, HasRowsOf, answer, change_answer, is_key_due, cadence, next_place, last_turn, is_data, is_any, frames_of}
use Rattle.pubsub_model.proofs.CadenceLaws.{data_row-fits, cadence-publishes}

abbrev data_row : List Answered → List DataValue
data_row before = (last_turn is_data before).row

key_row : (s : Settings) (fresh : Bool) (before : List Answered) (turn : WriterTurn) → is_key_due s fresh before turn ≡ true → data_row (record { turn = turn; answer = answer s fresh before turn } ∷ before) ≡ turn.row
key_row s fresh before turn due = rw due refl

quiet_row : (alive : Bool) (before : List Answered) (turn : WriterTurn) (next : ℕ) → data_row (record { turn = turn; answer = cond alive (Some (Alive next)) None } ∷ before) ≡ data_row before
quiet_row true before turn next = refl
quiet_row false before turn next = refl

change_row : (meta : MetaData) (s : Settings) (before : List Answered) (turn : WriterTurn) (patch : List (ℕ × DataValue)) → IsRow meta (data_row before) → IsRow meta turn.row → differs (data_row before) turn.row ≡ patch
    → data_row (record { turn = turn; answer = change_answer s before turn patch } ∷ before) ≡ turn.row
change_row meta s before turn [] is_old is_new e =
    quiet_row (not (s.keep_alive == 0) && nat_le s.keep_alive (turn.moment - (last_turn is_any before).moment)) before turn (next_place s before)
    ∙ sym (ap (patched (data_row before)) e) ∙ patched-differs meta.quality meta.fields (data_row before) turn.row is_old is_new
change_row meta s before turn (change ∷ patch) is_old is_new e = refl

other_row : (meta : MetaData) (s : Settings) (due : Bool) (before : List Answered) (turn : WriterTurn) → IsRow meta (data_row before) → IsRow meta turn.row
    → data_row (record { turn = turn; answer = cond due (Some (Whole (next_place s before) turn.row)) (change_answer s before turn (differs (data_row before) turn.row)) } ∷ before) ≡ turn.row
other_row meta s true before turn is_old is_new = refl
other_row meta s false before turn is_old is_new = change_row meta s before turn (differs (data_row before) turn.row) is_old is_new refl

-- the row of the last data frame up to a turn is that of the turn
pub row_of_turn : (meta : MetaData) (s : Settings) (turn : WriterTurn) (deeds : List WriterDeed) → HasRowsOf meta (HadTurn turn ∷ deeds) → data_row (cadence s (HadTurn turn ∷ deeds)) ≡ turn.row
row_of_turn meta s turn [] rows = key_row s true [] turn refl
row_of_turn meta s turn (Refreshed ∷ before) rows = key_row s true (cadence s before) turn refl
row_of_turn meta s turn (HadTurn last ∷ before) rows =
    let earlier = cadence s (HadTurn last ∷ before) in
    other_row meta s (is_key_due s false earlier turn) earlier turn (data_row-fits meta s last before rows.1) rows.0

pub published-turn : (meta : MetaData) (s : Settings) (turn : WriterTurn) (deeds : List WriterDeed) → HasRowsOf meta (HadTurn turn ∷ deeds)
    → published (frames_of (cadence s (HadTurn turn ∷ deeds))) ≡ turn.row
published-turn meta s turn deeds rows = cadence-publishes meta s (HadTurn turn ∷ deeds) rows ∙ row_of_turn meta s turn deeds rows
