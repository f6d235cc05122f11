-- What a reader with numbering `none` has of a writer's answers.
use Rattle.std.proofs.Common.{◌≡◌, refl, sym, ap, ◌∙◌, ℕ, Bool, true, false, cond, List, [], ◌∷◌, Some, All}
use Rattle.std.specs.Prelude.{find}
use Rattle.std.proofs.lemmas.List.Elements.{All-head, All-tail}
use Rattle.dataset_meta.specs.DataValues.{DataValue}
use Rattle.dataset_meta.specs.Metas.{MetaData}
use Rattle.dataset_meta.specs.Rows.{row_cut}
use Rattle.pubsub_model.specs.Frames.{PlacedFrame, Whole, Change, Alive, is_whole, published}
use Rattle.pubsub_model.specs.Cadence.{Settings, WriterTurn, WriterDeed, Answered, HasRowsOf, cadence}
use Rattle.pubsub_model.specs.Records.{Item, Arrival, since_cut, row_alone, unnumbered_row}
use Rattle.pubsub_model.specs.Frames.{placed_cut}
use Rattle.pubsub_model.specs.Answers.{IsAnswer, IsBareAnswer, IsSomeRowSent, without_place}
use Rattle.pubsub_model.proofs.AnswerPlaces.{answers-span}
use Rattle.pubsub_model.proofs.AnswerRows.{answers-faithful, sent-at}

-- a key frame that comes so is one that was answered
pub record IsKeyOf (short : MetaData) (answered : List Answered) (row : List DataValue) : Type 0 where
  pub place : ℕ
  pub full : List DataValue
  pub answer : IsAnswer answered (Whole place full)
  pub cut : row ≡ row_cut short full

bare-key : (short : MetaData) (answered : List Answered) (f frame : PlacedFrame) (row : List DataValue) → IsAnswer answered f → without_place (placed_cut short f) ≡ Some frame → is_whole frame ≡ true
    → published (frame ∷ []) ≡ row → IsKeyOf short answered row
bare-key short answered (Whole p full) (Whole place r) row is e whole same =
    let rows : Whole 0 (row_cut short full) ≡ Whole place r = cc in
    let cut : row_cut short full ≡ r = ap (λ (f : PlacedFrame). published (f ∷ [])) rows in
    record { place = p; full = full; answer = is; cut = sym same ∙ sym cut }
bare-key short answered (Whole p full) (Change place patch) row is e whole same = absurd (cc)
bare-key short answered (Whole p full) (Alive next) row is e whole same = absurd (cc)
bare-key short answered (Change p patch) frame row is e whole same = absurd (cc)
bare-key short answered (Alive n) (Whole place r) row is e whole same = absurd (let wrong : Alive 1 ≡ Whole place r = cc in cc)
bare-key short answered (Alive n) (Change place patch) row is e whole same = absurd (cc)
bare-key short answered (Alive n) (Alive next) row is e whole same = absurd (cc)

abbrev is_key_item : Item → Bool
is_key_item item = is_whole item.frame

found-bare : (short : MetaData) (answered : List Answered) (items : List Item) (row : List DataValue) → All (IsBareAnswer short answered) items → row_alone (find is_key_item items) ≡ Some row → IsKeyOf short answered row
found-bare short answered [] row are e = absurd (cc)
found-bare short answered (item ∷ items) row are e =
    found-if (is_whole item.frame) refl e (found-bare short answered items row (All-tail (IsBareAnswer short answered) item items are))
  where
    head : IsBareAnswer short answered item
    head = All-head (IsBareAnswer short answered) item items are

    found-if : (b : Bool) → is_whole item.frame ≡ b → row_alone (cond b (Some item) (find is_key_item items)) ≡ Some row → (row_alone (find is_key_item items) ≡ Some row → IsKeyOf short answered row) → IsKeyOf short answered row
    found-if true is e rest = let same : published (item.frame ∷ []) ≡ row = cc in bare-key short answered head.frame item.frame row head.answer head.bare is same
    found-if false is e rest = rest e

-- THE LAW, with no numbering
pub bare-sent : (meta short : MetaData) (s : Settings) (deeds : List WriterDeed) (arrivals : List Arrival) (row : List DataValue) → HasRowsOf meta deeds → All (IsBareAnswer short (cadence s deeds)) (since_cut arrivals)
    → unnumbered_row arrivals ≡ Some row → IsSomeRowSent short (cadence s deeds) row
bare-sent meta short s deeds arrivals row rows are e =
    let answered = cadence s deeds in
    let key = found-bare short answered (since_cut arrivals) row are e in
    let span = answers-span s deeds (Whole key.place key.full) key.answer in
    let at = sent-at s deeds key.place span.0 span.1 in
    let full : key.full ≡ at.turn.turn.row = answers-faithful meta s deeds (Whole key.place key.full) rows key.answer ∙ ap (λ (t : WriterTurn). t.row) at.is in
    record { place = key.place; sent = record { turn = at.turn; one_of = at.one_of; place = at.at; row = key.cut ∙ ap (row_cut short) full } }
