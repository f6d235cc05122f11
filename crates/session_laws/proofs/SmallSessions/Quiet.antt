-- Where a writer had one turn alone, the only key frame that can come to its readers is that turn's.
use Rattle.std.proofs.Common.{◌≡◌, refl, sym, ap, ◌∙◌, subst, ℕ, Bool, true, false, inl, inr, List, [], ◌∷◌, ◌++◌, All, Option, Some}
use Rattle.std.specs.Prelude.{find, if◌then◌else◌}
use Rattle.std.proofs.lemmas.List.Elements.{All-cons, All-head, All-nil, All-tail}
use Rattle.dataset_meta.specs.DataValues.{DataValue}
use Rattle.dataset_meta.specs.Metas.{MetaData}
use Rattle.dataset_meta.specs.Rows.{row_cut}
use Rattle.pubsub_model.specs.Answers.{IsAnswer, IsBareAnswer, without_place}
use Rattle.pubsub_model.specs.Cadence.{Answered, HadTurn, Settings, WriterDeed, WriterTurn, cadence, next_place}
use Rattle.pubsub_model.specs.Frames.{PlacedFrame, Whole, Change, Alive, is_whole, placed_cut}
use Rattle.pubsub_model.specs.Records.{Arrival, Came, Cut, Item, row_alone, since_cut}
use Rattle.dataset_reader.specs.Keeping.{KeepsBy}
use Rattle.dataset_writer.specs.Turns.{model_settings}
use Rattle.config_tables.specs.declared.words.NumberingWord.{NumberingWord}
use Rattle.config_tables.specs.declared.words.NumberingWord.TheVariants as words
use Rattle.reader_group.specs.Members.{numbering_of}
use Rattle.writer_group.specs.Parts.{group_at}
use Rattle.writer_group.specs.Payloads.{writer_at}
use Rattle.writer_group.specs.Turns.{settings_of}
use Rattle.session_model.specs.Deeds.{answered_at, writer_deeds}
use Rattle.session_model.specs.Events.{reader_at}
use Rattle.session_model.specs.Steps.{Plan, Step}
use Rattle.session_laws.specs.Bare.{CameLast, ClosingCameLast, IsBare, IsNoOtherKey, NoOtherKeys}
use Rattle.session_laws.specs.Headline.{InSession, meta_of}
use Rattle.session_laws.specs.Plays.{IsAnswerBy, ItemsAre}
use Rattle.session_laws.specs.Reading.{arrivals_at, first_number_of}
use Rattle.session_laws.proofs.Closing.ClosingHeld.{ComesLaw, ReadsLaw}
use Rattle.session_laws.proofs.HeldRows.Near.{items-since}

-- each key frame among the answers has this row
abbrev pub HasOneRow : List DataValue → List Answered → Type 0
HasOneRow row answered = (place : ℕ) (other : List DataValue) → IsAnswer answered (Whole place other) → other ≡ row

no-other : (meta : MetaData) (row : List DataValue) (answered : List Answered) (item : Item) → HasOneRow row answered → IsBareAnswer meta answered item → IsNoOtherKey (row_cut meta row) item
no-other meta row answered item one is = on is.frame is.answer is.bare
  where
    on : (frame : PlacedFrame) → IsAnswer answered frame → without_place (placed_cut meta frame) ≡ Some item.frame → IsNoOtherKey (row_cut meta row) item
    on (Whole place other) answer bare =
        let whole : Whole 0 (row_cut meta other) ≡ item.frame = cc in
        inr (sym whole ∙ ap (λ (r : List DataValue). Whole 0 (row_cut meta r)) (one place other answer))
    on (Change place patch) answer bare = absurd (cc)
    on (Alive next) answer bare = let alive : Alive 1 ≡ item.frame = cc in inl (ap is_whole (sym alive))

items-other : (meta : MetaData) (row : List DataValue) (answered : List Answered) → HasOneRow row answered → (list : List Arrival) → ItemsAre (IsBareAnswer meta answered) list → ItemsAre (IsNoOtherKey (row_cut meta row)) list
items-other meta row answered one [] are = tt
items-other meta row answered one (Came item ∷ before) are = (no-other meta row answered item one are.0, items-other meta row answered one before are.1)
items-other meta row answered one (Cut why ∷ before) are = items-other meta row answered one before are

none-other : (row : List DataValue) (newer rest : List Arrival) → ItemsAre (IsNoOtherKey row) (newer ++ rest) → NoOtherKeys row newer
none-other row [] rest are = tt
none-other row (Came item ∷ newer) rest are = (are.0, none-other row newer rest are.1)
none-other row (Cut why ∷ newer) rest are = none-other row newer rest are

-- a key frame with this row is among the items, and no other one behind it
record HasKey (row : List DataValue) (items : List Item) : Type 0 where
  pub later : List Item
  pub item : Item
  pub earlier : List Item
  pub is : items ≡ later ++ item ∷ earlier
  pub frame_is : item.frame ≡ Whole 0 row
  pub behind : All (IsNoOtherKey row) later

-- a key frame that came since the last cut is of this row
key-among : (row : List DataValue) (items : List Item) (held : List DataValue) → All (IsNoOtherKey row) items → row_alone (find (λ (item : Item). is_whole item.frame) items) ≡ Some held → HasKey row items
key-among row [] held are e = absurd (cc)
key-among row (item ∷ items) held are e = on (is_whole item.frame) refl e (All-head (IsNoOtherKey row) item items are) (key-among row items held (All-tail (IsNoOtherKey row) item items are))
  where
    on : (b : Bool) → is_whole item.frame ≡ b → row_alone (if b then Some item else find (λ (i : Item). is_whole i.frame) items) ≡ Some held → IsNoOtherKey row item
        → (row_alone (find (λ (i : Item). is_whole i.frame) items) ≡ Some held → HasKey row items) → HasKey row (item ∷ items)
    on true test e (inl none) rest = absurd (let wrong : true ≡ false = sym test ∙ none in cc)
    on true test e (inr same) rest = record { later = []; item = item; earlier = items; is = refl; frame_is = same; behind = All-nil (IsNoOtherKey row) }
    on false test e head rest =
        let found = rest e in
        record { later = item ∷ found.later; item = found.item; earlier = found.earlier; is = ap (λ (l : List Item). item ∷ l) found.is; frame_is = found.frame_is; behind = All-cons (IsNoOtherKey row) item found.later head found.behind }

key-came : (row : List DataValue) (list : List Arrival) (held : List DataValue) → All (IsNoOtherKey row) (since_cut list) → row_alone (find (λ (item : Item). is_whole item.frame) (since_cut list)) ≡ Some held → CameLast list row
key-came row list held are e =
    let key = key-among row (since_cut list) held are e in
    record { later = key.later; item = key.item; earlier = key.earlier; since = key.is; frame_is = key.frame_is; behind = key.behind }

-- the first turn is answered by a key frame
first-row : (s : Settings) (own : WriterTurn) → HasOneRow own.row (cadence s (HadTurn own ∷ []))
first-row s own place other (inl is) = same is
  where
    same : Path (Option PlacedFrame) (Some (Whole (next_place s []) own.row)) (Some (Whole place other)) → other ≡ own.row
    same e = cc
first-row s own place other (inr none) = absurd none

-- what came to a reader with no numbering
module _ (comes : ComesLaw) (p : Plan) (r i g w : ℕ) (steps : List Step) (own : WriterTurn) (is : InSession p r i g w steps) (bare : IsBare p r i) (only : writer_deeds p g w steps ≡ HadTurn own ∷ []) where
  abbrev meta : MetaData
  meta = meta_of p r i

  abbrev row : List DataValue
  row = row_cut meta own.row

  abbrev list : List Arrival
  list = arrivals_at p.config r i (first_number_of p.config g w) steps

  all-own : ItemsAre (IsNoOtherKey row) list
  all-own =
      let s = model_settings (settings_of (writer_at (group_at p.config g) w)) in
      let answered = answered_at p g w steps in
      let by : ItemsAre (IsBareAnswer meta answered) list = subst (λ (word : NumberingWord). ItemsAre (IsAnswerBy word meta answered) list) bare (comes p r i g w steps is) in
      let one : HasOneRow own.row answered = subst (λ (past : List WriterDeed). HasOneRow own.row (cadence s past)) (sym only) (first-row s own) in
      items-other meta own.row answered one list by

  -- behind no moment another key frame came
  pub quiet : (newer rest : List Arrival) → list ≡ newer ++ rest → NoOtherKeys row newer
  quiet newer rest split = none-other row newer rest (subst (λ (l : List Arrival). ItemsAre (IsNoOtherKey row) l) split all-own)

  -- and where the reader holds a row, the turn's key frame came
  pub came-last : ReadsLaw → own.closing ≡ true → (held : List DataValue) → (reader_at p.config r i steps).kept.row ≡ Some held → ClosingCameLast p r i g w steps [] own
  came-last reads closing held e =
      let kept = (reader_at p.config r i steps).kept in
      let keeps : KeepsBy (numbering_of words.None) list kept = subst (λ (word : NumberingWord). KeepsBy (numbering_of word) list kept) bare (reads p r i g w steps is).keeps in
      let some : row_alone (find (λ (item : Item). is_whole item.frame) (since_cut list)) ≡ Some held = sym keeps.row ∙ e in
      record { bare = bare; last = only; closing = closing; came = key-came row list held (items-since (IsNoOtherKey row) list all-own) some }
