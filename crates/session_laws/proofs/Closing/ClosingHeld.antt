-- A closing frame that came is held, and is of the newest version.
use Rattle.std.proofs.Common.{◌≡◌, refl, sym, ap, ◌∙◌, subst, arith, ℕ, ◌<◌, ◌⊎◌, inl, inr, List, [], ◌∷◌, Option, Some, All}
use Rattle.std.specs.Prelude.{◌%◌, option_map}
use Rattle.std.proofs.lemmas.List.Elements.{All-weaker}
use Rattle.dataset_meta.specs.DataValues.{DataValue}
use Rattle.dataset_meta.specs.Metas.{MetaData}
use Rattle.dataset_meta.specs.Rows.{row_cut}
use Rattle.seq_number.specs.Numbers.{number_of_place}
use Rattle.config_tables.specs.declared.words.NumberingWord.{NumberingWord}
use Rattle.config_tables.specs.declared.words.NumberingWord.TheVariants as words
use Rattle.pubsub_model.specs.Answers.{AreInSpan, InSpan, IsAnswer, IsAnswerCut}
use Rattle.pubsub_model.specs.Cadence.{Answered, Settings, WriterDeed, WriterTurn, cadence, is_fresh, next_place}
use Rattle.pubsub_model.specs.Frames.{PlacedFrame, Whole, Change, Alive, place_of, placed_cut}
use Rattle.pubsub_model.specs.Records.{Arrival, Held, Item, held_in, place_in, records, since_cut}
use Rattle.dataset_reader.specs.Keeping.{KeepsBy}
use Rattle.dataset_reader.specs.Kept.{Kept}
use Rattle.reader_group.specs.Members.{numbering_of}
use Rattle.reader_group.specs.Settings.{setting_of}
use Rattle.writer_group.specs.Parts.{group_at}
use Rattle.session_model.specs.Counts.{most_ticks}
use Rattle.session_model.specs.Deeds.{answered_at}
use Rattle.session_model.specs.Events.{reader_at}
use Rattle.session_model.specs.Steps.{Plan, Step}
use Rattle.session_laws.specs.Below.{WordLaws}
use Rattle.session_laws.specs.Headline.{ComesFrom, InSession, meta_of}
use Rattle.session_laws.specs.Newest.{ClosingCame, HoldsClosing}
use Rattle.session_laws.specs.Pasts.{settings_at}
use Rattle.session_laws.specs.Plays.{IsAnswerBy, ItemsAre}
use Rattle.session_laws.specs.Reading.{ReadsByRecords, arrivals_at, first_number_of}
use Rattle.session_laws.specs.Sessions.{AreVersions}
use Rattle.session_laws.proofs.Closing.ClosingVersions.{closes-with}
use Rattle.session_laws.proofs.Closing.LastItems.{IsLastOrEarlier, contained-reaches, held-last}
use Rattle.session_laws.proofs.HeldRows.Near.{items-since}
use Rattle.session_laws.proofs.Closing.Newest.{HoldsLaw, closing-answer, closing-logged, holds-logged}

-- ---- each frame but the closing one stands at an earlier place

place-cut : (meta : MetaData) (frame : PlacedFrame) → place_of (placed_cut meta frame) ≡ place_of frame
place-cut meta (Whole place row) = refl
place-cut meta (Change place patch) = refl
place-cut meta (Alive next) = refl

earlier-place : (first next : ℕ) (frame : PlacedFrame) → InSpan first next frame → place_of frame < next
earlier-place first next (Whole place row) is = is.1
earlier-place first next (Change place patch) is = is.1
earlier-place first next (Alive n) is = let above = is.0 in let below = is.1 in omega (arith, above, below)

some-frame : (x y : PlacedFrame) → Path (Option PlacedFrame) (Some x) (Some y) → x ≡ y
some-frame x y e = cc

-- a turn that was answered by a key frame at the next place, and the turns before it
last-or-earlier : (s : Settings) (meta : MetaData) (turn : WriterTurn) (earlier : List Answered) (item : Item) → AreInSpan s earlier
    → IsAnswerCut meta (record { turn = turn; answer = Some (Whole (next_place s earlier) turn.row) } ∷ earlier) item
    → IsLastOrEarlier (next_place s earlier) (row_cut meta turn.row) item
last-or-earlier s meta turn earlier item spans is = go is.answer
  where
    go : (Path (Option PlacedFrame) (Some (Whole (next_place s earlier) turn.row)) (Some is.frame)) ⊎ IsAnswer earlier is.frame
        → IsLastOrEarlier (next_place s earlier) (row_cut meta turn.row) item
    go (inl same) = inl (is.cut ∙ ap (placed_cut meta) (sym (some-frame (Whole (next_place s earlier) turn.row) is.frame same)))
    go (inr more) =
        let lt : place_of is.frame < next_place s earlier = earlier-place s.first_number (next_place s earlier) is.frame (spans is.frame more) in
        let same : place_in item ≡ place_of is.frame = ap place_of is.cut ∙ place-cut meta is.frame in
        inr (omega (arith, lt, same))

-- ---- the closing frame

abbrev pub SpansLaw : Type 0
SpansLaw = (s : Settings) (deeds : List WriterDeed) → AreInSpan s (cadence s deeds)

abbrev pub ComesLaw : Type 0
ComesLaw = (p : Plan) (r i g w : ℕ) (steps : List Step) → InSession p r i g w steps → ComesFrom p r i g w steps

abbrev pub ReadsLaw : Type 0
ReadsLaw = (p : Plan) (r i g w : ℕ) (steps : List Step) → InSession p r i g w steps → ReadsByRecords p.config r i (first_number_of p.config g w) steps

module _ (p : Plan) (r i g w : ℕ) (steps : List Step) (before : List WriterDeed) (turn : WriterTurn) (spans : SpansLaw) (comes : ComesLaw) (is : InSession p r i g w steps)
    (c : ClosingCame p r i g w steps before turn) where
  abbrev s : Settings
  s = settings_at (group_at p.config g) w

  abbrev place : ℕ
  place = next_place s (cadence s before)

  abbrev list : List Arrival
  list = arrivals_at p.config r i (first_number_of p.config g w) steps

  answered-is : answered_at p g w steps ≡ record { turn = turn; answer = Some (Whole place turn.row) } ∷ cadence s before
  answered-is =
      ap (cadence s) c.last
      ∙ ap (λ (o : Option PlacedFrame). record { turn = turn; answer = o } ∷ cadence s before) (closing-answer s (is_fresh before) (cadence s before) turn c.closing)

  items : All (IsLastOrEarlier place (row_cut (meta_of p r i) turn.row)) (since_cut list)
  items =
      let answered : List Answered = record { turn = turn; answer = Some (Whole place turn.row) } ∷ cadence s before in
      let by : ItemsAre (IsAnswerBy words.Message (meta_of p r i) (answered_at p g w steps)) list =
      subst (λ (word : NumberingWord). ItemsAre (IsAnswerBy word (meta_of p r i) (answered_at p g w steps)) list) c.numbered (comes p r i g w steps is) in
      let cut : ItemsAre (IsAnswerCut (meta_of p r i) answered) list = subst (λ (a : List Answered). ItemsAre (IsAnswerCut (meta_of p r i) a) list) answered-is by in
      All-weaker (IsAnswerCut (meta_of p r i) answered) (IsLastOrEarlier place (row_cut (meta_of p r i) turn.row))
      (λ item one. last-or-earlier s (meta_of p r i) turn (cadence s before) item (spans s before) one) (since_cut list)
      (items-since (IsAnswerCut (meta_of p r i) answered) list cut)

  pub held-is : held_in (records (since_cut list)) ≡ Some (record { place = place; row = row_cut (meta_of p r i) turn.row })
  held-is =
      held-last place (row_cut (meta_of p r i) turn.row) (since_cut list) items (contained-reaches place (since_cut list) c.came.item c.came.came c.came.stands)

pub closing-held : WordLaws → SpansLaw → ComesLaw → ReadsLaw → HoldsLaw → (p : Plan) (r i g w : ℕ) (steps : List Step) (rows : ℕ → ℕ → List DataValue) (before : List WriterDeed) (turn : WriterTurn)
    → InSession p r i g w steps → AreVersions p steps rows → ClosingCame p r i g w steps before turn → HoldsClosing p r i g w steps rows turn.version
closing-held rows_law spans comes reads holds p r i g w steps rows before turn is versions c =
    let setting = setting_of p.config r in
    let kept : Kept = (reader_at p.config r i steps).kept in
    let list = arrivals_at p.config r i (first_number_of p.config g w) steps in
    let keeps : KeepsBy (numbering_of words.Message) list kept =
    subst (λ (word : NumberingWord). KeepsBy (numbering_of word) list kept) c.numbered (reads p r i g w steps is).keeps in
    let s = settings_at (group_at p.config g) w in
    let place = next_place s (cadence s before) in
    let held-row = held-is p r i g w steps before turn spans comes is c in
    let row : kept.row ≡ Some (row_cut (meta_of p r i) turn.row) = keeps.over.row ∙ ap (λ (o : Option Held). option_map (λ (h : Held). h.row) o) held-row in
    let number : kept.number ≡ Some (place % 65536) = keeps.over.number ∙ ap (λ (o : Option Held). option_map (λ (h : Held). number_of_place h.place) o) held-row in
    record {
      newest = holds-logged holds p r i g w steps rows (row_cut (meta_of p r i) turn.row) place turn.version is versions row number (closing-logged p g w steps before turn c.last c.closing);
      sampled = closes-with most_ticks rows_law p g w steps [] before turn is.plan is.steps_are is.there is.matched.reads.within c.last c.closing;
    }
