-- What a reader with no numbering holds: the row of the last key frame that came since its last cut.
use Rattle.std.proofs.Common.{◌≡◌, refl, ap, ◌∙◌, subst, Bool, inl, inr, List, [], ◌∷◌, ◌++◌, map, ℕ, Option, Some, All}
use Rattle.std.specs.Prelude.{find, if◌then◌else◌}
use Rattle.std.proofs.lemmas.List.Elements.{All-head, All-tail}
use Rattle.dataset_meta.specs.DataValues.{DataValue}
use Rattle.dataset_meta.specs.Rows.{row_cut}
use Rattle.config_tables.specs.declared.words.NumberingWord.{NumberingWord}
use Rattle.config_tables.specs.declared.words.NumberingWord.TheVariants as words
use Rattle.pubsub_model.specs.Cadence.{WriterDeed, WriterTurn}
use Rattle.pubsub_model.specs.Frames.{PlacedFrame, Whole, is_whole, published}
use Rattle.pubsub_model.specs.Records.{Arrival, Came, Item, row_alone, since_cut}
use Rattle.dataset_reader.specs.Keeping.{KeepsBy}
use Rattle.reader_group.specs.Members.{numbering_of}
use Rattle.session_model.specs.Counts.{most_ticks}
use Rattle.session_model.specs.Events.{reader_at}
use Rattle.session_model.specs.Steps.{Plan, Step}
use Rattle.session_laws.specs.Bare.{ClosingCameLast, IsNoOtherKey}
use Rattle.session_laws.specs.Headline.{InSession, meta_of}
use Rattle.session_laws.specs.Newest.{HoldsClosingRow}
use Rattle.session_laws.specs.Reading.{arrivals_at, first_number_of}
use Rattle.session_laws.specs.Sessions.{AreVersions}
use Rattle.session_laws.proofs.Closing.ClosingVersions.{closes-with}
use Rattle.session_laws.proofs.Closing.ClosingHeld.{ReadsLaw}
use Rattle.session_laws.proofs.HeldRows.Published.{Laws, turn-published}

abbrev row_in : List Item → Option (List DataValue)
row_in items = row_alone (find (λ item. is_whole item.frame) items)

key-first : (row : List DataValue) (item : Item) (before : List Item) → item.frame ≡ Whole 0 row → row_in (item ∷ before) ≡ Some row
key-first row item before is =
    ap (λ (b : Bool). row_alone (if b then Some item else find (λ (i : Item). is_whole i.frame) before)) (ap is_whole is) ∙ ap (λ (f : PlacedFrame). Some (published (f ∷ []))) is

key-last : (row : List DataValue) (later : List Item) (item : Item) (before : List Item) → item.frame ≡ Whole 0 row → All (IsNoOtherKey row) later → row_in (later ++ item ∷ before) ≡ Some row
key-last row [] item before is behind = key-first row item before is
key-last row (one ∷ later) item before is behind = on (key-last row later item before is (All-tail (IsNoOtherKey row) one later behind)) (All-head (IsNoOtherKey row) one later behind)
  where
    on : row_in (later ++ item ∷ before) ≡ Some row → IsNoOtherKey row one → row_in (one ∷ later ++ item ∷ before) ≡ Some row
    on rest (inl none) = ap (λ (b : Bool). row_alone (if b then Some one else find (λ (i : Item). is_whole i.frame) (later ++ item ∷ before))) none ∙ rest
    on rest (inr same) = key-first row one (later ++ item ∷ before) same

pub since-more : (items : List Item) (old : List Arrival) → since_cut (map Came items ++ old) ≡ items ++ since_cut old
since-more [] old = refl
since-more (item ∷ items) old = ap (λ (l : List Item). item ∷ l) (since-more items old)

-- so it holds the row of the closing turn's version
pub bare-held : Laws → ReadsLaw → (p : Plan) (r i g w : ℕ) (steps : List Step) (rows : ℕ → ℕ → List DataValue) (before : List WriterDeed) (turn : WriterTurn) → InSession p r i g w steps → AreVersions p steps rows
    → ClosingCameLast p r i g w steps before turn → HoldsClosingRow p r i g w steps rows turn.version
bare-held laws reads p r i g w steps rows before turn is versions c =
    let kept = (reader_at p.config r i steps).kept in
    let list = arrivals_at p.config r i (first_number_of p.config g w) steps in
    let keeps : KeepsBy (numbering_of words.None) list kept = subst (λ (word : NumberingWord). KeepsBy (numbering_of word) list kept) c.bare (reads p r i g w steps is).keeps in
    let row = row_cut (meta_of p r i) turn.row in
    record {
      row = keeps.row ∙ ap row_in c.came.since ∙ key-last row c.came.later c.came.item c.came.earlier c.came.frame_is c.came.behind
          ∙ ap (λ (l : List DataValue). Some l) (turn-published laws p r i g w steps rows before turn is versions c.last);
      sampled = closes-with most_ticks laws.words p g w steps [] before turn is.plan is.steps_are is.there is.matched.reads.within c.last c.closing;
    }
