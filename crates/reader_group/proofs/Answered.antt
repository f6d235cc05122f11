-- What is kept for a reader after its answer to an item.
use Rattle.std.proofs.Common.{◌≡◌, refl, sym, ap, ◌∙◌, ℕ, Bool, true, false, not, ◌&&◌, ◌||◌, List, [], ◌∷◌, Option, Some, None}
use Rattle.std.specs.Prelude.{if◌then◌else◌}
use Rattle.pubsub_model.specs.declared.reading.Why.TheVariants.{Jump}
use Rattle.pubsub_model.specs.Frames.{is_silent}
use Rattle.pubsub_model.specs.Records.{Item, Arrival, Came, Cut, since_cut, counts, last_counting}
use Rattle.frame_codec.specs.Frames.{Frame}
use Rattle.dataset_reader.specs.declared.took.Numbering.TheVariants as numberings
use Rattle.dataset_reader.specs.declared.took.Outcome.{Outcome}
use Rattle.dataset_reader.specs.declared.took.Outcome.TheVariants as outcomes
use Rattle.dataset_reader.specs.Kept.{Kept}
use Rattle.dataset_reader.specs.Cases.{frame_case}
use Rattle.dataset_reader.specs.Keeping.{came_on, AreNear, IsMessageOf, Keeps, KeepsBy}
use Rattle.receive_timer.specs.Told.{Told, Seen, last_seen}
use Rattle.chunker.specs.Joins.{JoinsOver}
use Rattle.config_tables.specs.declared.words.NumberingWord.{NumberingWord}
use Rattle.config_tables.specs.declared.words.NumberingWord.TheVariants as words
use Rattle.reader_group.specs.Members.{MemberValue, noted, numbering_of}
use Rattle.reader_group.specs.Arrivals.{Mark, Arrived, is_numbered, arrivals_in, chunks_in, holds, is_late, is_ready}
use Rattle.reader_group.proofs.Counting.{is_counted, is_holding, Answers, behind_if}

-- ---- a reader by its numbering

pub record MemberAt (word : NumberingWord) (list : List Mark) (member : MemberValue) : Type 0 where
  pub keeps : KeepsBy (numbering_of word) (arrivals_in list) member.kept
  pub joins : JoinsOver (chunks_in list) member.joining
  pub seen : last_seen member.told ≡ last_counting (is_numbered word) (since_cut (arrivals_in list))
  pub late : member.late ≡ is_late (is_numbered word) (arrivals_in list)
  pub ready : member.ready ≡ is_ready (is_numbered word) (arrivals_in list)

-- what a reader of numbers keeps, of Records
pub record StepKeeps : Type 0 where
  pub frame : (major : ℕ) (arrivals : List Arrival) (kept : Kept) (item : Item) (message : Frame) → IsMessageOf major item.frame message → AreNear (came_on arrivals item) → Keeps arrivals kept
      → Keeps (came_on arrivals item) (frame_case numberings.Message major kept message item.stamp).0

-- what is kept of a message that was answered so
abbrev after_answer : MemberValue → ℕ → Outcome → MemberValue
after_answer m now o = record m {
  told = if is_counted o then Seen now ∷ m.told else m.told;
  late = not (is_counted o) && m.late;
  ready = is_holding o || m.ready;
}

pub noted-is : (m : MemberValue) (now : ℕ) (o : Outcome) → noted now o m ≡ after_answer m now o
noted-is m now outcomes.Held = refl
noted-is m now outcomes.Alive = refl
noted-is m now (outcomes.Waiting why) = refl
noted-is m now outcomes.Older = refl
noted-is m now (outcomes.WrongMajor got) = refl
noted-is m now outcomes.Unnumbered = refl

seen-if : (b : Bool) (now : ℕ) (told : List Told) → last_seen (if b then Seen now ∷ told else told) ≡ (if b then Some now else last_seen told)
seen-if true now told = refl
seen-if false now told = refl

abbrev pub marked_if : Bool → List Mark → Item → List Mark
marked_if j before item = if j then Arrived (Came item) ∷ Arrived (Cut Jump) ∷ before else Arrived (Came item) ∷ before

first-counts : (x : Item) → counts true [] x ≡ true
first-counts x = or_true (is_silent x.frame)
  where
    or_true : (b : Bool) → (b || true) ≡ true
    or_true true = refl
    or_true false = refl

-- what holds of the list after a reader's answer to its last item
pub member_answered : (j : Bool) (before : List Mark) (m : MemberValue) (item : Item) (kept : Kept) (o : Outcome) → Keeps (arrivals_in (marked_if j before item)) kept
    → Answers (behind_if j (arrivals_in before)) item o → MemberAt words.Message before m
    → MemberAt words.Message (marked_if j before item) (after_answer (record m { kept = kept }) item.moment o)
member_answered true before m item kept o keeps answers h =
    let one = answers.counted ∙ first-counts item in
    record {
      keeps = keeps;
      joins = h.joins;
      seen = seen-if (is_counted o) item.moment m.told ∙ ap (λ (b : Bool). if b then Some item.moment else last_seen m.told) one
          ∙ sym (ap (λ (b : Bool). if b then Some item.moment else None) (first-counts item));
      late = ap (λ (b : Bool). not b && m.late) one ∙ sym (ap (λ (b : Bool). not b && is_late true (arrivals_in before)) (first-counts item));
      ready = ap (λ (b : Bool). b || m.ready) answers.holding ∙ ap (λ (b : Bool). holds true item (Cut Jump ∷ arrivals_in before) || b) h.ready;
    }
member_answered false before m item kept o keeps answers h = record {
  keeps = keeps;
  joins = h.joins;
  seen = seen-if (is_counted o) item.moment m.told ∙ ap (λ (b : Bool). if b then Some item.moment else last_seen m.told) answers.counted
      ∙ ap (λ (t : Option ℕ). if counts true (since_cut (arrivals_in before)) item then Some item.moment else t) h.seen;
  late = ap (λ (b : Bool). not b && m.late) answers.counted ∙ ap (λ (b : Bool). not (counts true (since_cut (arrivals_in before)) item) && b) h.late;
  ready = ap (λ (b : Bool). b || m.ready) answers.holding ∙ ap (λ (b : Bool). holds true item (arrivals_in before) || b) h.ready;
}
