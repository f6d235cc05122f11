-- A thread's versions rise.
use Rattle.std.proofs.Common.{◌≡◌, ℕ, ◌+◌, ◌≤◌, Bool, true, false, eqb, cond, List, [], ◌∷◌, ◌++◌, length, refl, sym, ap, ◌∙◌, subst, arith}
use Rattle.std.proofs.lemmas.List.{append_cancel_left}
use Rattle.dataset_meta.specs.declared.field.Field.{Field}
use Rattle.row_words.specs.declared.patch.Patch.{Patch}
use Rattle.pubsub_model.specs.History.{places}
use Rattle.version_cell.specs.declared.rule.Entry.{Entry}
use Rattle.version_cell.specs.Histories.{opening_words, row_after}
use Rattle.version_cell.specs.Known.{Known}
use Rattle.app_threads.specs.Marks.{marks_from, marks_of, versions_of, authors, Rises}
use Rattle.app_threads.specs.Duties.{Worked}
use Rattle.app_threads.proofs.Marking.{marks_from-append}

Rises-lower : (n m : ℕ) (vs : List ℕ) → n ≤ m → Rises m vs → Rises n vs
Rises-lower n m [] le h = tt
Rises-lower n m (v ∷ vs) le h = ((let a = h.0 in omega arith), h.1)

places_rise : (t n : ℕ) (us : List ℕ) → Rises n (places t n us)
places_rise t n [] = tt
places_rise t n (u ∷ us) = go (eqb u t) (places_rise t (n + 1) us)
  where
    go : (b : Bool) → Rises (n + 1) (places t (n + 1) us) → Rises n (cond b ((n + 1) ∷ places t (n + 1) us) (places t (n + 1) us))
    go true h = (omega arith, h)
    go false h = Rises-lower n (n + 1) (places t (n + 1) us) (omega arith) h

-- where a thread's entries stand
pub marks-places : (t n : ℕ) (row : List ℕ) (log : List Entry) → versions_of (marks_from t n row log) ≡ places t n (authors log)
marks-places t n row [] = refl
marks-places t n row (e ∷ log) = go (eqb e.author t) (marks-places t (n + 1) e.row log)
  where
    go : (b : Bool) → versions_of (marks_from t (n + 1) e.row log) ≡ places t (n + 1) (authors log)
        → versions_of (cond b (record { version = n + 1; before = row; after = e.row } ∷ marks_from t (n + 1) e.row log) (marks_from t (n + 1) e.row log)) ≡ cond b ((n + 1) ∷ places t (n + 1) (authors log)) (places t (n + 1) (authors log))
    go true h = ap (λ (l : List ℕ). (n + 1) ∷ l) h
    go false h = h

pub worked_rises : (fields : List Field) (t : ℕ) (old new : Known) (vs : List ℕ) (ps : List Patch) → Worked fields t old new vs ps → Rises (length old.seen) vs
worked_rises fields t old new vs ps w =
    let rest = w.seen.0 in
    let all : marks_of t new.seen ≡ marks_of t old.seen ++ marks_from t (0 + length old.seen) (row_after old.seen) rest = ap (marks_of t) w.seen.1 ∙ marks_from-append t 0 opening_words old.seen rest in
    let same : w.made.marks ≡ marks_from t (0 + length old.seen) (row_after old.seen) rest = append_cancel_left (marks_of t old.seen) _ _ (sym w.made.more ∙ all) in
    let is : places t (0 + length old.seen) (authors rest) ≡ vs = sym (marks-places t (0 + length old.seen) (row_after old.seen) rest) ∙ ap versions_of (sym same) ∙ w.made.versions_are in
    let zero_plus : 0 + length old.seen ≡ length old.seen = omega arith in
    subst (λ (n : ℕ). Rises n vs) zero_plus (subst (Rises (0 + length old.seen)) is (places_rise t (0 + length old.seen) (authors rest)))
