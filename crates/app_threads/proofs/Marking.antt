-- A thread's marks where the history goes on.
use Rattle.std.proofs.Common.{◌≡◌, ℕ, suc, ◌+◌, Bool, true, false, eqb, cond, List, [], ◌∷◌, ◌++◌, length, refl, sym, ap, ◌∙◌, arith, length-append, append_assoc, eq-eqb}
use Rattle.std.proofs.lemmas.List.{append-nil, map-append, nil_from_length}
use Rattle.dataset_meta.specs.declared.field.Field.{Field}
use Rattle.row_words.specs.declared.patch.Patch.{Patch}
use Rattle.row_words.specs.Patches.{patched_words}
use Rattle.version_cell.specs.declared.rule.Entry.{Entry}
use Rattle.version_cell.specs.Histories.{StartsWith, entry, last_words, opening_words, own, row_after}
use Rattle.version_cell.proofs.Logs.{own-append}
use Rattle.app_threads.specs.Marks.{Mark, marks_from, marks_of, AreLaid, Made}

pub marks_from-append : (t n : ℕ) (row : List ℕ) (xs ys : List Entry) → marks_from t n row (xs ++ ys) ≡ marks_from t n row xs ++ marks_from t (n + length xs) (last_words row xs) ys
marks_from-append t n row [] ys = ap (λ (k : ℕ). marks_from t k row ys) (omega arith)
marks_from-append t n row (e ∷ xs) ys = go (eqb e.author t) (marks_from-append t (n + 1) e.row xs ys ∙ ap (λ (k : ℕ). marks_from t (n + 1) e.row xs ++ marks_from t k (last_words e.row xs) ys) (omega arith))
  where
    go : (b : Bool) → marks_from t (n + 1) e.row (xs ++ ys) ≡ marks_from t (n + 1) e.row xs ++ marks_from t (n + length (e ∷ xs)) (last_words e.row xs) ys
        → cond b (record { version = n + 1; before = row; after = e.row } ∷ marks_from t (n + 1) e.row (xs ++ ys)) (marks_from t (n + 1) e.row (xs ++ ys))
        ≡ cond b (record { version = n + 1; before = row; after = e.row } ∷ marks_from t (n + 1) e.row xs) (marks_from t (n + 1) e.row xs) ++ marks_from t (n + length (e ∷ xs)) (last_words e.row xs) ys
    go true h = ap (λ (l : List Mark). record { version = n + 1; before = row; after = e.row } ∷ l) h
    go false h = h

pub length-marks : (t n : ℕ) (row : List ℕ) (log : List Entry) → length (marks_from t n row log) ≡ length (own t log)
length-marks t n row [] = refl
length-marks t n row (e ∷ log) = go (eqb e.author t) (length-marks t (n + 1) e.row log)
  where
    go : (b : Bool) → length (marks_from t (n + 1) e.row log) ≡ length (own t log) → length (cond b (record { version = n + 1; before = row; after = e.row } ∷ marks_from t (n + 1) e.row log) (marks_from t (n + 1) e.row log)) ≡ length (cond b (e ∷ own t log) (own t log))
    go true h = ap suc h
    go false h = h

-- where the history goes on without the thread, its marks stay
pub marks_same : (t : ℕ) (old new : List Entry) → StartsWith new old → own t new ≡ own t old → marks_of t new ≡ marks_of t old
marks_same t old new p e =
    let all = ap (own t) p.1 ∙ own-append t old p.0 in
    let none : length (own t p.0) ≡ 0 = omega (arith, ap length all, ap length e, length-append (own t old) (own t p.0)) in
    let n : length (marks_from t (0 + length old) (row_after old) p.0) ≡ 0 = length-marks t (0 + length old) (row_after old) p.0 ∙ none in
    ap (marks_of t) p.1 ∙ marks_from-append t 0 opening_words old p.0 ∙ ap (λ (l : List Mark). marks_of t old ++ l) (nil_from_length _ n) ∙ append-nil (marks_of t old)

-- one more entry of the thread
pub marks_push : (t : ℕ) (log : List Entry) (row : List ℕ) → marks_of t (log ++ entry t row ∷ []) ≡ marks_of t log ++ record { version = length log + 1; before = row_after log; after = row } ∷ []
marks_push t log row =
    marks_from-append t 0 opening_words log (entry t row ∷ [])
    ∙ ap (λ (b : Bool). marks_of t log ++ cond b (record { version = 0 + length log + 1; before = row_after log; after = row } ∷ []) []) (eq-eqb t t refl)
    ∙ ap (λ (k : ℕ). marks_of t log ++ record { version = k + 1; before = row_after log; after = row } ∷ []) (omega arith)

module _ (fields : List Field) where
  pub AreLaid-push : (ms : List Mark) (ps : List Patch) (m : Mark) (p : Patch) → m.after ≡ patched_words fields p m.before → AreLaid fields ms ps → AreLaid fields (ms ++ m ∷ []) (ps ++ p ∷ [])
  AreLaid-push [] [] m p e h = (e, tt)
  AreLaid-push [] (q ∷ ps) m p e h = absurd h
  AreLaid-push (x ∷ ms) [] m p e h = absurd h
  AreLaid-push (x ∷ ms) (q ∷ ps) m p e h = (h.0, AreLaid-push ms ps m p e h.1)

  pub AreLaid-length : (ms : List Mark) (ps : List Patch) → AreLaid fields ms ps → length ms ≡ length ps
  AreLaid-length [] [] h = refl
  AreLaid-length [] (q ∷ ps) h = absurd h
  AreLaid-length (x ∷ ms) [] h = absurd h
  AreLaid-length (x ∷ ms) (q ∷ ps) h = ap suc (AreLaid-length ms ps h.1)

  -- nothing was made yet
  pub Made-none : (t : ℕ) (log : List Entry) → Made fields t log log [] []
  Made-none t log = record { marks = []; more = sym (append-nil (marks_of t log)); versions_are = refl; laid = tt }

  -- others went on
  pub Made-seen : (t : ℕ) (old new later : List Entry) (vs : List ℕ) (ps : List Patch) → StartsWith later new → own t later ≡ own t new → Made fields t old new vs ps → Made fields t old later vs ps
  Made-seen t old new later vs ps p e d = record { marks = d.marks; more = marks_same t new later p e ∙ d.more; versions_are = d.versions_are; laid = d.laid }

  -- the thread made an entry
  pub Made-push : (t : ℕ) (old new : List Entry) (vs : List ℕ) (ps : List Patch) (p : Patch) → Made fields t old new vs ps
      → Made fields t old (new ++ entry t (patched_words fields p (row_after new)) ∷ []) (vs ++ (length new + 1) ∷ []) (ps ++ p ∷ [])
  Made-push t old new vs ps p d =
      let m : Mark = record { version = length new + 1; before = row_after new; after = patched_words fields p (row_after new) } in
      record {
        marks = d.marks ++ m ∷ [];
        more = marks_push t new (patched_words fields p (row_after new)) ∙ ap (λ (l : List Mark). l ++ m ∷ []) d.more ∙ append_assoc (marks_of t old) d.marks (m ∷ []);
        versions_are = map-append (λ (k : Mark). k.version) d.marks (m ∷ []) ∙ ap (λ (l : List ℕ). l ++ (length new + 1) ∷ []) d.versions_are;
        laid = AreLaid-push d.marks ps m p refl d.laid;
      }

  -- so many entries of the thread
  pub Made-count : (t : ℕ) (old new : List Entry) (vs : List ℕ) (ps : List Patch) → Made fields t old new vs ps → length (own t new) ≡ length (own t old) + length ps
  Made-count t old new vs ps d =
      let a = length-marks t 0 opening_words new in
      let b = length-marks t 0 opening_words old in
      let c = AreLaid-length d.marks ps d.laid in
      omega (arith, a, b, c, ap length d.more, length-append (marks_of t old) d.marks)
