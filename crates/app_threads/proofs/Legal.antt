-- A history in which each thread's entries are its patches is the one that the threads of its entries make with them.
use Rattle.std.proofs.Common.{◌≡◌, ◌≢◌, ℕ, zero, suc, ◌+◌, ◌<◌, ◌≤◌, Bool, true, false, eqb, cond, List, [], ◌∷◌, ◌++◌, length, map, drop, get_or, refl, sym, ap, ◌∙◌, subst, arith, append_assoc, eq-eqb, ne_eqb}
use Rattle.std.specs.Prelude.{All, reverse}
use Rattle.std.proofs.lemmas.List.{append-nil, length-map, get_or_past, reverse-append, reverse-reverse}
use Rattle.std.proofs.lemmas.List.Elements.{All-tail, All-head}
use native.Mathlib.Decide.{ℕ_discrete, dec_le}
use Rattle.dataset_meta.specs.declared.field.Field.{Field}
use Rattle.dataset_meta.specs.DataValues.{DataValue}
use Rattle.dataset_meta.specs.Metas.{MetaData, IsMeta}
use Rattle.dataset_meta.specs.Rows.{patched, opening_row}
use Rattle.row_words.specs.declared.patch.Patch.{Patch}
use Rattle.row_words.specs.Belonging.{Belongs, row_in}
use Rattle.row_words.specs.Patches.{IsPatchOf, patch_in, patched_words}
use Rattle.pubsub_model.specs.History.{IsLegal, times_of, no_patch, patch_at, last_row, legal_rows, legal_entries, legal_history}
use Rattle.pubsub_model.proofs.HistoryLaws.{times_of-cons}
use Rattle.version_cell.specs.declared.rule.Entry.{Entry}
use Rattle.version_cell.specs.Histories.{own, opening_words, history_of}
use Rattle.version_cell.specs.Terms.{IsEntry}
use Rattle.version_cell.specs.Known.{Known}
use Rattle.version_cell.specs.Cells.{CellData}
use Rattle.version_cell.proofs.Each.{next_left}
use Rattle.app_threads.specs.Marks.{Mark, marks_from, marks_of, AreLaid, authors}
use Rattle.app_threads.specs.Closing.{meanings, threads_of, IsClosed}
use Rattle.app_threads.proofs.Marking.{length-marks, AreLaid-length}

-- the second list behind the first, which is turned round
reverse-cons : {A : Type 0} (x : A) (xs : List A) → reverse (x ∷ xs) ≡ reverse xs ++ x ∷ []
reverse-cons x xs = reverse-append (x ∷ []) xs

abbrev onto : {A : Type 0} → List A → List A → List A
onto [] ys = ys
onto (x ∷ xs) ys = onto xs (x ∷ ys)

onto-reverse : {A : Type 0} (xs ys : List A) → onto xs ys ≡ reverse xs ++ ys
onto-reverse [] ys = refl
onto-reverse {A} (x ∷ xs) ys = onto-reverse xs (x ∷ ys) ∙ sym (append_assoc (reverse xs) (x ∷ []) ys) ∙ ap (λ (l : List A). l ++ ys) (sym (reverse-cons x xs))

pub onto-nil : {A : Type 0} (xs : List A) → onto xs [] ≡ reverse xs
onto-nil xs = onto-reverse xs [] ∙ append-nil (reverse xs)

times_of-onto : (t : ℕ) (xs ys : List ℕ) → times_of t (onto xs ys) ≡ times_of t xs + times_of t ys
times_of-onto t [] ys = omega arith
times_of-onto t (x ∷ xs) ys = let a = times_of-onto t xs (x ∷ ys) in let b = times_of-cons t x ys in let c = times_of-cons t x xs in omega (arith, a, b, c)

times_of-here : (t : ℕ) (threads : List ℕ) → times_of t (t ∷ threads) ≡ times_of t threads + 1
times_of-here t threads = let a = times_of-cons t t threads in let b : ◌≡◌ {A = ℕ} (cond (eqb t t) 1 0) 1 = ap (λ (c : Bool). cond c 1 0) (eq-eqb t t refl) in omega (arith, a, b)

times_of-else : (t u : ℕ) (threads : List ℕ) → u ≢ t → times_of t (u ∷ threads) ≡ times_of t threads
times_of-else t u threads n = let a = times_of-cons t u threads in let b : ◌≡◌ {A = ℕ} (cond (eqb u t) 1 0) 0 = ap (λ (c : Bool). cond c 1 0) (ne_eqb u t n) in omega (arith, a, b)

times_of-authors : (t : ℕ) (log : List Entry) → times_of t (authors log) ≡ length (own t log)
times_of-authors t [] = refl
times_of-authors t (e ∷ log) = times_of-cons t e.author (authors log) ∙ go (eqb e.author t) (times_of-authors t log)
  where
    go : (b : Bool) → times_of t (authors log) ≡ length (own t log) → cond b 1 0 + times_of t (authors log) ≡ length (cond b (e ∷ own t log) (own t log))
    go true h = omega arith
    go false h = omega arith

own_above : (t : ℕ) (terms : List ℕ) (log : List Entry) → 8 ≤ t → All (IsEntry 8 terms) log → own t log ≡ []
own_above t terms [] le h = refl
own_above t terms (e ∷ log) le h =
    let s = (All-head (IsEntry 8 terms) e log h).author in
    let ne : e.author ≢ t = λ same. omega arith in
    ap (λ (b : Bool). cond b (e ∷ own t log) (own t log)) (ne_eqb e.author t ne) ∙ own_above t terms log le (All-tail (IsEntry 8 terms) e log h)

-- an element of a mapped list, where the default is mapped too
pub get_or-mapped : {A B : Type 0} (f : A → B) (xs : List A) (k : ℕ) (d : A) → get_or (map f xs) k (f d) ≡ f (get_or xs k d)
get_or-mapped f [] k d = refl
get_or-mapped f (x ∷ xs) zero d = refl
get_or-mapped f (x ∷ xs) (suc k) d = get_or-mapped f xs k d

get_or-past_map : {A B : Type 0} (f : A → B) (xs : List A) (k : ℕ) (p : A) (d : B) → k < length xs → get_or xs k p ≡ p → get_or (map f xs) k d ≡ f p
get_or-past_map f [] k p d lt e = absurd (omega arith)
get_or-past_map f (x ∷ xs) zero p d lt e = ap f e
get_or-past_map f (x ∷ xs) (suc k) p d lt e = get_or-past_map f xs k p d (omega arith) e

-- the first of the patches that entries are
record First (fields : List Field) (m : Mark) (ms : List Mark) (ps : List Patch) : Type 0 where
  patch : Patch
  left : List Patch
  is : ps ≡ patch ∷ left
  here : m.after ≡ patched_words fields patch m.before
  rest : AreLaid fields ms left

first_of_them : (fields : List Field) (m : Mark) (ms : List Mark) (ps : List Patch) → AreLaid fields (m ∷ ms) ps → First fields m ms ps
first_of_them fields m ms [] h = absurd h
first_of_them fields m ms (p ∷ ps) h = record { patch = p; left = ps; is = refl; here = h.0; rest = h.1 }

-- what the crate of rows says of patched words
pub record PatchLaws : Type 0 where
  pub belongs : (meta : MetaData) (patch : Patch) (words : List ℕ) → IsMeta meta.fields → IsPatchOf meta patch → Belongs meta words → Belongs meta (patched_words meta.fields patch words)
  pub row : (meta : MetaData) (patch : Patch) (words : List ℕ) → IsMeta meta.fields → IsPatchOf meta patch → Belongs meta words
      → row_in meta.fields (patched_words meta.fields patch words) ≡ patched (row_in meta.fields words) (patch_in meta.fields patch)

module _ (laws : PatchLaws) (meta : MetaData) (is_meta : IsMeta meta.fields) (lists : List (List Patch)) (of : All (λ list. All (IsPatchOf meta) list) lists) where
  abbrev AllLeft : List ℕ → ℕ → List ℕ → List Entry → Type 0
  AllLeft threads n row log = (t : ℕ) → t < 8 → AreLaid meta.fields (marks_from t n row log) (drop (times_of t threads) (get_or lists t []))

  all_of : (t : ℕ) → All (IsPatchOf meta) (get_or lists t [])
  all_of t = go (dec_le (length lists) t)
    where
      go : Dec (length lists ≤ t) → All (IsPatchOf meta) (get_or lists t [])
      go (yes le) = subst (λ (l : List Patch). All (IsPatchOf meta) l) (sym (get_or_past lists t [] le)) (λ k d lt. absurd (omega (arith, lt)))
      go (no lt) = of t [] (omega arith)

  -- the next entry
  module _ (threads : List ℕ) (n : ℕ) (row : List ℕ) (e : Entry) (log : List Entry) (h : AllLeft threads n row (e ∷ log)) (small : e.author < 8) (belongs : Belongs meta row) where
    here : First meta.fields (record { version = n + 1; before = row; after = e.row }) (marks_from e.author (n + 1) e.row log) (drop (times_of e.author threads) (get_or lists e.author []))
    here = first_of_them meta.fields _ _ _
        (subst (λ (b : Bool). AreLaid meta.fields (cond b (record { version = n + 1; before = row; after = e.row } ∷ marks_from e.author (n + 1) e.row log) (marks_from e.author (n + 1) e.row log)) (drop (times_of e.author threads) (get_or lists e.author [])))
        (eq-eqb e.author e.author refl) (h e.author small))

    next : (times_of e.author threads < length (get_or lists e.author [])) × ((d : Patch) → get_or (get_or lists e.author []) (times_of e.author threads) d ≡ here.patch)
        × (drop (times_of e.author threads + 1) (get_or lists e.author []) ≡ here.left)
    next = next_left (get_or lists e.author []) here.left (times_of e.author threads) here.patch here.is

    is_patch : IsPatchOf meta here.patch
    is_patch = subst (IsPatchOf meta) (next.1 here.patch) (all_of e.author (times_of e.author threads) here.patch next.0)

    next_belongs : Belongs meta e.row
    next_belongs = subst (Belongs meta) (sym here.here) (laws.belongs meta here.patch row is_meta is_patch belongs)

    patch_is : patch_at (meanings meta.fields lists) e.author (times_of e.author threads) ≡ patch_in meta.fields here.patch
    patch_is =
        ap (λ (l : List (List (ℕ × DataValue))). get_or l (times_of e.author threads) no_patch) (get_or-mapped (λ (list : List Patch). map (patch_in meta.fields) list) lists e.author [])
        ∙ get_or-past_map (patch_in meta.fields) (get_or lists e.author []) (times_of e.author threads) here.patch no_patch next.0 (next.1 here.patch)

    row_is : row_in meta.fields e.row ≡ patched (row_in meta.fields row) (patch_at (meanings meta.fields lists) e.author (times_of e.author threads))
    row_is = ap (row_in meta.fields) here.here ∙ laws.row meta here.patch row is_meta is_patch belongs ∙ ap (patched (row_in meta.fields row)) (sym patch_is)

    left_after : AllLeft (e.author ∷ threads) (n + 1) e.row log
    left_after t lt = go (ℕ_discrete e.author t)
      where
        go : Dec (e.author ≡ t) → AreLaid meta.fields (marks_from t (n + 1) e.row log) (drop (times_of t (e.author ∷ threads)) (get_or lists t []))
        go (yes same) =
            subst (λ (u : ℕ). AreLaid meta.fields (marks_from u (n + 1) e.row log) (drop (times_of u (e.author ∷ threads)) (get_or lists u []))) same
            (subst (AreLaid meta.fields (marks_from e.author (n + 1) e.row log)) (sym (ap (λ (k : ℕ). drop k (get_or lists e.author [])) (times_of-here e.author threads) ∙ next.2)) here.rest)
        go (no other) =
            subst (λ (k : ℕ). AreLaid meta.fields (marks_from t (n + 1) e.row log) (drop k (get_or lists t []))) (sym (times_of-else t e.author threads other))
            (subst (λ (b : Bool). AreLaid meta.fields (cond b (record { version = n + 1; before = row; after = e.row } ∷ marks_from t (n + 1) e.row log) (marks_from t (n + 1) e.row log)) (drop (times_of t threads) (get_or lists t [])))
            (ne_eqb e.author t other) (h t lt))

  -- the entries of the model are those of the words
  entries_are : (terms : List ℕ) (threads : List ℕ) (n : ℕ) (row : List ℕ) (log : List Entry) → All (IsEntry 8 terms) log → Belongs meta row
      → last_row meta.fields (legal_rows meta.fields (meanings meta.fields lists) threads) ≡ row_in meta.fields row → AllLeft threads n row log
      → legal_entries meta.fields (meanings meta.fields lists) (onto (authors log) threads) ≡ onto (history_of meta.fields log) (legal_entries meta.fields (meanings meta.fields lists) threads)
  entries_are terms threads n row [] small belongs last h = refl
  entries_are terms threads n row (e ∷ log) small belongs last h =
      let s = (All-head (IsEntry 8 terms) e log small).author in
      let is = row_is threads n row e log h s belongs in
      let patch = patch_at (meanings meta.fields lists) e.author (times_of e.author threads) in
      let last' : patched (last_row meta.fields (legal_rows meta.fields (meanings meta.fields lists) threads)) patch ≡ row_in meta.fields e.row = ap (λ (r : List DataValue). patched r patch) last ∙ sym is in
      let rec = entries_are terms (e.author ∷ threads) (n + 1) e.row log (All-tail (IsEntry 8 terms) e log small) (next_belongs threads n row e log h s belongs) last' (left_after threads n row e log h s belongs) in
      rec ∙ ap (λ (r : List DataValue). onto (history_of meta.fields log) (record { author = e.author; row = r } ∷ legal_entries meta.fields (meanings meta.fields lists) threads)) last'

module _ (cell : CellData) (p : Known) (lists : List (List Patch)) (closed : IsClosed cell p lists) where
  pub closed_history : PatchLaws → Belongs cell.meta opening_words → row_in cell.meta.fields opening_words ≡ opening_row cell.meta.fields → history_of cell.meta.fields p.seen ≡ legal_history cell.meta.fields (meanings cell.meta.fields lists) (threads_of p.seen)
  closed_history laws belongs opening =
      let meta = cell.meta in
      let is = closed.is_cell.meta in
      let all = entries_are laws meta is lists closed.patches p.terms [] 0 opening_words p.seen closed.lawful.entries belongs (sym opening) closed.laid in
      let turned : legal_entries meta.fields (meanings meta.fields lists) (threads_of p.seen) ≡ reverse (history_of meta.fields p.seen) =
      ap (legal_entries meta.fields (meanings meta.fields lists)) (sym (onto-nil (authors p.seen))) ∙ all ∙ onto-nil (history_of meta.fields p.seen) in
      sym (ap reverse turned ∙ reverse-reverse (history_of meta.fields p.seen))

  pub closed_legal : IsLegal (threads_of p.seen) (meanings cell.meta.fields lists)
  closed_legal = record { each = λ t. times t ∙ go t (dec_le 8 t) ∙ sym (meant t) }
    where
      times : (t : ℕ) → times_of t (threads_of p.seen) ≡ length (own t p.seen)
      times t =
          ap (times_of t) (sym (onto-nil (authors p.seen))) ∙ times_of-onto t (authors p.seen) [] ∙ plus_zero (times_of t (authors p.seen)) ∙ times_of-authors t p.seen
        where
          plus_zero : (k : ℕ) → k + 0 ≡ k
          plus_zero k = omega arith

      meant : (t : ℕ) → length (get_or (meanings cell.meta.fields lists) t []) ≡ length (get_or lists t [])
      meant t = ap length (get_or-mapped (λ (list : List Patch). map (patch_in cell.meta.fields) list) lists t []) ∙ length-map (get_or lists t []) (patch_in cell.meta.fields)

      go : (t : ℕ) → Dec (8 ≤ t) → length (own t p.seen) ≡ length (get_or lists t [])
      go t (yes le) = ap length (own_above t p.terms p.seen le closed.lawful.entries) ∙ sym (ap length (get_or_past lists t [] (let f = closed.few in omega arith)))
      go t (no lt) = sym (length-marks t 0 opening_words p.seen) ∙ AreLaid-length cell.meta.fields (marks_of t p.seen) (get_or lists t []) (closed.laid t (omega arith))
