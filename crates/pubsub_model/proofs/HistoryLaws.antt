-- Histories by one thread, and rows of histories.
use Rattle.std.proofs.Common.{◌≡◌, refl, sym, ap, ◌∙◌, arith, ℕ, zero, suc, ◌+◌, Bool, true, false, cond, List, [], ◌∷◌, ◌++◌, map, length, reverse, replicate, Option, Some, append_assoc}
use Rattle.std.specs.Prelude.{◌==◌, slice_get, slice_index_or, option_map, unwrap_or, All}
use Rattle.std.proofs.lemmas.Bool.Decides.{nat_tests}
use Rattle.std.proofs.lemmas.List.{length-reverse, map-append, reverse-append}
use Rattle.std.proofs.lemmas.List.Sums.{sum_by-cons}
use Rattle.std.proofs.lemmas.List.Elements.{All-nil, All-cons, All-head, All-tail}
use Rattle.dataset_meta.specs.DataValues.{DataValue}
use Rattle.dataset_meta.specs.declared.field.Field.{Field}
use Rattle.dataset_meta.specs.Metas.{MetaData}
use Rattle.dataset_meta.specs.Rows.{IsRow, IsPatch, opening_row, patched}
use Rattle.dataset_meta.proofs.RowLaws.{IsRow-opening, IsRow-patched}
use Rattle.pubsub_model.specs.History.{Written, IsHistory, ArePatches, IsLegal, row_of, times_of, legal_rows, last_row, no_patch, patch_at, legal_entries, legal_history}

-- one more thread of the list
pub times_of-cons : (thread other : ℕ) (threads : List ℕ) → times_of thread (other ∷ threads) ≡ cond (other == thread) 1 0 + times_of thread threads
times_of-cons thread other threads = sum_by-cons (λ (t : ℕ). cond (t == thread) 1 0) other threads

-- a thread that stands alone in the list stands there as often as the list is long
pub times_of-alone : (thread n : ℕ) → times_of thread (replicate n thread) ≡ n
times_of-alone thread zero = refl
times_of-alone thread (suc n) =
    let same : (thread == thread) ≡ true = grind (arith, nat_tests) in
    times_of-cons thread thread (replicate n thread) ∙ ap (λ (b : Bool). cond b 1 0 + times_of thread (replicate n thread)) same ∙ omega (arith, times_of-alone thread n)

pub times_of-other : (thread other n : ℕ) → (other == thread) ≡ false → times_of thread (replicate n other) ≡ 0
times_of-other thread other zero e = refl
times_of-other thread other (suc n) e =
    times_of-cons thread other (replicate n other) ∙ ap (λ (b : Bool). cond b 1 0 + times_of thread (replicate n other)) e ∙ omega (arith, times_of-other thread other n e)

-- a list of the first thread alone is legal where that thread has so many patches and no other has one
first_alone : (patches : List (List (ℕ × DataValue))) (thread : ℕ) → times_of thread (replicate (length patches) 0) ≡ length (slice_index_or (patches ∷ []) thread [])
first_alone patches zero = times_of-alone 0 (length patches)
first_alone patches (suc thread) =
    let apart : (0 == suc thread) ≡ false = grind (arith, nat_tests) in times_of-other (suc thread) 0 (length patches) apart

pub IsLegal-alone : (patches : List (List (ℕ × DataValue))) → IsLegal (replicate (length patches) 0) (patches ∷ [])
IsLegal-alone patches = record { each = first_alone patches }

-- ---- rows of the meta

-- what holds of each element, and of the default, holds of what an index gives
element_or : {X : Type 0} (P : X → Type 0) (xs : List X) (k : ℕ) (d : X) → All P xs → P d → P (slice_index_or xs k d)
element_or P [] k d all none = none
element_or P (x ∷ xs) zero d all none = All-head P x xs all
element_or P (x ∷ xs) (suc k) d all none = element_or P xs k d (All-tail P x xs all) none

-- the k-th patch of a thread is a patch of the meta
pub IsPatch-patch_at : (meta : MetaData) (patches : List (List (List (ℕ × DataValue)))) (thread k : ℕ) → ArePatches meta patches → IsPatch meta (patch_at patches thread k)
IsPatch-patch_at meta patches thread k are =
    element_or (λ (patch : List (ℕ × DataValue)). IsPatch meta patch) (slice_index_or patches thread []) k no_patch
    (element_or (λ (of_thread : List (List (ℕ × DataValue))). All (λ patch. IsPatch meta patch) of_thread) patches thread [] are
    (All-nil (λ (patch : List (ℕ × DataValue)). IsPatch meta patch)))
    tt

-- rows of the meta end with a row of the meta
pub IsRow-last_row : (meta : MetaData) (rows : List (List DataValue)) → All (λ row. IsRow meta row) rows → IsRow meta (last_row meta.fields rows)
IsRow-last_row meta [] are = IsRow-opening meta.quality meta.fields
IsRow-last_row meta (row ∷ rows) are = All-head (λ (r : List DataValue). IsRow meta r) row rows are

-- patches of the meta leave rows of the meta
pub All-legal_rows : (meta : MetaData) (patches : List (List (List (ℕ × DataValue)))) (threads : List ℕ) → ArePatches meta patches
    → All (λ row. IsRow meta row) (legal_rows meta.fields patches threads)
All-legal_rows meta patches [] are = All-nil (λ (row : List DataValue). IsRow meta row)
All-legal_rows meta patches (thread ∷ before) are =
    let rows = legal_rows meta.fields patches before in
    let earlier = All-legal_rows meta patches before are in
    All-cons (λ (row : List DataValue). IsRow meta row) _ rows
    (IsRow-patched meta.quality meta.fields 0 (last_row meta.fields rows) (patch_at patches thread (times_of thread before))
    (IsRow-last_row meta rows earlier) (IsPatch-patch_at meta patches thread (times_of thread before) are))
    earlier

-- and they end with one
pub IsRow-last_legal : (meta : MetaData) (patches : List (List (List (ℕ × DataValue)))) (threads : List ℕ) → ArePatches meta patches
    → IsRow meta (last_row meta.fields (legal_rows meta.fields patches threads))
IsRow-last_legal meta patches threads are = IsRow-last_row meta (legal_rows meta.fields patches threads) (All-legal_rows meta patches threads are)

-- the row of an entry is a row of the meta
entry_fits : (meta : MetaData) (history : List Written) (n : ℕ) → IsHistory meta history
    → IsRow meta (unwrap_or (option_map (λ (entry : Written). entry.row) (slice_get history n)) (opening_row meta.fields))
entry_fits meta [] n is = IsRow-opening meta.quality meta.fields
entry_fits meta (entry ∷ history) zero is = All-head (λ (e : Written). IsRow meta e.row) entry history is
entry_fits meta (entry ∷ history) (suc n) is = entry_fits meta history n (All-tail (λ (e : Written). IsRow meta e.row) entry history is)

-- the row of each version of a history of such rows is a row of the meta
pub IsRow-row_of : (meta : MetaData) (history : List Written) (version : ℕ) → IsHistory meta history → IsRow meta (row_of meta.fields history version)
IsRow-row_of meta history zero is = IsRow-opening meta.quality meta.fields
IsRow-row_of meta history (suc n) is = entry_fits meta history n is

-- ---- the versions of a legal history

slice_get-seam : {X : Type 0} (xs : List X) (y : X) (ys : List X) → slice_get (xs ++ y ∷ ys) (length xs) ≡ Some y
slice_get-seam [] y ys = refl
slice_get-seam (x ∷ xs) y ys = slice_get-seam xs y ys

-- the entry that a thread makes behind these
abbrev entry_on : List Field → List (List (List (ℕ × DataValue))) → ℕ → List ℕ → Written
entry_on fields patches thread before = record { author = thread; row = last_row fields (legal_rows fields patches (thread ∷ before)) }

entries_split : (fields : List Field) (patches : List (List (List (ℕ × DataValue)))) (later : List ℕ) (thread : ℕ) (before : List ℕ)
    → (es : List Written) × (legal_entries fields patches (later ++ thread ∷ before) ≡ es ++ entry_on fields patches thread before ∷ legal_entries fields patches before)
entries_split fields patches [] thread before = ([], refl)
entries_split fields patches (other ∷ later) thread before =
    let rest = entries_split fields patches later thread before in
    let e = entry_on fields patches other (later ++ thread ∷ before) in (e ∷ rest.0, ap (λ (l : List Written). e ∷ l) rest.1)

length-entries : (fields : List Field) (patches : List (List (List (ℕ × DataValue)))) (threads : List ℕ) → length (legal_entries fields patches threads) ≡ length threads
length-entries fields patches [] = refl
length-entries fields patches (thread ∷ before) = omega (arith, length-entries fields patches before)

pub length-history : (fields : List Field) (patches : List (List (List (ℕ × DataValue)))) (threads : List ℕ) → length (legal_history fields patches threads) ≡ length threads
length-history fields patches threads = length-reverse (legal_entries fields patches threads) ∙ length-entries fields patches threads

-- the entry of the version that a thread makes names it, with the row that it leaves
pub entry-version : (fields : List Field) (patches : List (List (List (ℕ × DataValue)))) (later : List ℕ) (thread : ℕ) (before : List ℕ)
    → slice_get (legal_history fields patches (later ++ thread ∷ before)) (length before) ≡ Some (record { author = thread; row = last_row fields (legal_rows fields patches (thread ∷ before)) })
entry-version fields patches later thread before =
    let split = entries_split fields patches later thread before in
    let entry = entry_on fields patches thread before in
    let earlier = reverse (legal_entries fields patches before) in
    let turned : legal_history fields patches (later ++ thread ∷ before) ≡ earlier ++ entry ∷ reverse split.0 =
    ap reverse split.1 ∙ reverse-append split.0 (entry ∷ legal_entries fields patches before)
    ∙ ap (λ (l : List Written). l ++ reverse split.0) (reverse-append (entry ∷ []) (legal_entries fields patches before)) ∙ append_assoc earlier (entry ∷ []) (reverse split.0) in
    let place : length before ≡ length earlier = sym (length-reverse (legal_entries fields patches before) ∙ length-entries fields patches before) in
    ap (λ (l : List Written). slice_get l (length before)) turned ∙ ap (slice_get (earlier ++ entry ∷ reverse split.0)) place ∙ slice_get-seam earlier entry (reverse split.0)

-- the row of the version that these threads make is the row that they leave
row_of-version : (fields : List Field) (patches : List (List (List (ℕ × DataValue)))) (later before : List ℕ)
    → row_of fields (legal_history fields patches (later ++ before)) (length before) ≡ last_row fields (legal_rows fields patches before)
row_of-version fields patches later [] = refl
row_of-version fields patches later (thread ∷ before) =
    ap (λ (o : Option Written). unwrap_or (option_map (λ e. e.row) o) (opening_row fields)) (entry-version fields patches later thread before)

pub versions-patched : (fields : List Field) (patches : List (List (List (ℕ × DataValue)))) (later : List ℕ) (thread : ℕ) (before : List ℕ)
    → row_of fields (legal_history fields patches (later ++ thread ∷ before)) (length (thread ∷ before))
    ≡ patched (row_of fields (legal_history fields patches (later ++ thread ∷ before)) (length before)) (patch_at patches thread (times_of thread before))
versions-patched fields patches later thread before =
    let earlier = row_of-version fields patches (later ++ thread ∷ []) before in
    let same : row_of fields (legal_history fields patches (later ++ thread ∷ before)) (length before) ≡ last_row fields (legal_rows fields patches before) =
    ap (λ (l : List ℕ). row_of fields (legal_history fields patches l) (length before)) (sym (append_assoc later (thread ∷ []) before)) ∙ earlier in
    row_of-version fields patches later (thread ∷ before) ∙ ap (λ (row : List DataValue). patched row (patch_at patches thread (times_of thread before))) (sym same)

map-reverse : {X Y : Type 0} (f : X → Y) (xs : List X) → map f (reverse xs) ≡ reverse (map f xs)
map-reverse f [] = refl
map-reverse f (x ∷ xs) =
    ap (map f) (reverse-append (x ∷ []) xs) ∙ map-append f (reverse xs) (x ∷ []) ∙ ap (λ l. l ++ f x ∷ []) (map-reverse f xs) ∙ sym (reverse-append (f x ∷ []) (map f xs))

-- rows of entries by their index
row_at-map : (history : List Written) (n : ℕ) (none : List DataValue) → unwrap_or (option_map (λ e. e.row) (slice_get history n)) none ≡ slice_index_or (map (λ e. e.row) history) n none
row_at-map [] n none = refl
row_at-map (entry ∷ history) zero none = refl
row_at-map (entry ∷ history) (suc n) none = row_at-map history n none

rows-entries : (fields : List Field) (patches : List (List (List (ℕ × DataValue)))) (threads : List ℕ) → map (λ e. e.row) (legal_entries fields patches threads) ≡ legal_rows fields patches threads
rows-entries fields patches [] = refl
rows-entries fields patches (thread ∷ before) =
    ap (λ (rows : List (List DataValue)). last_row fields (legal_rows fields patches (thread ∷ before)) ∷ rows) (rows-entries fields patches before)

pub versions-rows : (fields : List Field) (patches : List (List (List (ℕ × DataValue)))) (threads : List ℕ) (version : ℕ)
    → row_of fields (legal_history fields patches threads) version ≡ slice_index_or (opening_row fields ∷ reverse (legal_rows fields patches threads)) version (opening_row fields)
versions-rows fields patches threads zero = refl
versions-rows fields patches threads (suc n) =
    row_at-map (legal_history fields patches threads) n (opening_row fields)
    ∙ ap (λ (rows : List (List DataValue)). slice_index_or rows n (opening_row fields)) (map-reverse (λ (e : Written). e.row) (legal_entries fields patches threads) ∙ ap reverse (rows-entries fields patches threads))
