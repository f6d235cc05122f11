-- History, Legal history: the single history of a data set.
use Rattle.std.specs.Prelude.{◌≡◌, ◌+◌, ℕ, zero, suc, List, [], ◌∷◌, length, reverse, ◌==◌, unwrap_or, option_map, count_by, slice_get, slice_index_or, if◌then◌else◌, All}
use Rattle.dataset_meta.specs.DataValues.{DataValue}
use Rattle.dataset_meta.specs.declared.field.Field.{Field}
use Rattle.dataset_meta.specs.Metas.{MetaData}
use Rattle.dataset_meta.specs.Rows.{IsRow, IsPatch, opening_row, patched}

-- an accepted write: who made it, and the row that it left
pub record Written : Type 0 where
  pub author : ℕ
  pub row : List DataValue

-- each write left a row of this meta
abbrev pub IsHistory : MetaData → List Written → Type 0
IsHistory meta history = All (λ entry. IsRow meta entry.row) history

-- the row of a version: the opening row, or that of the entry with this number counted from 1
abbrev pub row_of : List Field → List Written → ℕ → List DataValue
row_of fields history zero = opening_row fields
row_of fields history (suc n) =
    unwrap_or (option_map (λ entry. entry.row) (slice_get history n)) (opening_row fields)

-- how often a thread stands in the list
abbrev pub times_of : ℕ → List ℕ → ℕ
times_of thread threads = count_by (λ t. t == thread) threads

-- the patch that changes nothing
abbrev pub no_patch : List (ℕ × DataValue)
no_patch = []

-- the k-th patch of a thread
abbrev pub patch_at : List (List (List (ℕ × DataValue))) → ℕ → ℕ → List (ℕ × DataValue)
patch_at patches thread k = slice_index_or (slice_index_or patches thread []) k no_patch

-- each patch of each thread is a patch of this meta
abbrev pub ArePatches : MetaData → List (List (List (ℕ × DataValue))) → Type 0
ArePatches meta patches = All (λ of_thread. All (λ patch. IsPatch meta patch) of_thread) patches

-- Each thread stands in the list as often as it has patches, and no other thread stands in it.
pub record IsLegal (threads : List ℕ) (patches : List (List (List (ℕ × DataValue)))) : Type 0 where
  pub each : (thread : ℕ) → times_of thread threads ≡ length (slice_index_or patches thread [])

-- the row that these rows, the latest first, end with
abbrev pub last_row : List Field → List (List DataValue) → List DataValue
last_row fields [] = opening_row fields
last_row fields (row ∷ rows) = row

-- the rows that these threads, the latest first, leave: the k-th time that a thread stands there it lays in its k-th patch
abbrev pub legal_rows : List Field → List (List (List (ℕ × DataValue))) → List ℕ
    → List (List DataValue)
legal_rows fields patches [] = []
legal_rows fields patches (thread ∷ before) =
    let rows = legal_rows fields patches before in
    patched (last_row fields rows) (patch_at patches thread (times_of thread before)) ∷ rows

-- the entries that these threads, the latest first, make with their patches
abbrev pub legal_entries : List Field → List (List (List (ℕ × DataValue))) → List ℕ → List Written
legal_entries fields patches [] = []
legal_entries fields patches (thread ∷ before) =
    record { author = thread; row = last_row fields (legal_rows fields patches (thread ∷ before)) }
    ∷ legal_entries fields patches before

-- their history
abbrev pub legal_history : List Field → List (List (List (ℕ × DataValue))) → List ℕ → List Written
legal_history fields patches threads = reverse (legal_entries fields patches threads)

-- the versions, counted from the one after n, that a thread made, where the threads stand in the order of the versions
abbrev pub places : ℕ → ℕ → List ℕ → List ℕ
places thread n [] = []
places thread n (other ∷ more) =
    if other == thread then (n + 1) ∷ places thread (n + 1) more else places thread (n + 1) more
