-- The duties of a crew's threads, and what they leave.
use Rattle.std.specs.Prelude.{◌≡◌, ℕ, ◌^◌, ◌<◌, ◌≤◌, List, [], ◌∷◌, length, map, All, Vec, slice_index, slice_index_or}
use Rattle.std.specs.List.{AllZip}
use Rattle.std.specs.declared.alloc.Global.{Global}
use Rattle.version_cell.specs.Known.{Known}
use Rattle.version_cell.specs.Cells.{CellData}
use Rattle.version_cell.specs.Sets.{cell_at, pass_at}
use Rattle.app_threads.specs.declared.item.Item.{Item}
use Rattle.app_threads.specs.declared.done.Done.{Done}
use Rattle.app_threads.specs.Items.{patches_in, sets_in, watches_in, FitsItem}
use Rattle.app_threads.specs.Looks.{IsLooked}
use Rattle.app_threads.specs.Duties.{Duty, CanRun, IsDone, begun_with, duty_at}

-- the list of a thread
abbrev pub list_of : List (Vec Item Global) → ℕ → List Item
list_of lists t = slice_index_or (map (λ list. list.items) lists) t []

-- what each thread of a crew begins with, in order
abbrev pub duties_of : List (Vec Item Global) → List Done → List Duty
duties_of [] dones = []
duties_of (list ∷ lists) [] = []
duties_of (list ∷ lists) (done ∷ dones) = begun_with list.items done ∷ duties_of lists dones

-- a duty of each of these lists, with the passes of its number and the same watches for all
abbrev pub given_to : List (Vec Item Global) → List (List Known) → List Known → List Duty
given_to [] hands watches = []
given_to (list ∷ lists) [] watches = []
given_to (list ∷ lists) (passes ∷ hands) watches =
    record { list = list.items; passes = passes; watches = watches } ∷ given_to lists hands watches

-- each thread may run its list
abbrev pub AreReady : List CellData → List CellData → List Duty → Type 0
AreReady bank targets duties = (t : ℕ) → t < length duties → CanRun bank targets t (duty_at duties t)

-- there is one for each thread, in order, which has run its list
pub record AreDone (bank targets : List CellData) (duties : List Duty) (dones : List Done) : Type 0 where
  pub count : length dones ≡ length duties
  pub each : (t : ℕ) (none : Done) → t < length duties
      → IsDone bank targets t (duty_at duties t) (slice_index_or dones t none)

-- what the lists ask for is there: cells and targets, patches of the metas, and quotas for the writes
pub record AreWithin (bank targets : List CellData) (lists : List (Vec Item Global)) : Type 0 where
  pub fit : (t : ℕ) → t < length lists → All (FitsItem bank targets) (list_of lists t)
  pub enough : (t set : ℕ) → t < length lists → set < length bank
      → length (patches_in set (list_of lists t)) ≤ slice_index (cell_at bank set).quotas t

-- a thread that has not begun, with a place for each answer
pub record IsFresh (thread : ℕ) (list : List Item) (done : Done) : Type 0 where
  pub number : done.list ≡ thread
  pub versions : length done.versions ≡ length (sets_in list)
  pub looks : AllZip IsLooked (watches_in list) done.looks
  pub short : length list < 2 ^ 32

-- no thread has begun
pub record AreFresh (lists : List (Vec Item Global)) (dones : List Done) : Type 0 where
  pub count : length dones ≡ length lists
  pub each : (t : ℕ) (none : Done) → t < length lists → IsFresh t (list_of lists t) (slice_index_or dones t none)

-- a thread that has not begun may run its list
pub record IsAtStart (bank targets : List CellData) (thread : ℕ) (list : List Item) (done : Done) : Type 0 where
  pub fresh : IsFresh thread list done
  pub can_run : CanRun bank targets thread (begun_with list done)

pub record AreAtStart (bank targets : List CellData) (lists : List (Vec Item Global)) (dones : List Done) : Type 0 where
  pub count : length dones ≡ length lists
  pub each : (t : ℕ) (none : Done) → t < length dones
      → IsAtStart bank targets t (list_of lists t) (slice_index_or dones t none)

-- each has run it
abbrev pub AreAtEnd : List CellData → List CellData → List (Vec Item Global) → List Done → List Done → Type 0
AreAtEnd bank targets lists old new = (t : ℕ) (none : Done) → t < length old
    → IsDone bank targets t (begun_with (list_of lists t) (slice_index_or old t none)) (slice_index_or new t none)

-- no thread has seen an entry of a data set before it begins
abbrev pub AreUnseen : List CellData → List Duty → Type 0
AreUnseen bank duties = (t set : ℕ) → t < length duties → set < length bank → (pass_at (duty_at duties t).passes set).seen ≡ []
