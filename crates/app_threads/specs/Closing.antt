-- A history to which nothing is added any more, because each thread's entries are its whole list of patches.
use Rattle.std.specs.Prelude.{◌≡◌, ℕ, ◌<◌, ◌≤◌, List, [], length, map, reverse, All, slice_index, slice_index_or}
use Rattle.dataset_meta.specs.declared.field.Field.{Field}
use Rattle.dataset_meta.specs.DataValues.{DataValue}
use Rattle.row_words.specs.declared.patch.Patch.{Patch}
use Rattle.row_words.specs.Patches.{IsPatchOf, patch_in}
use Rattle.version_cell.specs.declared.rule.Entry.{Entry}
use Rattle.version_cell.specs.Histories.{StartsWith}
use Rattle.version_cell.specs.Known.{Known}
use Rattle.version_cell.specs.Cells.{CellData, IsCell}
use Rattle.version_cell.specs.Passes.{IsPassOf, SeesLawful}
use Rattle.version_cell.specs.Sets.{cell_at, pass_at}
use Rattle.app_threads.specs.declared.done.Done.{Done}
use Rattle.app_threads.specs.Marks.{marks_of, AreLaid, authors}
use Rattle.app_threads.specs.Items.{patches_in}
use Rattle.app_threads.specs.Duties.{Duty, duty_at}
use Rattle.app_threads.specs.Crews.{AreReady, AreUnseen, AreDone}

-- what the patches of each thread's list stand for
abbrev pub meanings : List Field → List (List Patch) → List (List (List (ℕ × DataValue)))
meanings fields lists = map (λ list. map (patch_in fields) list) lists

-- who made each entry, the latest first
abbrev pub threads_of : List Entry → List ℕ
threads_of log = reverse (authors log)

-- the pass has seen all entries of these lists, one list for each of at most eight threads
pub record IsClosed (cell : CellData) (p : Known) (lists : List (List Patch)) : Type 0 where
  pub is_cell : IsCell cell
  pub own : IsPassOf cell p
  pub lawful : SeesLawful p
  pub few : length lists ≤ 8
  pub patches : All (λ list. All (IsPatchOf cell.meta) list) lists
  pub laid : (t : ℕ) → t < 8 → AreLaid cell.meta.fields (marks_of t p.seen) (slice_index_or lists t [])

-- the patches of each thread's writes of a data set, in order
abbrev pub lists_of : ℕ → List Duty → List (List Patch)
lists_of set duties = map (λ duty. patches_in set duty.list) duties

-- the pass has seen what each thread has seen of the data set at its end. The threads began with new passes, and each thread's
-- quota is the number of its writes
pub record IsJoined (bank targets : List CellData) (duties : List Duty) (dones : List Done) (set : ℕ) (p : Known) : Type 0 where
  pub within : set < length bank
  pub is_cell : IsCell (cell_at bank set)
  pub own : IsPassOf (cell_at bank set) p
  pub lawful : SeesLawful p
  pub few : length duties ≤ 8
  pub ready : AreReady bank targets duties
  pub done : AreDone bank targets duties dones
  pub unseen : AreUnseen bank duties
  pub spent : (t : ℕ) → t < 8
      → length (patches_in set (duty_at duties t).list) ≡ slice_index (cell_at bank set).quotas t
  pub seen : (t : ℕ) (none : Done) → t < length dones
      → StartsWith p.seen (pass_at (slice_index_or dones t none).passes set).seen
