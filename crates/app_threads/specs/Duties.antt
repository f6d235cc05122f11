-- What each thread of a crew begins with, and what it leaves.
use Rattle.std.specs.Prelude.{◌≡◌, ℕ, ◌+◌, ◌<◌, ◌≤◌, List, [], length, map, All, Some, slice_index_or}
use Rattle.std.specs.List.{AllZip}
use Rattle.dataset_meta.specs.declared.field.Field.{Field}
use Rattle.row_words.specs.declared.patch.Patch.{Patch}
use Rattle.version_cell.specs.Histories.{own, StartsWith}
use Rattle.version_cell.specs.Terms.{quota}
use Rattle.version_cell.specs.Known.{Known}
use Rattle.version_cell.specs.Cells.{CellData}
use Rattle.version_cell.specs.Passes.{SeesLawful, SeesMore}
use Rattle.version_cell.specs.Sets.{ArePassesOf, cell_at, pass_at}
use Rattle.app_threads.specs.declared.item.Item.{Item}
use Rattle.app_threads.specs.declared.done.Done.{Done}
use Rattle.app_threads.specs.Marks.{Made, Rises}
use Rattle.app_threads.specs.Items.{patches_in, sets_in, watches_in, versions_in, FitsItem}
use Rattle.app_threads.specs.Looks.{counts_in, Climbs, IsLooked}

-- a thread's list, and what it has seen of the data sets and of the readers' targets
pub record Duty : Type 0 where
  pub list : List Item
  pub passes : List Known
  pub watches : List Known

abbrev pub no_duty : Duty
no_duty = record { list = []; passes = []; watches = [] }

abbrev pub duty_at : List Duty → ℕ → Duty
duty_at duties t = slice_index_or duties t no_duty

-- the thread may run its list: its passes are of the bank and the targets and have its number, and the writes of each data set
-- are at most what the number has left of its quota
pub record CanRun (bank targets : List CellData) (thread : ℕ) (duty : Duty) : Type 0 where
  pub of_bank : ArePassesOf bank duty.passes
  pub of_targets : ArePassesOf targets duty.watches
  pub numbered : (set : ℕ) → set < length bank → (pass_at duty.passes set).author ≡ Some thread
  pub enough : (set : ℕ) → set < length bank → let p = pass_at duty.passes set in
      length (own thread p.seen) + length (patches_in set duty.list) ≤ quota thread p.terms
  pub fit : All (FitsItem bank targets) duty.list

-- the pass of a thread later: it made these patches, and was answered these versions
pub record Worked (fields : List Field) (thread : ℕ) (old new : Known) (versions : List ℕ) (patches : List Patch) : Type 0 where
  pub cell : new.cell ≡ old.cell
  pub terms : new.terms ≡ old.terms
  pub author : new.author ≡ Some thread
  pub seen : StartsWith new.seen old.seen
  pub lawful : SeesLawful old → SeesLawful new
  pub made : Made fields thread old.seen new.seen versions patches

-- the pass that looked at a target later: its looks don't fall, and each counts at most what it has seen
pub record Watched (old new : Known) (counts : List ℕ) : Type 0 where
  pub more : SeesMore old new
  pub climbs : Climbs (length old.seen) counts (length new.seen)

-- what the thread leaves that has run its list
pub record IsDone (bank targets : List CellData) (thread : ℕ) (duty : Duty) (done : Done) : Type 0 where
  pub list : done.list ≡ thread
  pub of_bank : ArePassesOf bank done.passes
  pub of_targets : ArePassesOf targets done.watches
  pub sets : map (λ version. version.0) done.versions ≡ sets_in duty.list
  pub worked : (set : ℕ) → set < length bank → Worked (cell_at bank set).meta.fields thread
      (pass_at duty.passes set) (pass_at done.passes set) (versions_in set done.versions) (patches_in set duty.list)
  pub rising : (set : ℕ) → set < length bank → Rises (length (pass_at duty.passes set).seen) (versions_in set done.versions)
  pub looks : AllZip IsLooked (watches_in duty.list) done.looks
  pub watched : (reader : ℕ) → reader < length targets
      → Watched (pass_at duty.watches reader) (pass_at done.watches reader) (counts_in reader done.looks)

-- what a thread begins with that has not begun yet
abbrev pub begun_with : List Item → Done → Duty
begun_with list done = record { list = list; passes = done.passes; watches = done.watches }
