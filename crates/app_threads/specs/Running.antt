-- A thread that has done the first items of its list, and places for their answers.
use Rattle.std.specs.Prelude.{◌≡◌, ℕ, ◌+◌, ◌<◌, ◌≤◌, List, length, map, take, drop}
use Rattle.std.specs.List.{AllZip}
use Rattle.version_cell.specs.Cells.{CellData}
use Rattle.version_cell.specs.Sets.{ArePassesOf, cell_at, pass_at}
use Rattle.app_threads.specs.declared.done.Done.{Done}
use Rattle.app_threads.specs.declared.item.Item.{Item}
use Rattle.app_threads.specs.declared.hand.Progress.{Progress}
use Rattle.app_threads.specs.declared.opening.PassSets.{PassSets}
use Rattle.app_threads.specs.Items.{patches_in, sets_in, watches_in, versions_in}
use Rattle.app_threads.specs.Looks.{counts_in, IsLooked}
use Rattle.app_threads.specs.Duties.{Duty, Worked, Watched}

-- k items are done
pub record Ran (bank targets : List CellData) (thread : ℕ) (duty : Duty) (k : ℕ) (at : Progress) (done : Done) : Type 0 where
  pub count : at.writes + at.watches ≡ k
  pub number : done.list ≡ thread
  pub of_bank : ArePassesOf bank done.passes
  pub of_targets : ArePassesOf targets done.watches
  pub places : at.writes + length (sets_in (drop k duty.list)) ≡ length done.versions
  pub sets : map (λ version. version.0) (take at.writes done.versions) ≡ sets_in (take k duty.list)
  pub worked : (set : ℕ) → set < length bank → Worked (cell_at bank set).meta.fields thread
      (pass_at duty.passes set) (pass_at done.passes set)
      (versions_in set (take at.writes done.versions)) (patches_in set (take k duty.list))
  pub within : at.watches ≤ length done.looks
  pub looked : AllZip IsLooked (watches_in (take k duty.list)) (take at.watches done.looks)
  pub waiting : AllZip IsLooked (watches_in (drop k duty.list)) (drop at.watches done.looks)
  pub watched : (reader : ℕ) → reader < length targets
      → Watched (pass_at duty.watches reader) (pass_at done.watches reader) (counts_in reader (take at.watches done.looks))

-- there is a place for each answer of the first k items
pub record HasRoom (list : List Item) (k : ℕ) (room : PassSets) : Type 0 where
  pub versions : length room.versions.items ≡ length (sets_in (take k list))
  pub looks : AllZip IsLooked (watches_in (take k list)) room.looks.items
