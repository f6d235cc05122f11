-- What one item of a list needs, and what it does.
use Rattle.std.specs.Prelude.{◌≡◌, ℕ, ◌+◌, ◌<◌, List, [], ◌∷◌, ◌++◌, length, IsSome, slice_index_or, slice_set}
use Rattle.row_words.specs.declared.patch.Patch.{Patch}
use Rattle.row_words.specs.Patches.{IsPatchOf}
use Rattle.version_cell.specs.declared.cell.Placed.TheVariants as answers
use Rattle.version_cell.specs.Cells.{CellData}
use Rattle.version_cell.specs.Passes.{HasLeft, SeesLawful, WasPlaced}
use Rattle.version_cell.specs.Sets.{ArePassesOf, ChangesAt, cell_at, pass_at}
use Rattle.app_threads.specs.declared.item.Item.{Item}
use Rattle.app_threads.specs.declared.item.Item.TheVariants as items
use Rattle.app_threads.specs.declared.done.Done.{Done}
use Rattle.app_threads.specs.declared.done.Looked.{Looked}
use Rattle.app_threads.specs.declared.hand.Progress.{Progress}
use Rattle.app_threads.specs.declared.opening.PassSets.{PassSets}
use Rattle.app_threads.specs.Looks.{IsLooked}
use Rattle.app_threads.specs.Duties.{Watched}

-- ---- places for the answers

-- the places have room for one item more
abbrev pub AddsRoom : Item → PassSets → PassSets → Type 0
AddsRoom (items.Write set patch) old new =
    (length new.versions.items ≡ length old.versions.items + 1) × (new.looks.items ≡ old.looks.items)
AddsRoom (items.Watch reader times) old new =
    (new.versions.items ≡ old.versions.items)
    × ((looked : Looked) × (new.looks.items ≡ old.looks.items ++ looked ∷ []) × IsLooked (reader, times) looked)

-- ---- a write

-- the pass of the data set has a number with an entry left, and there is a place for the answer
pub record MayPlace (bank : List CellData) (set : ℕ) (patch : Patch) (at : ℕ) (done : Done) : Type 0 where
  pub of_bank : ArePassesOf bank done.passes
  pub within : set < length bank
  pub fits : IsPatchOf (cell_at bank set).meta patch
  pub numbered : IsSome (pass_at done.passes set).author
  pub left : HasLeft (pass_at done.passes set)
  pub place : at < length done.versions

-- one write is made, and its version noted
pub record DidPlace (bank : List CellData) (set : ℕ) (patch : Patch) (at : ℕ) (old new : Done) : Type 0 where
  pub version : ℕ
  pub noted : new.versions ≡ slice_set old.versions at (set, version)
  pub of_bank : ArePassesOf bank new.passes
  pub placed : WasPlaced (cell_at bank set) patch (pass_at old.passes set) (pass_at new.passes set) (answers.Wrote version)
  pub lawful : SeesLawful (pass_at new.passes set)
  pub others : ChangesAt set old.passes new.passes
  pub list : new.list ≡ old.list
  pub looks : new.looks ≡ old.looks
  pub watches : new.watches ≡ old.watches

-- ---- a watch

-- there is a place for the looks
pub record MayLook (targets : List CellData) (reader at : ℕ) (done : Done) : Type 0 where
  pub of_targets : ArePassesOf targets done.watches
  pub within : reader < length targets
  pub place : at < length done.looks

-- the looks are made, as many as there are places for, and what they count is noted
pub record DidLook (targets : List CellData) (reader at : ℕ) (old new : Done) : Type 0 where
  pub looked : Looked
  pub noted : new.looks ≡ slice_set old.looks at looked
  pub same : (none : Looked) → looked.reader ≡ (slice_index_or old.looks at none).reader
  pub times : (none : Looked) → length looked.counts ≡ length (slice_index_or old.looks at none).counts
  pub of_targets : ArePassesOf targets new.watches
  pub watched : Watched (pass_at old.watches reader) (pass_at new.watches reader) looked.counts
  pub others : ChangesAt reader old.watches new.watches
  pub list : new.list ≡ old.list
  pub versions : new.versions ≡ old.versions
  pub passes : new.passes ≡ old.passes

-- ---- an item

abbrev pub MayDo : List CellData → List CellData → Item → Progress → Done → Type 0
MayDo bank targets (items.Write set patch) at done = MayPlace bank set patch at.writes done
MayDo bank targets (items.Watch reader times) at done = MayLook targets reader at.watches done

abbrev pub Did : List CellData → List CellData → Item → Progress → Progress → Done → Done → Type 0
Did bank targets (items.Write set patch) at after old new =
    DidPlace bank set patch at.writes old new × (after.writes ≡ at.writes + 1) × (after.watches ≡ at.watches)
Did bank targets (items.Watch reader times) at after old new =
    DidLook targets reader at.watches old new × (after.writes ≡ at.writes) × (after.watches ≡ at.watches + 1)
