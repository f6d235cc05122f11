-- The items of a thread's list, taken apart by data set and by reader.
use Rattle.std.specs.Prelude.{ℕ, ◌<◌, ◌==◌, if◌then◌else◌, List, [], ◌∷◌, length}
use Rattle.std.specs.List.{flat_map}
use Rattle.row_words.specs.declared.patch.Patch.{Patch}
use Rattle.row_words.specs.Patches.{IsPatchOf}
use Rattle.version_cell.specs.Cells.{CellData}
use Rattle.version_cell.specs.Sets.{cell_at}
use Rattle.app_threads.specs.declared.item.Item.{Item}
use Rattle.app_threads.specs.declared.item.Item.TheVariants as items

-- this where both numbers are the same, else nothing
abbrev pub only_at : {X : Type 0} → ℕ → ℕ → X → List X
only_at here there x = if here == there then x ∷ [] else []

-- the patch of an item that writes the data set
abbrev pub patch_of : ℕ → Item → List Patch
patch_of set (items.Write there patch) = only_at there set patch
patch_of set (items.Watch reader times) = []

-- the patches of the list's writes of a data set, in order
abbrev pub patches_in : ℕ → List Item → List Patch
patches_in set list = flat_map (patch_of set) list

abbrev pub set_of : Item → List ℕ
set_of (items.Write set patch) = set ∷ []
set_of (items.Watch reader times) = []

-- the data sets of the list's writes, in order
abbrev pub sets_in : List Item → List ℕ
sets_in list = flat_map set_of list

abbrev pub watch_of : Item → List (ℕ × ℕ)
watch_of (items.Write set patch) = []
watch_of (items.Watch reader times) = (reader, times) ∷ []

-- the reader and the times of each of the list's watches, in order
abbrev pub watches_in : List Item → List (ℕ × ℕ)
watches_in list = flat_map watch_of list

-- of versions with their data sets those of one
abbrev pub versions_in : ℕ → List (ℕ × ℕ) → List ℕ
versions_in set versions = flat_map (λ version. only_at version.0 set version.1) versions

-- a write of one of these cells whose patch is one of its meta, or a watch of one of these targets
abbrev pub FitsItem : List CellData → List CellData → Item → Type 0
FitsItem bank targets (items.Write set patch) = (set < length bank) × IsPatchOf (cell_at bank set).meta patch
FitsItem bank targets (items.Watch reader times) = reader < length targets
