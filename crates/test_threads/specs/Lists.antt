-- The list of each of a crew's threads.
use Rattle.std.specs.Prelude.{◌≡◌, ℕ, ◌<◌, List, [], ◌∷◌, length, IsSome, slice_index_or}
use Rattle.row_words.specs.declared.patch.Patch.{Patch}
use Rattle.app_threads.specs.declared.item.Item.{Item}
use Rattle.app_threads.specs.declared.item.Item.TheVariants as items
use Rattle.app_threads.specs.declared.done.Done.{Done}
use Rattle.version_cell.specs.Cells.{CellData}
use Rattle.version_cell.specs.Known.{Known}
use Rattle.version_cell.specs.Passes.{IsPassOf}
use Rattle.version_cell.specs.Sets.{ArePassesOf}

-- two writes, and then so many looks
abbrev pub three_items : Patch → Patch → ℕ → List Item
three_items first second times = items.Write 0 first ∷ items.Write 0 second ∷ items.Watch 0 times ∷ []

abbrev pub AreThreeItems : Patch → Patch → List Item → Type 0
AreThreeItems first second list = (times : ℕ) × (list ≡ three_items first second times)

-- what a thread left was made by the bank and the targets
pub record IsDoneOf (bank targets : List CellData) (done : Done) : Type 0 where
  pub passes : ArePassesOf bank done.passes
  pub watches : ArePassesOf targets done.watches

-- passes of the cell that have numbers
abbrev pub AreWriters : CellData → List Known → Type 0
AreWriters cell passes = (t : ℕ) (none : Known) → t < length passes
    → let pass = slice_index_or passes t none in IsPassOf cell pass × IsSome pass.author
