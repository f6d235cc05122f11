-- Lists of cells, and of passes, one of each cell.
use Rattle.std.specs.Prelude.{◌≡◌, ℕ, ◌<◌, List, [], length, map, Option, slice_index_or, slice_set}
use Rattle.dataset_meta.specs.Metas.{no_meta}
use Rattle.version_cell.specs.Known.{Known, no_table, nothing}
use Rattle.version_cell.specs.Cells.{CellData}
use Rattle.version_cell.specs.Passes.{IsPassOf, Joins, SeesLawful, new_pass}

-- stands where a list has no cell
abbrev pub no_cell : CellData
no_cell = record { id = no_table; meta = no_meta; quotas = [] }

abbrev pub cell_at : List CellData → ℕ → CellData
cell_at cells k = slice_index_or cells k no_cell

abbrev pub pass_at : List Known → ℕ → Known
pass_at passes k = slice_index_or passes k nothing

-- the passes were made by these cells, one by each
pub record ArePassesOf (cells : List CellData) (passes : List Known) : Type 0 where
  pub count : length passes ≡ length cells
  pub each : (k : ℕ) → k < length cells → IsPassOf (cell_at cells k) (pass_at passes k)

-- what each has seen is lawful
abbrev pub EachSeesLawful : List Known → Type 0
EachSeesLawful passes = (k : ℕ) → k < length passes → SeesLawful (pass_at passes k)

-- only the pass of this cell changes
abbrev pub ChangesAt : ℕ → List Known → List Known → Type 0
ChangesAt k old new = new ≡ slice_set old k (pass_at new k)

-- each pass has taken in the other of its cell
abbrev pub JoinEach : List Known → List Known → List Known → Type 0
JoinEach old others new = (k : ℕ) → k < length old → Joins (pass_at old k) (pass_at others k) (pass_at new k)

-- a pass of each of these cells that has seen the opening row alone, with this number or none
abbrev pub new_passes : List CellData → Option ℕ → List Known
new_passes cells author = map (λ cell. new_pass cell author) cells
