-- What holds between the lines of the cases that are kept: passes are of the cells that they are kept with.
use Rattle.std.specs.Prelude.{◌≡◌, ℕ, ◌<◌, List, length, map, All}
use Rattle.dataset_meta.specs.Metas.{MetaData}
use Rattle.version_cell.specs.Known.{Known}
use Rattle.version_cell.specs.Cells.{CellData}
use Rattle.version_cell.specs.Passes.{IsPassOf}
use Rattle.version_cell.specs.Sets.{ArePassesOf}
use Rattle.target_cells.specs.Keeping.{TargetsData, metas_of}

abbrev pub ArePasses : CellData → List Known → Type 0
ArePasses cell passes = All (IsPassOf cell) passes

pub record BankValue : Type 0 where
  pub bank : List CellData
  pub metas : List MetaData
  pub hands : List (List Known)

pub record IsBank (value : BankValue) : Type 0 where
  pub metas : map (λ cell. cell.meta) value.bank ≡ value.metas
  pub own : All (ArePassesOf value.bank) value.hands

pub record TargetsValue : Type 0 where
  pub targets : TargetsData
  pub metas : List MetaData
  pub readers : List ℕ
  pub keeper : List Known
  pub count : List Known
  pub watches : List (List Known)
  pub limit : ℕ

pub record AreTargets (value : TargetsValue) : Type 0 where
  pub metas : map (λ cell. cell.meta) value.targets.cells ≡ metas_of value.metas value.readers
  pub readers : All (λ set. set < length value.metas) value.readers
  pub keeper : ArePassesOf value.targets.cells value.keeper
  pub count : ArePassesOf value.targets.cells value.count
  pub watches : All (ArePassesOf value.targets.cells) value.watches
  pub limit : value.targets.limit ≡ value.limit
