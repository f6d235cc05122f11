-- What a contract sees of a cell.
use Rattle.std.specs.Prelude.{◌≡◌, ℕ, ◌^◌, ◌<◌, List, ◌++◌, length, sum}
use Rattle.atomic_table.specs.Seated.{TableId}
use Rattle.dataset_meta.specs.Metas.{MetaData, IsMeta}
use Rattle.row_words.specs.Shapes.{shape_of}

-- the cell's name, the meta of its rows, and how many entries each of its eight authors may make
pub record CellData : Type 0 where
  pub id : TableId
  pub meta : MetaData
  pub quotas : List ℕ

abbrev pub terms_of : List ℕ → MetaData → List ℕ
terms_of quotas meta = quotas ++ shape_of meta

pub record IsCell (cell : CellData) : Type 0 where
  pub eight : length cell.quotas ≡ 8
  pub small : sum cell.quotas < 2 ^ 63
  pub meta : IsMeta cell.meta.fields
