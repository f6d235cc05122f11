-- How the fields of a cell stand for what a contract sees of it.
use Rattle.std.specs.Prelude.{◌≡◌, ◌+◌, ◌^◌, ◌<◌, ◌≤◌, length, sum, take, drop}
use Rattle.dataset_meta.specs.Metas.{IsMeta}
use Rattle.row_words.specs.Shapes.{shape_of}
use Rattle.version_cell.specs.declared.cell.Cell.TheInside.{Inside}
use Rattle.version_cell.specs.Cells.{CellData}
use Rattle.version_cell.specs.Widths.{row_width}
use Rattle.version_cell.specs.Strips.{table_of}

abbrev pub cell_by : Inside → CellData
cell_by c = record { id = table_of c.words; meta = c.meta; quotas = take 8 c.terms }

-- the terms are the eight quotas and the shape of the meta, and the table has room for the lock, the version, the count of
-- numbers, the terms and a row
pub record HasTerms (c : Inside) : Type 0 where
  pub wide : length c.terms ≡ 24
  pub shape : drop 8 c.terms ≡ shape_of c.meta
  pub small : sum (take 8 c.terms) < 2 ^ 63
  pub meta : IsMeta c.meta.fields
  pub room : row_width c.meta + 27 ≤ (table_of c.words).words
