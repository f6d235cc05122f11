use Rattle.std.proofs.Common.{◌≡◌, length, take}
use Rattle.std.specs.List.{AllZip}
use Rattle.writer_group.specs.Standing.{AreRowsOf}
use Rattle.device.specs.Sides.{IsOpeningRow}
use Rattle.device.proofs.making.rows_of.Given as goal

abbrev pub invariant-loop-meta : goal.invariant-loop-meta
invariant-loop-meta l = record {
  rows : AreRowsOf l.metas l.rows.items;
  opening : AllZip IsOpeningRow (take l.meta-index l.metas) l.rows.items;
  count : length l.rows.items ≡ l.meta-index;
}
