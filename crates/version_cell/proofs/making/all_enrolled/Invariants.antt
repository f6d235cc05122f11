use Rattle.std.proofs.Common.{◌≡◌, length, None}
use Rattle.version_cell.specs.Strips.{table_of}
use Rattle.version_cell.specs.Making.{AreFresh, IsFresh}
use Rattle.version_cell.proofs.making.all_enrolled.Given as goal

abbrev pub invariant-loop-number : goal.invariant-loop-number
invariant-loop-number g l = record {
  count : length l.places.items ≡ l.number;
  places : AreFresh (table_of l.words) l.terms l.places.items;
  first : IsFresh (table_of l.words) l.terms None l.number l.first;
}
