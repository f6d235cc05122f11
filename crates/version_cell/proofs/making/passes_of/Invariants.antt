use Rattle.std.proofs.Common.{◌≡◌, length, None}
use Rattle.version_cell.specs.Strips.{table_of}
use Rattle.version_cell.specs.Making.{AreNew, IsFresh}
use Rattle.version_cell.proofs.making.passes_of.Given as goal

abbrev pub invariant-loop-place : goal.invariant-loop-place
invariant-loop-place g l = record {
  count : length l.passes.items ≡ l.number;
  so_far : l.number ≡ length l.yielded;
  passes : AreNew (table_of l.words) l.terms l.passes.items;
  first : IsFresh (table_of l.words) l.terms None 8 l.first;
}
