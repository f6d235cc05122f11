use Rattle.std.proofs.Common.{◌≡◌, ◌≤◌, ◌++◌, map}
use Rattle.std.specs.Prelude.{vec_capacity}
use Rattle.std.specs.List.{range_with_len}
use Rattle.writer_group.specs.declared.load.Load.TheVariants.{Chunk}
use Rattle.writer_group.proofs.planning.push_chunks.Given as goal

abbrev pub invariant-loop-index : goal.invariant-loop-index
invariant-loop-index l = record {
  pushed : l.loads.items ≡ l.fn.loads.items ++ map (Chunk l.frame) (range_with_len 0 l.index);
  capacity : vec_capacity l.fn.loads ≤ vec_capacity l.loads;
}
