use Rattle.std.proofs.Common.{◌≤◌}
use Rattle.std.specs.Prelude.{None, vec_capacity}
use Rattle.writer_group.specs.Holding.{cargo_in, envelope_in}
use Rattle.writer_group.proofs.Posts.{PostedSoFar}
use Rattle.writer_group.proofs.posting.post_open.Given as goal

abbrev pub invariant-loop-index : goal.invariant-loop-index
invariant-loop-index l = record {
  so_far : PostedSoFar (envelope_in l.parts) None (cargo_in l.cargo) l.loads l.index l.fn.free l.free l.start l.ranges.items;
  capacity : vec_capacity l.fn.ranges ≤ vec_capacity l.ranges;
}
