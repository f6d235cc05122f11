use Rattle.std.proofs.Common.{◌≡◌, ◌≤◌}
use Rattle.std.specs.Prelude.{Some, vec_capacity}
use Rattle.writer_group.specs.Holding.{cargo_in, envelope_in}
use Rattle.writer_group.specs.Sealing.{advanced_by}
use Rattle.writer_group.proofs.Posts.{PostedSoFar}
use Rattle.writer_group.proofs.posting.post_secured.Given as goal

abbrev pub invariant-loop-index : goal.invariant-loop-index
invariant-loop-index l = record {
  so_far : PostedSoFar (envelope_in l.parts) (Some l.fn.sender) (cargo_in l.cargo) l.loads l.index l.fn.free l.free l.start l.ranges.items;
  capacity : vec_capacity l.fn.ranges ≤ vec_capacity l.ranges;
  sender_is : l.sender ≡ advanced_by l.mode l.fn.sender l.index;
}
