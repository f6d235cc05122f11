use Rattle.std.proofs.Common.{ℕ, ◌<◌}
use Rattle.group_laws.specs.Matching.{IsMatchedTo}
use Rattle.writer_group.specs.Parts.{group_at}
use Rattle.cmd_relay.proofs.matching.matched_writer.Given as goal

abbrev pub invariant-loop-g : goal.invariant-loop-g
invariant-loop-g l = (h w : ℕ) → h < l.g → IsMatchedTo l.config l.readers l.index (group_at l.config h) w → ⊥
