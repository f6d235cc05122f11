use Rattle.std.proofs.Common.{◌≡◌, ℕ, ◌*◌, ◌||◌}
use Rattle.chunker.specs.Cover.{has_offset, is_between}
use Rattle.chunker.proofs.cover.mark.Given as goal

abbrev pub invariant-loop-block : goal.invariant-loop-block
invariant-loop-block l = (x : ℕ) → has_offset l.words x ≡ (is_between l.first (64 * l.block) x || has_offset l.fn.words x)
