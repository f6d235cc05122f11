use Rattle.std.proofs.Common.{◌≡◌, ℕ, ◌*◌, ◌<◌, true}
use Rattle.chunker.specs.Cover.{has_offset}
use Rattle.chunker.proofs.cover.is_full.Given as goal

abbrev pub invariant-loop-word : goal.invariant-loop-word
invariant-loop-word l = (x : ℕ) → x < 64 * l.word-index → has_offset l.words x ≡ true
