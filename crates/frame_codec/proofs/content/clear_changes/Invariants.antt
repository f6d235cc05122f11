use Rattle.row_words.specs.Patches.{IsPatchOf}
use Rattle.frame_codec.proofs.content.clear_changes.Given as goal

abbrev pub invariant-loop-patch : goal.invariant-loop-patch
invariant-loop-patch l = IsPatchOf l.meta l.patch

abbrev pub decreases-loop-patch : goal.decreases-loop-patch
decreases-loop-patch l = l.patch.mask
