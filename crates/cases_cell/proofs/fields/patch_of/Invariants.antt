use Rattle.row_words.specs.Patches.{IsPatchOf}
use Rattle.cases_cell.proofs.fields.patch_of.Given as goal

abbrev pub invariant-loop-word : goal.invariant-loop-word
invariant-loop-word l = IsPatchOf l.meta l.patch
