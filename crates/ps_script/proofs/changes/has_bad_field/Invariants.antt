use Rattle.std.proofs.Common.{length}
use Rattle.ps_script.proofs.changes.has_bad_field.Given as goal
use Rattle.ps_script.specs.Texts.{words_of}
use Rattle.ps_script.specs.Faults.{field_words}
use Rattle.ps_script.proofs.Taken.{Leaves}

-- the fields so far are taken
abbrev pub invariant-words : goal.invariant-words
invariant-words l = Leaves l.meta.fields l.taken (words_of l.rest) (field_words l.line)

abbrev pub decreases-words : goal.decreases-words
decreases-words l = length l.rest
