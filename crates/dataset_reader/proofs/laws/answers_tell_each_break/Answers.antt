use Rattle.dataset_reader.proofs.BreakLaws.{tells-break}
use Rattle.dataset_reader.proofs.laws.answers_tell_each_break.Goals as goal

pub returns : goal.returns
returns c = tells-break
