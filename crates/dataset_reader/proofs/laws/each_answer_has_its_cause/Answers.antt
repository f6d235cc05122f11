use Rattle.std.proofs.Common.{refl}
use Rattle.dataset_reader.proofs.AnswerLaws.{frame-tells, begins-frame}
use Rattle.dataset_reader.proofs.CountLaws.{frame-counts, frame-waits}
use Rattle.dataset_reader.proofs.laws.each_answer_has_its_cause.Goals as goal

pub returns : goal.returns
returns c = record { cause = frame-tells; waiting = frame-waits; counted = frame-counts; fresh = λ none. refl; frame = begins-frame; cut = λ kept why none. refl }
