use Rattle.writer_group.proofs.AnswerFrames.{answer-frame}
use Rattle.writer_group.proofs.laws.each_answer_is_a_frame.Goals as goal

pub returns : goal.returns
returns c = λ config. answer-frame
