use Rattle.cmd_keys.proofs.Tried.{tells_answer}
use Rattle.cmd_keys.proofs.laws.each_key_that_is_tried_opens.Goals as goal

pub returns : goal.returns
returns c = tells_answer
