use Rattle.std.proofs.Common.{◌≡◌}
use Rattle.std.proofs.lemmas.Result.{IfOk-weaker}
use Rattle.cmd_keys.specs.Ends.{TellsAnswer}
use Rattle.cmd_keys.specs.Texts.{exchange_text}
use Rattle.cmd_keys.proofs.Tried.{tells_answer}
use Rattle.cmd_keys.proofs.text.answer_text.Goals as goal

pub returns-clause-answer : goal.returns-clause-answer
returns-clause-answer c =
    let config = c.args.config.now in
    let asked = c.args.asked.now in
    IfOk-weaker c.exchange_text.result (λ text. text.items ≡ exchange_text c.exchange.result) (λ text. TellsAnswer config asked text.items)
    (λ text is. tells_answer config asked text.items (c.exchange.result, c.exchange.ensures, is)) c.exchange_text.ensures
