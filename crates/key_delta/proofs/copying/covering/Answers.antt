use Rattle.std.proofs.Common.{arith}
use Rattle.key_delta.proofs.FrontLaws.{wider_behind}
use Rattle.key_delta.proofs.copying.covering.Goals as goal

pub returns-else-used-words-clause-zeros : goal.returns-else-used-words-clause-zeros
returns-else-used-words-clause-zeros c = λ words belongs. wider_behind _ c.args.used words (c.used_words-words.ensures.zeros words belongs) (omega (arith, c.if-used-words.false))
