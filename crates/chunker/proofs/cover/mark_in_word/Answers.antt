use Rattle.std.proofs.Common.{arith}
use Rattle.chunker.proofs.CoverLaws.{word_laid}
use Rattle.chunker.proofs.cover.mark_in_word.Goals as goal

pub returns : goal.returns
returns c = λ x. word_laid c.args.words.now c.args.block c.args.low c.args.high c.bits.result x (omega (arith, c.told-words)) c.requires.high_bit c.bits.ensures.inside c.bits.ensures.below c.bits.ensures.above
