use Rattle.std.proofs.Common.{arith}
use Rattle.chunker.proofs.CoverLaws.{has_each, has_from}
use Rattle.chunker.proofs.cover.has_bits.Goals as goal

pub returns-clause-yes : goal.returns-clause-yes
returns-clause-yes c = λ e i below. has_each c.args.word c.bits-mask.result c.args.high i e (c.bits-mask.ensures.inside i (omega arith) below)

pub returns-clause-no : goal.returns-clause-no
returns-clause-no c = λ each. has_from c.args.word c.bits-mask.result c.args.high (λ i below. c.bits-mask.ensures.inside i (omega arith) below) c.bits-mask.ensures.above each
