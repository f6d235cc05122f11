use Rattle.chunker.proofs.CoverLaws.{ones_inside, ones_below, ones_above}
use Rattle.chunker.proofs.cover.bits.Goals as goal

pub returns-clause-inside : goal.returns-clause-inside
returns-clause-inside c = λ i from to. ones_inside c.args.low c.args.high i c.requires.high_bit from to

pub returns-clause-below : goal.returns-clause-below
returns-clause-below c = λ i below. ones_below c.args.low c.args.high i c.requires.ordered c.requires.high_bit below

pub returns-clause-above : goal.returns-clause-above
returns-clause-above c = λ i above. ones_above c.args.low c.args.high i c.requires.ordered c.requires.high_bit above
