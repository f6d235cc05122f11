use Rattle.replay_window.proofs.MarksLemmas.{without_inside, without_below, without_above}
use Rattle.replay_window.proofs.bits.without.Goals as goal

pub returns-clause-inside : goal.returns-clause-inside
returns-clause-inside c = λ i from to. without_inside c.args.word c.args.low c.args.high i c.requires.low_bit c.requires.high_bit from to

pub returns-clause-below : goal.returns-clause-below
returns-clause-below c = λ i below. without_below c.args.word c.args.low c.args.high i c.requires.low_bit c.requires.high_bit below

pub returns-clause-above : goal.returns-clause-above
returns-clause-above c = λ i above bit. without_above c.args.word c.args.low c.args.high i c.requires.low_bit c.requires.high_bit above bit
