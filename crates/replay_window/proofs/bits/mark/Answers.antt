use Rattle.replay_window.proofs.MarksLemmas.{marked_same, marked_other}
use Rattle.replay_window.proofs.bits.mark.Goals as goal

pub returns-clause-marked : goal.returns-clause-marked
returns-clause-marked c = marked_same c.args.words.now c.args.number c.told-words

pub returns-clause-others : goal.returns-clause-others
returns-clause-others c = λ x apart. marked_other c.args.words.now c.args.number x c.told-words apart
