use Rattle.group_laws.proofs.Delivered.{dynamic-delivered, fixed-delivered, left-alone, next-ahead, others-left}
use Rattle.group_laws.proofs.laws.what_a_turn_sends_is_what_a_reader_is_given.Goals as goal

pub returns-clause-dynamic : goal.returns-clause-dynamic
returns-clause-dynamic c = λ course writer is.
    dynamic-delivered course is.order.taken is.order.within is.order.enabled writer is.dynamic is.reads is.frames is.sampled is.behind

pub returns-clause-fixed : goal.returns-clause-fixed
returns-clause-fixed c = λ course writer is.
    fixed-delivered course is.order.taken is.order.within is.order.enabled writer is.fixed is.turn is.reads is.meta

pub returns-clause-others : goal.returns-clause-others
returns-clause-others c = λ course is. others-left course is.order.taken is.order.within is.order.enabled is.dynamic is.some is.others

pub returns-clause-disabled : goal.returns-clause-disabled
returns-clause-disabled c = λ course is. left-alone course is.taken is.within is.disabled

pub returns-clause-ahead : goal.returns-clause-ahead
returns-clause-ahead c = next-ahead
