use Rattle.std.proofs.Common.{of_calls}
use Rattle.uapubsub_c.specs.Noticing.{TellsRefused}
use Rattle.uapubsub_c.proofs.Answering.{asks-subscriber}
use Rattle.uapubsub_c.proofs.noticing.uapubsub_read_group_refused.Goals as goal

pub ask_subscriber-answer-requires-clause-question : goal.ask_subscriber-answer-requires-clause-question
ask_subscriber-answer-requires-clause-question c = record { callable = λ shown sound. search of_calls }

pub returns : goal.returns
returns c =
    asks-subscriber _ (TellsRefused c.args.group) (λ asked answer told. search of_calls) c.args.handle.now c.ask_subscriber-answer.result c.tell.result c.args.refused.now c.tell.new.told
    c.ask_subscriber-answer.new.self c.ask_subscriber-answer.ensures c.tell.ensures.number c.tell.ensures.told c.tell.ensures.untold
