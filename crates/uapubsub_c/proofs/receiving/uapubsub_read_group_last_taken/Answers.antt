use Rattle.std.proofs.Common.{of_calls}
use Rattle.uapubsub_c.specs.Receiving.{TellsLastTaken}
use Rattle.uapubsub_c.proofs.Answering.{asks-subscriber}
use Rattle.uapubsub_c.proofs.receiving.uapubsub_read_group_last_taken.Goals as goal

pub ask_subscriber-answer-requires-clause-question : goal.ask_subscriber-answer-requires-clause-question
ask_subscriber-answer-requires-clause-question c = record { callable = λ shown sound. search of_calls }

pub returns : goal.returns
returns c =
    asks-subscriber _ (TellsLastTaken c.args.group) (λ asked answer told. search of_calls) c.args.handle.now c.ask_subscriber-answer.result c.tell.result c.args.taken.now c.tell.new.told
    c.ask_subscriber-answer.new.self c.ask_subscriber-answer.ensures c.tell.ensures.number c.tell.ensures.told c.tell.ensures.untold
