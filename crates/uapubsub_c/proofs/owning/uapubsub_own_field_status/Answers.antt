use Rattle.std.proofs.Common.{of_calls}
use Rattle.uapubsub_c.specs.Owning.{TellsOwnStatus}
use Rattle.uapubsub_c.proofs.Answering.{asks-publisher}
use Rattle.uapubsub_c.proofs.owning.uapubsub_own_field_status.Goals as goal

pub ask_publisher-answer-requires-clause-question : goal.ask_publisher-answer-requires-clause-question
ask_publisher-answer-requires-clause-question c = record { callable = λ shown sound. search of_calls }

pub returns : goal.returns
returns c =
    asks-publisher _ (TellsOwnStatus c.args.set c.args.field) (λ asked answer told. search of_calls) c.args.handle.now c.ask_publisher-answer.result c.tell.result c.args.status.now c.tell.new.told
    c.ask_publisher-answer.new.self c.ask_publisher-answer.ensures c.tell.ensures.number c.tell.ensures.told c.tell.ensures.untold
