use Rattle.std.proofs.Common.{of_calls}
use Rattle.uapubsub_c.specs.Owning.{TellsOwnWord}
use Rattle.uapubsub_c.proofs.Answering.{asks-publisher}
use Rattle.uapubsub_c.proofs.owning.uapubsub_own_word.Goals as goal

pub ask_publisher-answer-requires-clause-question : goal.ask_publisher-answer-requires-clause-question
ask_publisher-answer-requires-clause-question c = record { callable = λ shown sound. search of_calls }

pub returns : goal.returns
returns c =
    asks-publisher _ (TellsOwnWord c.args.set c.args.field c.args.kind) (λ asked answer told. search of_calls) c.args.handle.now c.ask_publisher-answer.result c.tell.result c.args.word.now c.tell.new.told
    c.ask_publisher-answer.new.self c.ask_publisher-answer.ensures c.tell.ensures.number c.tell.ensures.told c.tell.ensures.untold
