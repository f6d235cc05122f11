use Rattle.std.proofs.Common.{of_calls}
use Rattle.uapubsub_c.specs.Keys.{TellsStanding}
use Rattle.uapubsub_c.proofs.Answering.{asks-publisher}
use Rattle.uapubsub_c.proofs.publishing.uapubsub_publisher_standing.Goals as goal

pub ask_publisher-answer-requires-clause-question : goal.ask_publisher-answer-requires-clause-question
ask_publisher-answer-requires-clause-question c = record { callable = λ shown sound. search of_calls }

pub returns : goal.returns
returns c =
    asks-publisher _ (TellsStanding c.args.keygroup) (λ asked answer told. search of_calls) c.args.handle.now c.ask_publisher-answer.result c.tell_standing.result (c.args.token.now, c.args.used.now) (c.tell_standing.new.token, c.tell_standing.new.used)
    c.ask_publisher-answer.new.self c.ask_publisher-answer.ensures c.tell_standing.ensures.number c.tell_standing.ensures.told c.tell_standing.ensures.untold
