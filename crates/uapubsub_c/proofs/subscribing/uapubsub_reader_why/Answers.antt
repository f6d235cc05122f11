use Rattle.std.proofs.Common.{of_calls}
use Rattle.uapubsub_c.specs.Reading.{TellsWaiting}
use Rattle.uapubsub_c.proofs.Answering.{asked-subscriber}
use Rattle.uapubsub_c.proofs.subscribing.uapubsub_reader_why.Goals as goal

pub ask_subscriber-answer-requires-clause-question : goal.ask_subscriber-answer-requires-clause-question
ask_subscriber-answer-requires-clause-question c = record { callable = λ shown sound. search of_calls }

pub returns : goal.returns
returns c =
    let told =
    asked-subscriber _ (TellsWaiting c.args.group c.args.reader) (λ asked answer told. search of_calls) c.args.handle.now c.ask_subscriber-answer.result
    c.ask_subscriber-answer.new.self c.ask_subscriber-answer.ensures in
    record { answer = c.ask_subscriber-answer.result; answered = told; sees = c.tell_why.ensures }
