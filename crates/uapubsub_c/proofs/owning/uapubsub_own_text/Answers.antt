use Rattle.std.proofs.Common.{of_calls}
use Rattle.uapubsub_c.specs.Owning.{TellsOwn}
use Rattle.uapubsub_c.proofs.Answering.{asked-publisher}
use Rattle.uapubsub_c.proofs.owning.uapubsub_own_text.Goals as goal

pub ask_publisher-answer-requires-clause-question : goal.ask_publisher-answer-requires-clause-question
ask_publisher-answer-requires-clause-question c = record { callable = λ shown sound. search of_calls }

pub returns : goal.returns
returns c =
    let told =
    asked-publisher _ (TellsOwn c.args.set c.args.field) (λ asked answer told. search of_calls) c.args.handle.now c.ask_publisher-answer.result
    c.ask_publisher-answer.new.self c.ask_publisher-answer.ensures in
    record {
      answer = c.ask_publisher-answer.result;
      answered = told;
      seen = c.lay_text.ensures;
    }
