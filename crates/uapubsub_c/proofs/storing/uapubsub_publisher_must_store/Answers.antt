use Rattle.std.proofs.Common.{of_calls}
use Rattle.uapubsub_c.specs.Storing.{TellsMustStore}
use Rattle.uapubsub_c.proofs.Answering.{asked-publisher}
use Rattle.uapubsub_c.proofs.storing.uapubsub_publisher_must_store.Goals as goal

pub ask_publisher-requires-clause-question : goal.ask_publisher-requires-clause-question
ask_publisher-requires-clause-question c = record { callable = λ shown sound. search of_calls }

pub returns : goal.returns
returns c =
    let told =
    asked-publisher _ TellsMustStore (λ asked answer told. search of_calls) c.args.handle.now c.ask_publisher.result c.ask_publisher.new.self c.ask_publisher.ensures in
    record {
      answer = c.ask_publisher.result;
      is = told;
      number_is = c.number_of.ensures;
    }
