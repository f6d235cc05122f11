use Rattle.std.proofs.Common.{of_calls}
use Rattle.uapubsub_c.specs.Aging.{TellsFresh}
use Rattle.uapubsub_c.proofs.Answering.{asked-subscriber}
use Rattle.uapubsub_c.proofs.aging.uapubsub_reader_is_fresh.Goals as goal

pub ask_subscriber-requires-clause-question : goal.ask_subscriber-requires-clause-question
ask_subscriber-requires-clause-question c = record { callable = λ shown sound. search of_calls }

pub returns : goal.returns
returns c =
    let told =
    asked-subscriber _ (TellsFresh c.args.group c.args.reader c.args.now c.args.bound) (λ asked answer told. search of_calls) c.args.handle.now c.ask_subscriber.result c.ask_subscriber.new.self c.ask_subscriber.ensures in
    record {
      answer = c.ask_subscriber.result;
      is = told;
      number_is = c.number_of.ensures;
    }
