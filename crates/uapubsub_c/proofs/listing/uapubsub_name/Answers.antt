use Rattle.std.proofs.Common.{of_calls}
use Rattle.uapubsub_c.specs.Listing.{TellsName}
use Rattle.uapubsub_c.proofs.Answering.{asked-config}
use Rattle.uapubsub_c.proofs.listing.uapubsub_name.Goals as goal

pub returns : goal.returns
returns c =
    let told =
    asked-config _ (TellsName c.args.list c.args.of c.args.index) (λ asked answer told. search of_calls) c.args.handle.now c.ask_config-answer.result
    c.ask_config-answer.new.self c.ask_config-answer.ensures in
    record { answer = c.ask_config-answer.result; answered = told; seen = c.lay_name.ensures }
