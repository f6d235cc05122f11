use Rattle.std.proofs.Common.{of_calls}
use Rattle.uapubsub_c.specs.Listing.{TellsIndex}
use Rattle.uapubsub_c.proofs.Answering.{asks-config}
use Rattle.uapubsub_c.proofs.listing.uapubsub_index.Goals as goal

pub returns : goal.returns
returns c =
    asks-config _ (TellsIndex c.args.list c.args.of c.args.name.now) (λ asked answer told. search of_calls) c.args.handle.now c.ask_config-answer.result c.tell.result c.args.index.now c.tell.new.told
    c.ask_config-answer.new.self c.ask_config-answer.ensures c.tell.ensures.number c.tell.ensures.told c.tell.ensures.untold
