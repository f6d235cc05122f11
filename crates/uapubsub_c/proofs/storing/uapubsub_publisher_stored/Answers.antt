use Rattle.std.proofs.Common.{of_calls}
use Rattle.uapubsub_c.specs.Storing.{Stores}
use Rattle.uapubsub_c.proofs.Answering.{calls-publisher}
use Rattle.uapubsub_c.proofs.storing.uapubsub_publisher_stored.Goals as goal

pub publisher-requires-clause-moving : goal.publisher-requires-clause-moving
publisher-requires-clause-moving c = record { callable = λ shown sound. search of_calls; leaves = λ old answer new sound moved. search of_calls }

pub returns : goal.returns
returns c =
    calls-publisher _ (Stores) (λ old answer new moved. search of_calls) c.args.handle.now c.publisher.result c.number_of.result c.publisher.new.self
    c.publisher.ensures c.number_of.ensures
