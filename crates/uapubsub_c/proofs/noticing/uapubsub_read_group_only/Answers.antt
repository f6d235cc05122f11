use Rattle.std.proofs.Common.{of_calls}
use Rattle.uapubsub_c.specs.Noticing.{TakesOnly}
use Rattle.uapubsub_c.proofs.Answering.{calls-subscriber}
use Rattle.uapubsub_c.proofs.noticing.uapubsub_read_group_only.Goals as goal

pub subscriber-requires-clause-moving : goal.subscriber-requires-clause-moving
subscriber-requires-clause-moving c = record { callable = λ shown sound. search of_calls; leaves = λ old answer new sound moved. search of_calls }

pub returns : goal.returns
returns c =
    calls-subscriber _ (TakesOnly c.args.group c.args.number) (λ old answer new moved. search of_calls) c.args.handle.now c.subscriber.result c.number_of.result c.subscriber.new.self
    c.subscriber.ensures c.number_of.ensures
