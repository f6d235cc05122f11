use Rattle.std.proofs.Common.{of_calls}
use Rattle.uapubsub_c.specs.Setting.{SetsWord}
use Rattle.uapubsub_c.proofs.Answering.{calls-publisher}
use Rattle.uapubsub_c.proofs.setting.uapubsub_set_word.Goals as goal

pub publisher-requires-clause-moving : goal.publisher-requires-clause-moving
publisher-requires-clause-moving c = record { callable = λ shown sound. search of_calls; leaves = λ old answer new sound moved. search of_calls }

pub returns : goal.returns
returns c =
    calls-publisher _ (SetsWord c.args.set c.args.field c.args.kind c.args.word) (λ old answer new moved. search of_calls) c.args.handle.now c.publisher.result c.number_of.result c.publisher.new.self
    c.publisher.ensures c.number_of.ensures
