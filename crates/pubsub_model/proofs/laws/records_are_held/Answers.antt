use Rattle.pubsub_model.proofs.RecordsLaws.{held-whole, held-change, held-break}
use Rattle.pubsub_model.proofs.laws.records_are_held.Goals as goal

pub returns : goal.returns
returns c = record { whole = held-whole; change = held-change; broken = held-break }
