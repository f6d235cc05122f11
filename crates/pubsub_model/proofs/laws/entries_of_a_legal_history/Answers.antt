use Rattle.pubsub_model.proofs.HistoryLaws.{entry-version, length-history}
use Rattle.pubsub_model.proofs.laws.entries_of_a_legal_history.Goals as goal

pub returns : goal.returns
returns c = record { authors = entry-version; length = length-history }
