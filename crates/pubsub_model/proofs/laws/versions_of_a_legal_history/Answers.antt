use Rattle.pubsub_model.proofs.HistoryLaws.{versions-patched, versions-rows}
use Rattle.pubsub_model.proofs.laws.versions_of_a_legal_history.Goals as goal

pub returns : goal.returns
returns c = record { patched = versions-patched; rows = versions-rows }
