use Rattle.pubsub_model.proofs.HistoryLaws.{IsLegal-alone}
use Rattle.pubsub_model.proofs.laws.one_thread_is_legal.Goals as goal

pub returns : goal.returns
returns c = IsLegal-alone
