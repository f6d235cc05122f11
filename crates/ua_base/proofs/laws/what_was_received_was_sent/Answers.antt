use Rattle.ua_base.proofs.Honest.{received_sent}
use Rattle.ua_base.proofs.laws.what_was_received_was_sent.Goals as goal

pub returns : goal.returns
returns c = received_sent
