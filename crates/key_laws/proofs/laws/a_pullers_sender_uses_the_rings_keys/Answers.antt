use Rattle.key_laws.proofs.Renewing.{pullers_sender}
use Rattle.key_laws.proofs.laws.a_pullers_sender_uses_the_rings_keys.Goals as goal

pub returns : goal.returns
returns c = pullers_sender
