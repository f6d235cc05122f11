use Rattle.group_laws.proofs.RingSenders.{ring-sender}
use Rattle.group_laws.proofs.laws.a_ring_makes_senders_of_its_key_group.Goals as goal

pub returns : goal.returns
returns c = ring-sender
