use Rattle.message_guard.proofs.Rings.{known_in_ring}
use Rattle.message_guard.proofs.laws.a_guard_of_the_ring_has_the_senders_keys.Goals as goal

pub returns : goal.returns
returns c = known_in_ring
