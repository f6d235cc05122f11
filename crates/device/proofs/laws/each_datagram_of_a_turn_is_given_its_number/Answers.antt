use Rattle.device.proofs.Rising.{gives-each}
use Rattle.device.proofs.laws.each_datagram_of_a_turn_is_given_its_number.Goals as goal

pub returns : goal.returns
returns c = gives-each
