use Rattle.fixed_layout.proofs.DatagramLaws.{held-datagram, free-datagram}
use Rattle.fixed_layout.proofs.laws.frames_stand_in_their_slots.Goals as goal

pub returns : goal.returns
returns c = record { held = held-datagram; free = free-datagram }
