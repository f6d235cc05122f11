use Rattle.fixed_layout.proofs.DatagramLaws.{header-datagram, zero-elsewhere, length-datagram, datagram-within}
use Rattle.fixed_layout.proofs.laws.datagrams_are_zero_outside_their_slots.Goals as goal

pub returns : goal.returns
returns c = record { header = header-datagram; zero = zero-elsewhere; end = length-datagram; within = datagram-within }
