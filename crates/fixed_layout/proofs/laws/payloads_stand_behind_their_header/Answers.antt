use Rattle.fixed_layout.proofs.DatagramLaws.{datagram-split, length-payload}
use Rattle.fixed_layout.proofs.laws.payloads_stand_behind_their_header.Goals as goal

pub returns : goal.returns
returns c = record { split = datagram-split; length = length-payload }
