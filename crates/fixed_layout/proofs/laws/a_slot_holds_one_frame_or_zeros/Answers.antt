use Rattle.fixed_layout.proofs.DatagramLaws.{payload-holds}
use Rattle.fixed_layout.proofs.laws.a_slot_holds_one_frame_or_zeros.Goals as goal

pub returns : goal.returns
returns g c = payload-holds
