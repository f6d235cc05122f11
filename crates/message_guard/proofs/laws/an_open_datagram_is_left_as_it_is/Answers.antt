use Rattle.message_guard.proofs.Plain.{open_is_passed, open_is_left, none_is_accepted}
use Rattle.message_guard.proofs.laws.an_open_datagram_is_left_as_it_is.Goals as goal

pub returns : goal.returns
returns c = record { passed = open_is_passed; left = open_is_left; accepted = none_is_accepted }
