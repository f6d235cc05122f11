use Rattle.message_guard.proofs.Rings.{keys_of_moment}
use Rattle.message_guard.proofs.laws.a_sender_has_the_keys_of_the_moment.Goals as goal

pub returns : goal.returns
returns c = keys_of_moment
