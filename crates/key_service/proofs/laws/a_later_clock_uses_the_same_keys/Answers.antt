use Rattle.key_service.proofs.Later.{uses_later}
use Rattle.key_service.proofs.laws.a_later_clock_uses_the_same_keys.Goals as goal

pub returns : goal.returns
returns c = uses_later
