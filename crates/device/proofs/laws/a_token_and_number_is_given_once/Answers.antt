use Rattle.device.proofs.Rising.{given-once}
use Rattle.device.proofs.laws.a_token_and_number_is_given_once.Goals as goal

pub returns : goal.returns
returns c = given-once
