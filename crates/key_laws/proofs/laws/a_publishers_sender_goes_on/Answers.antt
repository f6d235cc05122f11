use Rattle.key_laws.proofs.Known.{publisher_goes_on}
use Rattle.key_laws.proofs.laws.a_publishers_sender_goes_on.Goals as goal

pub returns : goal.returns
returns c = publisher_goes_on
