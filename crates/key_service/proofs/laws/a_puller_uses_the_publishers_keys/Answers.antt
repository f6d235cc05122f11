use Rattle.key_service.proofs.Used.{puller_uses}
use Rattle.key_service.proofs.laws.a_puller_uses_the_publishers_keys.Goals as goal

pub returns : goal.returns
returns c = puller_uses
