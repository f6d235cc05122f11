use Rattle.key_laws.proofs.Lower.{changes-nothing}
use Rattle.key_laws.proofs.laws.a_ring_of_lower_tokens_changes_nothing_sent.Goals as goal

pub returns : goal.returns
returns c = changes-nothing
