use Rattle.cmd_keys.proofs.Once.{one_text}
use Rattle.cmd_keys.proofs.laws.a_configuration_has_one_text.Goals as goal

pub returns : goal.returns
returns c = one_text
