use Rattle.cmd_keys.proofs.Found.{protected_is_found}
use Rattle.cmd_keys.proofs.laws.what_is_protected_is_found.Goals as goal

pub returns : goal.returns
returns c = protected_is_found
