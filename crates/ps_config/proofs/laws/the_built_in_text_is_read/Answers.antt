use Rattle.ps_config.proofs.BuiltIn.{built_in_is_read}
use Rattle.ps_config.proofs.laws.the_built_in_text_is_read.Goals as goal

pub returns : goal.returns
returns c = built_in_is_read
