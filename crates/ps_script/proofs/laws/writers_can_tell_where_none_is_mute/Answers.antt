use Rattle.ps_script.proofs.Mute.{none_mute_tell, tell_none_mute}
use Rattle.ps_script.proofs.laws.writers_can_tell_where_none_is_mute.Goals as goal

pub returns : goal.returns
returns c = λ set groups. (none_mute_tell set groups, tell_none_mute set groups)
