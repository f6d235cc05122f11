use Rattle.play_laws.proofs.Nothings.{played-over}
use Rattle.play_laws.proofs.witness.a_play_over_a_new_link_is_played_over_it.Goals as goal

pub returns : goal.returns
returns c = played-over
