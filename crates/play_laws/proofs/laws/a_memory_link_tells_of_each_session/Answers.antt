use Rattle.play_laws.proofs.Nothings.{few-nothings}
use Rattle.play_laws.proofs.laws.a_memory_link_tells_of_each_session.Goals as goal

pub returns : goal.returns
returns c = few-nothings
