use Rattle.play_laws.proofs.Nothings.{tells-to-the-end}
use Rattle.play_laws.proofs.laws.a_new_memory_link_tells_to_the_end.Goals as goal

pub returns : goal.returns
returns c = tells-to-the-end
