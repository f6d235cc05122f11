use Rattle.mem_edge.specs.Standings.{at_opening}
use Rattle.mem_edge.proofs.Determined.{run_is}
use Rattle.mem_edge.proofs.laws.a_journal_is_determined_by_its_calls.Goals as goal

pub returns : goal.returns
returns c = λ calls first last state start none answers told. run_is calls first last at_opening state start none answers told
