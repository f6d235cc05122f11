use Rattle.mem_edge.proofs.Delivered.{fated-delivers}
use Rattle.mem_edge.proofs.laws.a_fated_journal_delivers_what_its_sends_queue.Goals as goal

pub returns : goal.returns
returns c = fated-delivers
