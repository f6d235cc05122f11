use Rattle.mem_edge.proofs.Fated.{told_fated}
use Rattle.mem_edge.proofs.laws.a_memory_link_tells_its_fated_journal.Goals as goal

pub returns : goal.returns
returns c = told_fated
