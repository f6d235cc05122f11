use Rattle.mem_edge.proofs.Honesty.{told_honest, told_waits}
use Rattle.mem_edge.proofs.laws.a_memory_link_is_honest.Goals as goal

pub returns-clause-received : goal.returns-clause-received
returns-clause-received c = told_honest

pub returns-clause-waiting : goal.returns-clause-waiting
returns-clause-waiting c = told_waits
