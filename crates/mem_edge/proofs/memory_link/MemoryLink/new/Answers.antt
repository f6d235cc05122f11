use Rattle.std.proofs.Common.{ap}
use Rattle.mem_edge.specs.MemoryLinks.{patience_in}
use Rattle.mem_edge.proofs.memory_link.MemoryLink.new.Goals as goal

pub returns-clause-patience : goal.returns-clause-patience
returns-clause-patience c = ap patience_in c.new.ensures.told
