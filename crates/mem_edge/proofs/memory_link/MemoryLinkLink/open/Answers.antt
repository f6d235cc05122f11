use Rattle.mem_edge.proofs.Patience.{opened_lasts, same_lasts}
use Rattle.mem_edge.proofs.Waiting.{once_from_fates}
use Rattle.mem_edge.proofs.memory_link.MemoryLinkLink.open.Goals as goal

pub reopen-requires : goal.reopen-requires
reopen-requires c = once_from_fates c.args.fates.now c.requires.fates

pub returns-in-Ok-clause-lasts : goal.returns-in-Ok-clause-lasts
returns-in-Ok-clause-lasts c = opened_lasts _ _ c.in-Ok.ensures.empty c.in-Ok.ensures.tells

pub returns-in-Err-clause-lasts : goal.returns-in-Err-clause-lasts
returns-in-Err-clause-lasts c = same_lasts _ _ c.in-Err.ensures.refused.0
