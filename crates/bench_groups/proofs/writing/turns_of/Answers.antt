use Rattle.bench_groups.proofs.writing.turns_of.Goals as goal

pub lay-requires-clause-reserved : goal.lay-requires-clause-reserved
lay-requires-clause-reserved c = (c.in_ok-count.ensures.goes_on 0 c.in_ok-made.ensures).reserved
