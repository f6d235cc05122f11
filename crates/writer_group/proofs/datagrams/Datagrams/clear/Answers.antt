use Rattle.writer_group.specs.Needs.{largest_need}
use Rattle.writer_group.proofs.datagrams.Datagrams.clear.Goals as goal

pub returns-clause-reserved : goal.returns-clause-reserved
returns-clause-reserved c = c.forget.ensures.room largest_need c.requires
