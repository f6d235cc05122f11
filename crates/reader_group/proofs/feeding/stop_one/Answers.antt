use Rattle.reader_group.proofs.Changing.{one-stopped, readers-stopped}
use Rattle.reader_group.proofs.feeding.stop_one.Goals as goal

pub returns-clause-members : goal.returns-clause-members
returns-clause-members c =
    one-stopped c.args.index c.args.why c.args.members.now c.stop_at.new.members c.requires c.stop_at.ensures.member c.stop_at.ensures.others c.stop_at.ensures.count

pub returns-clause-readers : goal.returns-clause-readers
returns-clause-readers c = readers-stopped c.args.index c.args.members.now c.stop_at.new.members c.requires c.stop_at.ensures.reader c.stop_at.ensures.others c.stop_at.ensures.count
