use Rattle.std.proofs.Common.{None}
use Rattle.writer_group.proofs.PostLaws.{AreLent, is-posted, may-fill}
use Rattle.writer_group.proofs.group.Group.post.Goals as goal
use Rattle.writer_group.proofs.group.Group.post.Goals.{After-deref_mut}

lent : (c : After-deref_mut) → AreLent c.args.out.now c.deref.result.now c.deref_mut.result.now c.deref-2.result.now
lent c = record { bytes_are = c.deref.ensures.value; free_is = c.deref_mut.ensures.value; loads_are = c.deref-2.ensures.value }

pub make-requires-clause-may : goal.make-requires-clause-may
make-requires-clause-may c =
    may-fill c.args.config.now c.args.group.now None c.args.self.now c.args.out.now c.deref.result.now c.deref_mut.result.now c.deref-2.result.now c.requires
    (lent (goal.at.make-requires-clause-may c).After-deref_mut)

pub returns : goal.returns
returns c =
    is-posted c.args.config.now c.args.group.now None c.args.self.now c.args.out.now c.deref.result.now c.deref_mut.result.now c.deref-2.result.now
    c.make.new.free c.make.new.ranges c.requires (lent (goal.at.returns c).After-deref_mut) c.make.auto.free c.make.ensures.filled c.make.ensures.capacity
