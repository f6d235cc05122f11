use Rattle.std.proofs.Common.{Some, length, ap, ◌∙◌, List}
use Rattle.ps_config.specs.Headers.{mode_of}
use Rattle.writer_group.specs.declared.load.Load.{Load}
use Rattle.writer_group.specs.Sealing.{advanced_by}
use Rattle.writer_group.proofs.PostLaws.{AreLent, is-posted, may-fill}
use Rattle.writer_group.proofs.group.Group.post_sealed.Goals as goal
use Rattle.writer_group.proofs.group.Group.post_sealed.Goals.{After-deref_mut}

lent : (c : After-deref_mut) → AreLent c.args.out.now c.deref.result.now c.deref_mut.result.now c.deref-2.result.now
lent c = record { bytes_are = c.deref.ensures.value; free_is = c.deref_mut.ensures.value; loads_are = c.deref-2.ensures.value }

pub make_sealed-requires-clause-may : goal.make_sealed-requires-clause-may
make_sealed-requires-clause-may c =
    may-fill c.args.config.now c.args.group.now (Some c.args.sender.now) c.args.self.now c.args.out.now c.deref.result.now c.deref_mut.result.now
    c.deref-2.result.now c.requires (lent (goal.at.make_sealed-requires-clause-may c).After-deref_mut)

pub returns-clause-posted : goal.returns-clause-posted
returns-clause-posted c =
    is-posted c.args.config.now c.args.group.now (Some c.args.sender.now) c.args.self.now c.args.out.now c.deref.result.now c.deref_mut.result.now
    c.deref-2.result.now c.make_sealed.new.free c.make_sealed.new.ranges c.requires (lent (goal.at.returns-clause-posted c).After-deref_mut)
    c.make_sealed.auto.free c.make_sealed.ensures.filled c.make_sealed.ensures.capacity

pub returns-clause-sender : goal.returns-clause-sender
returns-clause-sender c =
    c.make_sealed.ensures.sender ∙ ap (λ (l : List Load). advanced_by (mode_of c.args.group.now.security) c.args.sender.now (length l)) c.deref-2.ensures.value
