use Rattle.std.proofs.Common.{arith}
use Rattle.reader_group.proofs.Changing.{expired-none, expired-more, expired-all}
use Rattle.reader_group.proofs.feeding.expire_all.Goals as goal

pub loop-index-init : goal.loop-index-init
loop-index-init c = expired-none c.args.now c.args.members.now

pub loop-index-preserved : goal.loop-index-preserved
loop-index-preserved c =
    expired-more c.args.now c.args.members.now c.loop-index.index c.loop-index.members c.expire_at.new.members (omega arith) c.expire_at.ensures.member c.expire_at.ensures.reader
    c.expire_at.ensures.others c.expire_at.ensures.count c.loop-index.invariant

pub returns-clause-members : goal.returns-clause-members
returns-clause-members c = λ seats values are.
    expired-all c.args.now c.args.members.now c.loop-index.index c.loop-index.members (omega arith) c.loop-index.invariant seats values are

pub returns-clause-readers : goal.returns-clause-readers
returns-clause-readers c = c.loop-index.invariant.readers

pub returns-clause-count : goal.returns-clause-count
returns-clause-count c = c.loop-index.invariant.count
