use Rattle.std.proofs.Common.{get_or, subst, arith, ◌≡◌, ◌<◌, length, ap, List}
use Rattle.ps_config.specs.declared.parts.ReaderPart.{ReaderPart}
use Rattle.reader_group.proofs.Made.{new-more, new-members, new-readers}
use Rattle.reader_group.proofs.Seats.{few_readers}
use Rattle.reader_group.proofs.making.new_members.Goals as goal

pub loop-reader-preserved : goal.loop-reader-preserved
loop-reader-preserved c =
    let parts = c.as_slice-reader-items.ensures in
    let i = c.loop-reader.reader-index in
    let part = c.reader-item.result in
    let within : i < length c.args.group.now.reader = omega (arith, ap length parts, c.loop-reader-test.true) in
    let is : part ≡ get_or c.args.group.now.reader i part = subst (λ (list : List ReaderPart). part ≡ get_or list i part) parts c.reader-item.is in
    new-more c.args.group.now i c.loop-reader.members.items c.push.new.self.items part c.new.result within is c.in_ok-push.ensures.items c.new.ensures.member c.new.ensures.reader
    c.loop-reader.invariant

pub returns-clause-members : goal.returns-clause-members
returns-clause-members c = λ config.
    new-members config c.args.group.now c.loop-reader.reader-index c.loop-reader.members.items (omega (arith, ap length c.as_slice-reader-items.ensures)) c.loop-reader.invariant

pub returns-clause-readers : goal.returns-clause-readers
returns-clause-readers c = λ config.
    new-readers config c.args.group.now c.loop-reader.reader-index c.loop-reader.members.items (omega (arith, ap length c.as_slice-reader-items.ensures)) c.loop-reader.invariant

pub returns-clause-few : goal.returns-clause-few
returns-clause-few c =
    let few = few_readers c.args.config.now c.args.group.now c.requires.sound c.requires.group in
    omega (arith, few, c.loop-reader.invariant.count, ap length c.as_slice-reader-items.ensures)
