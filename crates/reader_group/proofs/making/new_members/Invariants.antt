use Rattle.reader_group.proofs.Made.{AreNew}
use Rattle.reader_group.proofs.making.new_members.Given as goal

abbrev pub invariant-loop-reader : goal.invariant-loop-reader
invariant-loop-reader l = AreNew l.group l.reader-index l.members.items
