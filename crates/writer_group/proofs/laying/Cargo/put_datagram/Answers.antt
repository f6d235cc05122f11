use Rattle.ua_binary.proofs.Laying.{Puts-then}
use Rattle.writer_group.proofs.laying.Cargo.put_datagram.Goals as goal

pub returns-clause-puts : goal.returns-clause-puts
returns-clause-puts c = Puts-then c.args.pen.now c.put_header.new.pen c.put.new.pen _ _ c.put_header.ensures c.put.ensures
