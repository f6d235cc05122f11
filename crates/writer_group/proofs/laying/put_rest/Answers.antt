use Rattle.ua_binary.proofs.Laying.{Puts-then}
use Rattle.writer_group.proofs.laying.put_rest.Goals as goal

pub returns : goal.returns
returns c =
    let numbers = Puts-then c.args.pen.now c.put_number_if.new.pen c.put_number_if-2.new.pen _ _ c.put_number_if.ensures c.put_number_if-2.ensures in
    Puts-then c.args.pen.now c.put_number_if-2.new.pen c.put_ids.new.pen _ _ numbers c.put_ids.ensures
