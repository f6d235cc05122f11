use Rattle.ua_binary.proofs.Laying.{Puts-then}
use Rattle.ua_binary.proofs.data_value.write_data_value.Goals as goal

pub returns-in_default : goal.returns-in_default
returns-in_default c = rw c.in_default.is (Puts-then c.args.pen.now c.put_u8.new.self c.put_variant.new.pen _ _ c.put_u8.ensures c.put_variant.ensures)

pub returns : goal.returns
returns c =
    let front = Puts-then c.args.pen.now c.put_u8-2.new.self c.put_variant-2.new.pen _ _ c.put_u8-2.ensures c.put_variant-2.ensures in
    rw c.in-Some.is (Puts-then c.args.pen.now c.put_variant-2.new.pen c.put_u32.new.self _ _ front c.put_u32.ensures)
