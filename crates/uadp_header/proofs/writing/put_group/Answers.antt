use Rattle.ua_binary.proofs.Laying.{Puts-then}
use Rattle.uadp_header.specs.Spelling.{group_bytes}
use Rattle.uadp_header.proofs.writing.put_group.Goals as goal

pub returns : goal.returns
unfolding group_bytes
returns c =
    let id = Puts-then c.args.pen.now c.put_u8.new.self c.put_u16_if.new.pen _ _ c.put_u8.ensures c.put_u16_if.ensures in
    let version = Puts-then c.args.pen.now c.put_u16_if.new.pen c.put_u32_if.new.pen _ _ id c.put_u32_if.ensures in
    let message_number = Puts-then c.args.pen.now c.put_u32_if.new.pen c.put_u16_if-2.new.pen _ _ version c.put_u16_if-2.ensures in
    let sequence = Puts-then c.args.pen.now c.put_u16_if-2.new.pen c.put_u16_if-3.new.pen _ _ message_number c.put_u16_if-3.ensures in
    rw c.group_flags.ensures at sequence
