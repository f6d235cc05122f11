use Rattle.ua_binary.proofs.Laying.{Puts-then}
use Rattle.uadp_header.proofs.writing.put_block.Goals as goal

pub returns : goal.returns
returns c = Puts-then c.args.pen.now c.put_u32.new.self c.put_bytes.new.self _ _ c.put_u32.ensures c.put_bytes.ensures
