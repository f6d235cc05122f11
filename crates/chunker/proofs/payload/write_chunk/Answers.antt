use Rattle.std.proofs.Common.{length, ◌++◌}
use Rattle.std.specs.Int.{w16, w32, to_le_bytes}
use Rattle.ua_binary.proofs.Laying.{Puts-then}
use Rattle.chunker.proofs.payload.write_chunk.Goals as goal

pub returns : goal.returns
returns c =
    let chunk = c.args.chunk.now in
    let number = to_le_bytes w16 chunk.number in
    let offset = to_le_bytes w32 chunk.offset in
    let total = to_le_bytes w32 chunk.total in
    let len = to_le_bytes w32 (length chunk.data.now) in
    let two = Puts-then c.args.pen.now c.put_u16.new.self c.put_u32.new.self number offset c.put_u16.ensures c.put_u32.ensures in
    let three = Puts-then c.args.pen.now c.put_u32.new.self c.put_u32-2.new.self (number ++ offset) total two c.put_u32-2.ensures in
    let four = Puts-then c.args.pen.now c.put_u32-2.new.self c.put_u32-3.new.self (number ++ offset ++ total) len three c.put_u32-3.ensures in
    Puts-then c.args.pen.now c.put_u32-3.new.self c.put_bytes.new.self (number ++ offset ++ total ++ len) chunk.data.now four c.put_bytes.ensures
