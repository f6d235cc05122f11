use Rattle.ua_binary.proofs.Laying.{Puts-then}
use Rattle.uadp_header.specs.Spelling.{security_bytes}
use Rattle.uadp_header.proofs.writing.put_security.Goals as goal

pub returns : goal.returns
unfolding security_bytes
returns c =
    let token = Puts-then c.args.pen.now c.put_u8.new.self c.put_u32.new.self _ _ c.put_u8.ensures c.put_u32.ensures in
    let nonce = Puts-then c.args.pen.now c.put_u32.new.self c.put_nonce.new.pen _ _ token c.put_nonce.ensures in
    rw c.security_flags.ensures at nonce
