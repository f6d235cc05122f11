use Rattle.std.proofs.Common.{arith, ◌∙◌}
use Rattle.uadp_header.specs.Headers.{security_in}
use Rattle.cmd_keys.proofs.Found.{header_len_is}
use Rattle.cmd_keys.proofs.protecting.write_plain.Goals as goal

pub unreachable-requires : goal.unreachable-requires
unreachable-requires c =
    let twenty = c.header_len-payload.ensures.len ∙ header_len_is (security_in c.front.result) c.front.ensures.written.nonce in
    omega (arith, c.in-Err.ensures.no_room, c.header_len-payload.ensures.exact, twenty, c.requires.room)

pub put_bytes-requires : goal.put_bytes-requires
put_bytes-requires c =
    let twenty = c.header_len-payload.ensures.len ∙ header_len_is (security_in c.front.result) c.front.ensures.written.nonce in
    omega (arith, c.in-Ok.ensures.moved, c.in-Ok.ensures.same_length, c.header_len-payload.ensures.exact, twenty, c.requires.room)

pub put_bytes-requires-2 : goal.put_bytes-requires-2
put_bytes-requires-2 c =
    let twenty = c.header_len-payload.ensures.len ∙ header_len_is (security_in c.front.result) c.front.ensures.written.nonce in
    omega (arith, c.in-Ok.ensures.moved, c.in-Ok.ensures.same_length, c.put_bytes.ensures.moved, c.put_bytes.ensures.same_length, c.header_len-payload.ensures.exact, twenty, c.requires.room)
