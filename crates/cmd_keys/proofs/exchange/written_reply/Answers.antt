use Rattle.std.proofs.Common.{refl, rules, arith}
use Rattle.key_service.specs.Spelling.{reply_bytes}
use Rattle.key_service.proofs.Laid.{taken_first}
use Rattle.cmd_keys.proofs.Sizes.{reply_short}
use Rattle.cmd_keys.proofs.exchange.written_reply.Goals as goal

pub unreachable-requires : goal.unreachable-requires
unreachable-requires c =
    let short = reply_short c.args.keys.now c.requires.reply in
    omega (arith, c.in-Err.ensures.no_room, short, c.requires.room)

pub returns-clause-reply : goal.returns-clause-reply
returns-clause-reply c = let taken = taken_first (reply_bytes c.args.keys.now) _ c.write_reply.new.pen refl c.in-Ok.ensures in search (rules, taken)
