use Rattle.group_keys.specs.Ring.{key_sets}
use Rattle.cmd_keys.proofs.Found.{first_front, keys_of_alone, may_protect}
use Rattle.cmd_keys.proofs.protecting.protect_zeros.Goals as goal

pub protect-requires-clause-front : goal.protect-requires-clause-front
protect-requires-clause-front c =
    let keys = keys_of_alone c.args.set.now (key_sets c.ring_of.result) c.new-sender.result.keys c.ring_of.ensures.sets c.new-sender.ensures.token in
    let first = first_front c.args.set.now c.write_plain-payload.new.sender c.new-sender.result c.write_plain-payload.ensures.sender c.new-sender.ensures.sender c.new-sender.ensures.used keys c.new-sender.ensures.first_block in
    may_protect c.args.set.now c.write_plain-payload.new.sender _ c.write_plain-payload.result first c.ring_of.ensures.token c.write_plain-payload.ensures.plain
