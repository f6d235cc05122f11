use Rattle.message_guard.proofs.Lists.{four_bytes, eight_bytes}
use Rattle.message_guard.proofs.keys.front_of.Goals as goal

pub returns : goal.returns
returns c =
    let front = four_bytes c.args.key_nonce.now c.told-key_nonce in
    let back = eight_bytes c.args.nonce.now c.told-nonce in cc
