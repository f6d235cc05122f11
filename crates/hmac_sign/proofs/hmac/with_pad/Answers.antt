use Rattle.hmac_sign.proofs.Bytes.{mixed_with_pad}
use Rattle.std.proofs.Common.{arith}
use Rattle.hmac_sign.proofs.hmac.with_pad.Goals as goal

pub returns : goal.returns
returns c =
    mixed_with_pad c.args.block.now c.loop-byte.byte-items 64 c.args.pad c.told-block c.loop-byte-test.array_long
    (λ k below. c.loop-byte.invariant.below k (omega arith))
