use Rattle.std.proofs.Common.{arith}
use Rattle.message_guard.proofs.Carrying.{place_read}
use Rattle.message_guard.proofs.sender.Sender.may_protect.Goals as goal

pub returns-then-end-payload : goal.returns-then-end-payload
returns-then-end-payload c = (
  λ wrong. cc,
  λ may.
      let same = place_read c.read_header.result _ c.args.datagram.now c.args.mode c.args.self.now c.args.payload c.read_header.ensures.answer c.in-Ok.is may in
      absurd (omega (arith, same, c.in-Ok.end-is, c.if-end-payload.true)),
)
