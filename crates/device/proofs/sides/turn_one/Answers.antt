use Rattle.std.proofs.Common.{◌≢◌, subst}
use Rattle.std.specs.Prelude.{◌↔◌, IsTrue}
use Rattle.message_guard.specs.Senders.{SenderState}
use Rattle.device.proofs.sides.turn_one.Goals as goal

pub returns-clause-changed : goal.returns-clause-changed
returns-clause-changed c =
    subst (λ (s : SenderState). IsTrue c.turn_to.result ↔ (s.keys.token ≢ c.args.sender.now.keys.token)) c.turn_to.ensures.state c.turn_to.ensures.changed
