use Rattle.std.proofs.Common.{List, ℕ, sym, subst}
use Rattle.std.specs.Prelude.{Some}
use Rattle.uadp_header.specs.Reading.{IsSecured}
use Rattle.message_guard.specs.Senders.{front_value}
use Rattle.message_guard.proofs.Carrying.{made_carries}
use Rattle.message_guard.proofs.sender.Sender.protect.Goals as goal

pub returns-clause-header : goal.returns-clause-header
returns-clause-header c =
    let front = front_value c.args.mode c.args.self.now in
    subst (λ (bytes : List ℕ). IsSecured bytes (Some front) c.args.payload) (sym c.seal.ensures)
    (made_carries c.args.mode c.args.self.now c.args.datagram.now c.args.payload c.requires.front.header)
