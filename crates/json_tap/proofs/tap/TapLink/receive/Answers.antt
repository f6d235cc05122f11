use Rattle.json_tap.proofs.Sent.{receive-read, received-kept}
use Rattle.json_tap.proofs.tap.TapLink.receive.Goals as goal

pub invariant_of-self-clause-kept : goal.invariant_of-self-clause-kept
invariant_of-self-clause-kept g c = λ opened.
    let tap = c.args.self.now in
    received-kept g.M.Made.config (g.L.Link.told tap.link.now) (g.L.Link.told c.receive.new.self) c.receive.new.into c.receive.result tap.book.lines.items tap.book.skipped c.receive.ensures.entry (tap.kept opened)

pub invariant_of-self-clause-read : goal.invariant_of-self-clause-read
invariant_of-self-clause-read g c = λ opened.
    let tap = c.args.self.now in
    receive-read g.M.Made.config (g.L.Link.told tap.link.now) (g.L.Link.told c.receive.new.self) c.receive.new.into c.receive.result c.receive.ensures.entry (tap.read opened)
