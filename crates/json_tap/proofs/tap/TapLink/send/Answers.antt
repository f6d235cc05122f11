use Rattle.json_tap.proofs.Sent.{send-kept, send-read, settled, left-alone}
use Rattle.json_tap.proofs.tap.TapLink.send.Goals as goal

pub invariant_of-self-clause-kept : goal.invariant_of-self-clause-kept
invariant_of-self-clause-kept g c = λ opened.
    let tap = c.args.self.now in
    left-alone g.M.Made.config (g.L.Link.told tap.link.now) tap.book.lines.items c.line_for.new.self.lines.items tap.book.skipped c.line_for.new.self.skipped c.line_for.ensures.lines c.line_for.ensures.skipped (tap.kept opened)

pub returns-clause-line : goal.returns-clause-line
returns-clause-line g c =
    let tap = c.args.self.now in
    settled tap.config.now g.M.Made.config c.args.datagram.now c.send-sent.result c.in-Ok.line tap.book.lines.items c.line_for.new.self.lines.items c.settle.new.self.lines.items tap.book.skipped c.line_for.new.self.skipped c.settle.new.self.skipped tap.same_config c.in-Ok.ensures.line c.line_for.ensures.lines c.line_for.ensures.skipped c.settle.ensures

pub invariant_of-self-2-clause-kept : goal.invariant_of-self-2-clause-kept
invariant_of-self-2-clause-kept g c = λ opened.
    let tap = c.args.self.now in
    send-kept g.M.Made.config (g.L.Link.told tap.link.now) (g.L.Link.told c.send-sent.new.self) c.args.datagram.now c.send-sent.result tap.book.lines.items c.settle.new.self.lines.items tap.book.skipped c.settle.new.self.skipped c.send-sent.ensures.entry
    (settled tap.config.now g.M.Made.config c.args.datagram.now c.send-sent.result c.in-Ok.line tap.book.lines.items c.line_for.new.self.lines.items c.settle.new.self.lines.items tap.book.skipped c.line_for.new.self.skipped c.settle.new.self.skipped tap.same_config c.in-Ok.ensures.line c.line_for.ensures.lines c.line_for.ensures.skipped c.settle.ensures)
    (tap.kept opened)

pub invariant_of-self-2-clause-read : goal.invariant_of-self-2-clause-read
invariant_of-self-2-clause-read g c = λ opened.
    let tap = c.args.self.now in
    send-read tap.config.now g.M.Made.config (g.L.Link.told tap.link.now) (g.L.Link.told c.send-sent.new.self) c.args.datagram.now c.send-sent.result tap.book.lines.items tap.book.skipped
    tap.same_config c.send-sent.ensures.entry c.in-Ok.ensures.read (tap.kept opened) (tap.read opened)
