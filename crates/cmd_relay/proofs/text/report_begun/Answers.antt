use Rattle.std.proofs.Common.{arith}
use Rattle.cmd_relay.proofs.Reporting.{begun, long}
use Rattle.cmd_relay.proofs.text.report_begun.Goals as goal

pub overflow_sub-len : goal.overflow_sub-len
overflow_sub-len c =
    let four = long c.args.first.now c.args.closed.now c.in_ok-out.out.items c.in_ok-out.ensures in
    omega (arith, four, c.len.ensures)

pub returns : goal.returns
returns c =
    let four = long c.args.first.now c.args.closed.now c.in_ok-out.out.items c.in_ok-out.ensures in
    begun c.args.first.now c.args.closed.now c.in_ok-out.out.items c.truncate.new.self.items _ c.in_ok-out.ensures (omega (arith, four, c.len.ensures)) c.truncate.ensures.items
