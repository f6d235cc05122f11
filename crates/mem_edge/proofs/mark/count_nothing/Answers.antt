use Rattle.std.proofs.Common.{arith}
use Rattle.mem_edge.proofs.Counted.{entries_counted, ends_full, starts_full}
use Rattle.mem_edge.proofs.mark.count_nothing.Goals as goal

pub returns-clause-counted : goal.returns-clause-counted
returns-clause-counted c = λ datagrams. entries_counted datagrams c.args.first.now c.args.log.now _ (omega arith)

pub returns-then-first-eq18446744073709551615-clause-full : goal.returns-then-first-eq18446744073709551615-clause-full
returns-then-first-eq18446744073709551615-clause-full c = λ datagrams. starts_full datagrams c.args.first.now c.args.log.now (omega arith) (omega arith)

pub returns-then-mark-clause-full : goal.returns-then-mark-clause-full
returns-then-mark-clause-full c = λ datagrams. ends_full datagrams c.args.first.now c.args.log.now _ (omega arith) c.if-mark.true
