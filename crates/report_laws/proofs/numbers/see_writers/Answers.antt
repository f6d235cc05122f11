use Rattle.std.proofs.Common.{sym}
use Rattle.report_laws.specs.Numbers.{WriterHasNumbers}
use Rattle.report_laws.proofs.Seeing.{one_more, all_seen}
use Rattle.report_laws.proofs.numbers.see_writers.Goals as goal

pub loop-end-preserved : goal.loop-end-preserved
loop-end-preserved c = one_more WriterHasNumbers c.args.writers.now c.loop-end.end-index c.end-item.result c.loop-end-test.true c.end-item.is c.loop-end.invariant (rw (sym c.as_slice.ensures) c.logs_have_numbers.ensures)

pub returns : goal.returns
returns c = all_seen WriterHasNumbers c.args.writers.now c.loop-end.end-index c.loop-end-test.false c.loop-end.invariant
