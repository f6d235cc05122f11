use Rattle.report_laws.specs.Numbers.{ReaderHasNumbers}
use Rattle.report_laws.proofs.Seeing.{one_more, all_seen}
use Rattle.report_laws.proofs.numbers.see_readers.Goals as goal

pub loop-end-preserved : goal.loop-end-preserved
loop-end-preserved c = one_more ReaderHasNumbers c.args.readers.now c.loop-end.end-index c.end-item.result c.loop-end-test.true c.end-item.is c.loop-end.invariant c.see_reader.ensures

pub returns : goal.returns
returns c = all_seen ReaderHasNumbers c.args.readers.now c.loop-end.end-index c.loop-end-test.false c.loop-end.invariant
