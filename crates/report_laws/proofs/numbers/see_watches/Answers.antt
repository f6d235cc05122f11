use Rattle.report_laws.specs.Numbers.{WatchHasNumbers}
use Rattle.report_laws.proofs.Seeing.{one_more, all_seen}
use Rattle.report_laws.proofs.numbers.see_watches.Goals as goal

pub loop-end-preserved : goal.loop-end-preserved
loop-end-preserved c = one_more WatchHasNumbers c.args.watches.now c.loop-end.end-index c.end-item.result c.loop-end-test.true c.end-item.is c.loop-end.invariant c.see_watch.ensures

pub returns : goal.returns
returns c = all_seen WatchHasNumbers c.args.watches.now c.loop-end.end-index c.loop-end-test.false c.loop-end.invariant
