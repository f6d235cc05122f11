use Rattle.std.proofs.lemmas.List.Elements.{All-more}
use Rattle.report_laws.proofs.Entries.{BreakHasNumbers}
use Rattle.report_laws.proofs.Seeing.{all_seen}
use Rattle.report_laws.proofs.numbers.see_breaks.Goals as goal

pub loop-at-preserved : goal.loop-at-preserved
loop-at-preserved c = All-more BreakHasNumbers c.args.breaks.now c.loop-at.at-index _ c.loop-at-test.true c.loop-at.invariant (c.see_short.ensures, c.see_short-in-loop-at.ensures)

pub returns : goal.returns
returns c = all_seen BreakHasNumbers c.args.breaks.now c.loop-at.at-index c.loop-at-test.false c.loop-at.invariant
