use Rattle.std.proofs.lemmas.List.Elements.{All-more}
use Rattle.report_laws.proofs.Entries.{EntryHasNumbers}
use Rattle.report_laws.proofs.Seeing.{all_seen}
use Rattle.report_laws.proofs.numbers.logs_have_numbers.Goals as goal

pub loop-entry-preserved : goal.loop-entry-preserved
loop-entry-preserved c = All-more EntryHasNumbers c.args.log.now c.loop-entry.entry-index _ c.loop-entry-test.true c.loop-entry.invariant (c.see_number.ensures, c.see_number-in-loop-entry.ensures)

pub returns : goal.returns
returns c = all_seen EntryHasNumbers c.args.log.now c.loop-entry.entry-index c.loop-entry-test.false c.loop-entry.invariant
