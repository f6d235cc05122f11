use Rattle.std.proofs.lemmas.List.Elements.{All-more}
use Rattle.report_laws.specs.Numbers.{ReadGroupHasNumbers}
use Rattle.report_laws.proofs.Seeing.{all_seen}
use Rattle.report_laws.proofs.numbers.see_read_groups.Goals as goal

pub loop-end-preserved : goal.loop-end-preserved
loop-end-preserved c = All-more ReadGroupHasNumbers c.args.groups.now c.loop-end.end-index _ c.loop-end-test.true c.loop-end.invariant c.see_read_group.ensures

pub returns : goal.returns
returns c = all_seen ReadGroupHasNumbers c.args.groups.now c.loop-end.end-index c.loop-end-test.false c.loop-end.invariant
