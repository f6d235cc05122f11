use Rattle.report_laws.specs.ReaderNames.{HasName}
use Rattle.report_laws.proofs.Seeing.{one_more, all_seen}
use Rattle.report_laws.proofs.names.see_parts.Goals as goal

pub loop-part-preserved : goal.loop-part-preserved
loop-part-preserved c = one_more HasName c.args.parts.now c.loop-part.part-index c.part-item.result c.loop-part-test.true c.part-item.is c.loop-part.invariant c.as_bytes-name.ensures.name

pub returns : goal.returns
returns c = all_seen HasName c.args.parts.now c.loop-part.part-index c.loop-part-test.false c.loop-part.invariant
