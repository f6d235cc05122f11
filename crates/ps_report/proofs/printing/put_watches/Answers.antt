use Rattle.std.proofs.Common.{arith}
use Rattle.std.proofs.lemmas.Grind.{common_steps}
use Rattle.ps_report.specs.Reports.{reader_name}
use Rattle.ps_report.proofs.printing.put_watches.Goals as goal

pub loop-end-preserved : goal.loop-end-preserved
unfolding reader_name
loop-end-preserved c = grind (arith, common_steps)
