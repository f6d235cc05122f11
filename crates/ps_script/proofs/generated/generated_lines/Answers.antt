use Rattle.ps_script.proofs.Demo.{acts_more}
use Rattle.ps_script.proofs.generated.generated_lines.Goals as goal

pub loop-index-preserved : goal.loop-index-preserved
loop-index-preserved c = acts_more c.loop-index.lines.items c.add_line.new.lines.items c.loop-index.index c.generated_act-act.result c.loop-index.invariant c.in_ok-add_line.ensures c.generated_act-act.ensures
