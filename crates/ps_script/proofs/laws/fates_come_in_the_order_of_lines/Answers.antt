use Rattle.std.proofs.Common.{refl}
use Rattle.ps_script.proofs.Patching.{fate_more, no_fate_more}
use Rattle.ps_script.proofs.laws.fates_come_in_the_order_of_lines.Goals as goal

pub returns-clause-none : goal.returns-clause-none
returns-clause-none c = refl

pub returns-clause-fate : goal.returns-clause-fate
returns-clause-fate c = fate_more

pub returns-clause-other : goal.returns-clause-other
returns-clause-other c = no_fate_more
