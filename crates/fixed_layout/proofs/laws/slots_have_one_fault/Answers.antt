use Rattle.fixed_layout.proofs.JudgeLaws.{one-fault, no-fault}
use Rattle.fixed_layout.proofs.laws.slots_have_one_fault.Goals as goal

pub returns : goal.returns
returns c = record { one = one-fault; none = no-fault }
