use Rattle.fixed_layout.proofs.FaultLaws.{row-fault, row-fault-read}
use Rattle.fixed_layout.proofs.laws.rows_are_refused_at_their_first_fault.Goals as goal

pub returns : goal.returns
returns c = λ fields bytes fault meta all. (row-fault fields bytes fault meta all, row-fault-read fields bytes fault meta)
