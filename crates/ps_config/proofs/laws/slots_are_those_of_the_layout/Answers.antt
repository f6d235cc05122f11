use Rattle.ps_config.proofs.SlotFaults.{judged_by_layout, read_by_layout}
use Rattle.ps_config.proofs.laws.slots_are_those_of_the_layout.Goals as goal

pub returns-clause-writers : goal.returns-clause-writers
returns-clause-writers c = judged_by_layout

pub returns-clause-readers : goal.returns-clause-readers
returns-clause-readers c = read_by_layout
