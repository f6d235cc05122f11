use Rattle.group_laws.proofs.Items.{nothing-adds, part-adds, whole-item}
use Rattle.group_laws.proofs.laws.a_part_adds_the_item_of_its_answer.Goals as goal

pub returns-clause-answered : goal.returns-clause-answered
returns-clause-answered c = part-adds

pub returns-clause-whole : goal.returns-clause-whole
returns-clause-whole c = whole-item

pub returns-clause-quiet : goal.returns-clause-quiet
returns-clause-quiet c = nothing-adds
