use Rattle.group_laws.proofs.AnswerParts.{dynamic-parts, fixed-parts}
use Rattle.group_laws.proofs.laws.each_part_is_of_what_was_answered.Goals as goal

pub returns-clause-dynamic : goal.returns-clause-dynamic
returns-clause-dynamic c = dynamic-parts

pub returns-clause-fixed : goal.returns-clause-fixed
returns-clause-fixed c = fixed-parts
