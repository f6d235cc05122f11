use Rattle.std.proofs.Common.{length}
use Rattle.cases_wire.proofs.fields.Case.+set_from.Given as goal

abbrev pub decreases-set_from : goal.decreases-set_from
decreases-set_from l = length l.numbers.now
