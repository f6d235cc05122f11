use Rattle.std.proofs.Common.{refl}
use Rattle.version_cell.proofs.CellLaws.{opening_is}
use Rattle.version_cell.proofs.Fronts.{front_at_first}
use Rattle.version_cell.proofs.making.pass_of.Goals as goal

pub invariant_of-result : goal.invariant_of-result
invariant_of-result c = front_at_first _ c.args.terms.now c.requires.wide c.requires.fresh.1 refl (opening_is _ c.opening.ensures.zeros) refl c.requires.number
