use Rattle.std.proofs.Common.{rules, refl}
use Rattle.version_cell.proofs.Strips.{wide_parts}
use Rattle.version_cell.proofs.cut.wide.Goals as goal

pub returns : goal.returns
returns g c = wide_parts _ c.args.words.now c.copy_from_slice.new.self _ (search rules) refl
