use Rattle.version_cell.proofs.Keeps.{copies}
use Rattle.version_cell.proofs.Calls.{same_name}
use Rattle.version_cell.proofs.cell.Cell.split.Goals as goal

pub split_pass-place-requires : goal.split_pass-place-requires
split_pass-place-requires c =
    record { own = same_name c.self.inside c.self.invariant _ c.self.view_is c.pass.inside c.pass.invariant _ c.pass.view_is c.requires.own; rule = copies _ _ }
