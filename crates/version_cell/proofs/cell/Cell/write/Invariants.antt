use Rattle.std.proofs.Common.{◌≡◌, ◌⊎◌}
use Rattle.version_cell.specs.Passes.{HasLeft, SeesMore}
use Rattle.version_cell.proofs.cell.Cell.write.Given as goal

abbrev pub invariant-loop : goal.invariant-loop
invariant-loop g l = (l.pass ≡ l.initial.pass) ⊎ (HasLeft l.initial.pass × SeesMore l.initial.pass l.pass)
