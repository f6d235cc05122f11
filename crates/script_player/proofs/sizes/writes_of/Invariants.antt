-- The data sets before this one have their quotas.
use Rattle.std.proofs.Common.{◌≡◌, ◌≤◌}
use Rattle.script_player.specs.Sizes.{quotas_by}
use Rattle.script_player.proofs.sizes.writes_of.Given as goal

abbrev pub invariant-loop-set : goal.invariant-loop-set
invariant-loop-set l = record { few : l.sets ≤ 8; writes : l.writes.items ≡ quotas_by l.set l.script.lines }
