use Rattle.std.proofs.Common.{◌+◌, ◌-◌}
use Rattle.bench_groups.specs.Running.{MayTurn}
use Rattle.bench_groups.proofs.writing.Run.take.Given as goal

abbrev pub invariant-loop-turn : goal.invariant-loop-turn
invariant-loop-turn l = MayTurn l.config (l.turns - l.turn + 1) l.self
