use Rattle.std.proofs.Common.{ℕ, ◌+◌, ◌-◌, subst, arith}
use Rattle.bench_groups.specs.Running.{MayTurn}
use Rattle.bench_groups.proofs.Turns.{fewer}
use Rattle.bench_groups.proofs.writing.Run.take.Goals as goal

pub turn-requires : goal.turn-requires
turn-requires c = fewer c.args.config.now c.loop-turn.self 1 (c.args.turns - c.loop-turn.turn + 1) (omega arith) c.loop-turn.invariant

pub loop-turn-preserved : goal.loop-turn-preserved
loop-turn-preserved c =
    subst (λ (turns : ℕ). MayTurn c.args.config.now turns c.turn.new.self) (omega arith)
    (c.in_ok-count.ensures.goes_on (c.args.turns - c.loop-turn.turn) c.loop-turn.invariant)
