use Rattle.dataset_writer.specs.Standing.{HoldsRowOf}
use Rattle.bench_frames.proofs.cadence.take_turns.Given as goal

abbrev pub invariant-loop-now : goal.invariant-loop-now
invariant-loop-now l = HoldsRowOf l.meta l.writer

abbrev pub decreases-loop-now : goal.decreases-loop-now
decreases-loop-now l = l.writer.left
