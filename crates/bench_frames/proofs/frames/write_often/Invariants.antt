use Rattle.frame_codec.specs.Words.{IsFrameOf}
use Rattle.bench_frames.proofs.frames.write_often.Given as goal

abbrev pub invariant-loop-turn : goal.invariant-loop-turn
invariant-loop-turn l = IsFrameOf l.meta l.frame
