use Rattle.frame_codec.specs.Words.{IsFrameOf}
use Rattle.dataset_reader.specs.Reader.{IsReaderOf}
use Rattle.bench_frames.proofs.cadence.take_frames.Given as goal

abbrev pub invariant-loop-turn : goal.invariant-loop-turn
invariant-loop-turn l = IsFrameOf l.meta l.frame × IsReaderOf l.meta l.reader
