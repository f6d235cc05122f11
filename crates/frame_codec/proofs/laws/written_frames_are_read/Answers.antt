use Rattle.frame_codec.proofs.ReadingLaws.{written-read}
use Rattle.frame_codec.proofs.WordLaws.{words-read}
use Rattle.frame_codec.proofs.laws.written_frames_are_read.Goals as goal

pub returns-clause-frames : goal.returns-clause-frames
returns-clause-frames c = written-read

pub returns-clause-words : goal.returns-clause-words
returns-clause-words c = words-read
