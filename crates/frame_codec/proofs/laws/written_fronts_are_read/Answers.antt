use Rattle.frame_codec.proofs.ReadingLaws.{raw-front-read}
use Rattle.frame_codec.proofs.laws.written_fronts_are_read.Goals as goal

pub returns : goal.returns
returns c = raw-front-read
