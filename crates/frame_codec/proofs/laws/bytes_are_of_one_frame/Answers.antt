use Rattle.frame_codec.proofs.ReadingLaws.{one-frame}
use Rattle.frame_codec.proofs.laws.bytes_are_of_one_frame.Goals as goal

pub returns : goal.returns
returns c = one-frame
