use Rattle.frame_codec.proofs.ReadingLaws.{grown-read}
use Rattle.frame_codec.proofs.laws.grown_frames_are_read_cut.Goals as goal

pub returns : goal.returns
returns c = grown-read
