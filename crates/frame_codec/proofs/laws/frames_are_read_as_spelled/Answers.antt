use Rattle.frame_codec.proofs.ReadingLaws.{read-spelled}
use Rattle.frame_codec.proofs.laws.frames_are_read_as_spelled.Goals as goal

pub returns : goal.returns
returns c = read-spelled
