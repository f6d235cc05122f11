use Rattle.frame_codec.proofs.ReadingLaws.{front-spelled}
use Rattle.frame_codec.proofs.laws.fronts_are_read_as_spelled.Goals as goal

pub returns : goal.returns
returns c = front-spelled
