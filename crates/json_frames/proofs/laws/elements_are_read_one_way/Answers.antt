use Rattle.json_frames.proofs.ReadOnce.{elements_once}
use Rattle.json_frames.proofs.laws.elements_are_read_one_way.Goals as goal

pub returns : goal.returns
returns c = elements_once
