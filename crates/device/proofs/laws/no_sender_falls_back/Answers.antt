use Rattle.device.proofs.Rising.{never-falls}
use Rattle.device.proofs.laws.no_sender_falls_back.Goals as goal

pub returns : goal.returns
returns c = never-falls
