use Rattle.reader_group.proofs.Lone.{whole-held}
use Rattle.reader_group.proofs.laws.a_lone_key_frame_is_held.Goals as goal

pub returns : goal.returns
returns c = whole-held
