use Rattle.frame_codec.proofs.ReadingLaws.{read-fits}
use Rattle.frame_codec.proofs.laws.what_is_read_fits.Goals as goal

pub returns : goal.returns
returns c = read-fits
