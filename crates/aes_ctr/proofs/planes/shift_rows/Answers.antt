use Rattle.aes_ctr.proofs.Rounds.{shifted_full, shifted_block}
use Rattle.aes_ctr.proofs.planes.shift_rows.Goals as goal

pub returns : goal.returns
returns c = record { full = shifted_full c.args.q c.requires; blocks = shifted_block c.args.q c.requires }
