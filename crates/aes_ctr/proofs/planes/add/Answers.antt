use Rattle.aes_ctr.proofs.Rounds.{sum_full, sum_block}
use Rattle.aes_ctr.proofs.planes.add.Goals as goal

pub returns : goal.returns
returns c = rw c.sums.ensures record {
  full = sum_full c.args.q c.requires.left c.args.k c.requires.right;
  blocks = sum_block c.args.q c.requires.left c.args.k c.requires.right;
}
