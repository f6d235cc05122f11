use Rattle.std.proofs.Common.{arith}
use Rattle.std.proofs.lemmas.Bool.{ltb-true, lt-ltb}
use Rattle.fixed_layout.proofs.SlotLaws.{share-from, share-gives}
use Rattle.fixed_layout.proofs.judge.share_a_byte.Goals as goal

pub returns : goal.returns
returns c = (
  λ is. share-from c.args.one.now c.args.other.now (omega (arith, ltb-true _ _ is)),
  λ share. lt-ltb _ _ (omega (arith, share-gives c.args.one.now c.args.other.now share)),
)
