use Rattle.aes_ctr.proofs.Lists.{below_eight}
use Rattle.aes_ctr.proofs.planes.exchange.Goals as goal

pub returns-clause-given : goal.returns-clause-given
returns-clause-given c =
    let g1 = c.swap.ensures.given in let g2 = c.swap-2.ensures.given in let g3 = c.swap-3.ensures.given in let g4 = c.swap-4.ensures.given in
    below_eight _ (g1.0, g2.0, g3.0, g4.0, g1.1, g2.1, g3.1, g4.1)
