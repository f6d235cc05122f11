use Rattle.ps_config.proofs.KeyOrders.{judged_by_ring}
use Rattle.ps_config.proofs.laws.key_orders_are_the_rings.Goals as goal

pub returns : goal.returns
returns c = judged_by_ring
