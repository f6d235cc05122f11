use Rattle.pubsub_model.proofs.OrderLaws.{in_order-unbroken, in_order-held}
use Rattle.pubsub_model.proofs.laws.frames_in_order_are_held.Goals as goal

pub returns : goal.returns
returns c = record { unbroken = in_order-unbroken; held = in_order-held }
