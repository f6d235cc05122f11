use Rattle.device.proofs.Begins.{released-by}
use Rattle.device.proofs.publisher.Publisher.is_released.Goals as goal

pub returns-in-Some : goal.returns-in-Some
returns-in-Some c = released-by c.covers.result c.args.keygroup c.args.self.now c.index.result.now _ c.requires.keygroup c.index.ensures c.in-Some.is c.covers.ensures.0 c.covers.ensures.1
