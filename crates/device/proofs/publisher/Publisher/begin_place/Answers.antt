use Rattle.std.proofs.Common.{rules}
use Rattle.device.proofs.Begins.{begins-at, begins-by}
use Rattle.device.proofs.publisher.Publisher.begin_place.Goals as goal

pub returns-clause-begun : goal.returns-clause-begun
returns-clause-begun c =
    begins-at _ _ _ _ _ _ c.args.self.now c.begin_at.new.self (search rules) (search rules) (search rules)
    (begins-by c.begin_at.result _ _ _ c.args.self.now c.begin_at.new.self c.begin_at.ensures.begun c.begin_at.ensures.not c.begin_at.ensures.refused)
