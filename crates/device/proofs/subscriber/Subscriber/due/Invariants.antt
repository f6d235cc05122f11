use Rattle.std.specs.List.{AllWithin, Any}
use Rattle.device.specs.Due.{AreInTime, HasTimeout, TellsFirst}
use Rattle.device.proofs.subscriber.Subscriber.due.Given as goal

abbrev pub invariant-loop-g : goal.invariant-loop-g
invariant-loop-g l =
    TellsFirst l.now (λ t. AllWithin (AreInTime t) l.self.groups.items 0 l.g) (λ t. Any (HasTimeout t) l.self.groups.items) l.first
