use Rattle.std.specs.List.{AllWithin, Any}
use Rattle.device.specs.Due.{HasTurnDue, SitsOut, TellsFirst}
use Rattle.device.proofs.due.groups_due.Given as goal

abbrev pub invariant-loop-g : goal.invariant-loop-g
invariant-loop-g l =
    TellsFirst l.now (λ t. AllWithin (SitsOut l.config l.rows l.senders t) l.sides 0 l.g)
    (λ t. Any (HasTurnDue l.config l.rows l.senders t) l.sides) l.first
