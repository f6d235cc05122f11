use Rattle.std.proofs.Common.{Option, Some, sym, subst}
use Rattle.std.specs.Prelude.{IfSome}
use Rattle.message_guard.specs.Senders.{IsSender, SenderState}
use Rattle.lane_groups.specs.Passing.{HasCome}
use Rattle.lane_groups.proofs.Beginning.{come-some}
use Rattle.lane_groups.proofs.lane.Lane.come_to.Goals as goal

pub returns-in-Some-clause-come : goal.returns-in-Some-clause-come
returns-in-Some-clause-come c =
    subst (λ (o : Option SenderState). HasCome c.args.moment o c.turn_to.result (Some c.turn_to.new.self)) (sym c.in-Some.is)
    (come-some c.args.moment _ c.turn_to.new.self c.turn_to.result c.turn_to.ensures.state c.turn_to.ensures.changed (subst (λ (o : Option SenderState). IfSome o IsSender) c.in-Some.is c.requires))
