use Rattle.std.proofs.Common.{length, ap, arith}
use Rattle.pubsub_states.proofs.Few.{few-listed}
use Rattle.pubsub_states.proofs.components.Components.as_slice.Goals as goal

pub returns-clause-few : goal.returns-clause-few
returns-clause-few c =
    let e = ap length c.deref.ensures.value in
    omega (arith, e, few-listed _ _ _ _ _ c.self.invariant)
