use Rattle.session_model.specs.Counts.{most_ticks}
use Rattle.session_laws.specs.Witness.{three_plan, three_session}
use Rattle.turn_laws.proofs.Honest.{honest-delivered, honest-none, three-signed}
use Rattle.turn_laws.proofs.witness.signed_sessions_meet_the_premises.Goals as goal

pub returns : goal.returns
returns c =
    let is = c.sessions_of_each_kind_meet_the_premises.ensures.signed in
    record { opening = honest-none; delivered = honest-delivered; signed = three-signed is (c.each_turn_of_a_session_holds.ensures most_ticks three_plan three_session is.plan is.steps_are) }
