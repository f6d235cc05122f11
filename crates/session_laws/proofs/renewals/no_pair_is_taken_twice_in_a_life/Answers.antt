use Rattle.session_laws.proofs.HeldRows.LifeReadings.{taken-once}
use Rattle.session_laws.proofs.renewals.no_pair_is_taken_twice_in_a_life.Goals as goal

pub returns : goal.returns
returns c = taken-once c.a_renewed_group_takes_no_pair_twice.ensures
