use Rattle.session_laws.proofs.HeldRows.LifeReadings.{taken-rise}
use Rattle.session_laws.proofs.Versions.LifeTokens.{tokens-up}
use Rattle.session_laws.proofs.renewals.tokens_never_fall_in_a_life.Goals as goal

pub returns : goal.returns
returns c = record { protects = tokens-up; takes = taken-rise }
