use Rattle.session_laws.proofs.HeldRows.Delivering.{delivered-session, opening-session}
use Rattle.session_laws.proofs.witness.what_is_sent_can_come.Goals as goal

pub returns : goal.returns
returns c = record { opening = opening-session; delivered = delivered-session }
