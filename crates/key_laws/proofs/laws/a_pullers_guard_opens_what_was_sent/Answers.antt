use Rattle.key_laws.proofs.Known.{pullers_guard_opens}
use Rattle.key_laws.proofs.laws.a_pullers_guard_opens_what_was_sent.Goals as goal

pub returns : goal.returns
returns c = pullers_guard_opens
