use Rattle.key_laws.proofs.Known.{readers_guard, readers_ring}
use Rattle.key_laws.proofs.laws.a_readers_guard_is_a_pullers_guard.Goals as goal

pub returns-clause-ring : goal.returns-clause-ring
returns-clause-ring c = readers_ring

pub returns-clause-guard : goal.returns-clause-guard
returns-clause-guard c = readers_guard
