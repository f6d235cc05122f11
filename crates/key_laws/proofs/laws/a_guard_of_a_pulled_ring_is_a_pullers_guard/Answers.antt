use Rattle.key_laws.proofs.Known.{gives_guards, pulled_at_clock, pulled_at_zero}
use Rattle.key_laws.proofs.laws.a_guard_of_a_pulled_ring_is_a_pullers_guard.Goals as goal

pub returns-clause-pulled : goal.returns-clause-pulled
returns-clause-pulled c = pulled_at_zero

pub returns-clause-pulled_at : goal.returns-clause-pulled_at
returns-clause-pulled_at c = pulled_at_clock

pub returns-clause-guard : goal.returns-clause-guard
returns-clause-guard c = gives_guards
