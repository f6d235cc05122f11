use Rattle.key_laws.proofs.Renewing.{kept, renewed_at_once, renewed_covered, renewed_exactly}
use Rattle.key_laws.proofs.laws.a_renewed_sender_is_the_publishers.Goals as goal

pub returns-clause-exactly : goal.returns-clause-exactly
returns-clause-exactly c = renewed_exactly

pub returns-clause-covered : goal.returns-clause-covered
returns-clause-covered c = renewed_covered

pub returns-clause-kept : goal.returns-clause-kept
returns-clause-kept c = kept

pub returns-clause-at_once : goal.returns-clause-at_once
returns-clause-at_once c = renewed_at_once
