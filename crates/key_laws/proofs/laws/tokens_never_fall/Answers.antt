use Rattle.key_laws.proofs.Rising.{none_lower, token_up}
use Rattle.key_laws.proofs.laws.tokens_never_fall.Goals as goal

pub returns-clause-sender : goal.returns-clause-sender
returns-clause-sender c = token_up

pub returns-clause-guard : goal.returns-clause-guard
returns-clause-guard c = none_lower
