use Rattle.message_guard.proofs.Once.{numbered_once}
use Rattle.message_guard.proofs.laws.no_token_and_number_come_twice.Goals as goal

pub returns : goal.returns
returns c = numbered_once
