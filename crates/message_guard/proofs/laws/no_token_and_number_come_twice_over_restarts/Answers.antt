use Rattle.message_guard.proofs.Once.{numbered_over}
use Rattle.message_guard.proofs.laws.no_token_and_number_come_twice_over_restarts.Goals as goal

pub returns : goal.returns
returns c = numbered_over
