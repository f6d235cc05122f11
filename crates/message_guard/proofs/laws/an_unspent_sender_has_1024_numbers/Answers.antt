use Rattle.message_guard.proofs.Once.{numbers_remain}
use Rattle.message_guard.proofs.laws.an_unspent_sender_has_1024_numbers.Goals as goal

pub returns : goal.returns
returns c = numbers_remain
