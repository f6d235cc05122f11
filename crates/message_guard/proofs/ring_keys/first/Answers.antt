use Rattle.group_keys.specs.Ring.{key_sets}
use Rattle.group_keys.proofs.Moments.{found_by_token}
use Rattle.message_guard.proofs.ring_keys.first.Goals as goal

pub returns-clause-found : goal.returns-clause-found
returns-clause-found c = found_by_token (key_sets c.args.ring.now) 0 c.at.result.now c.args.ring.now.tokens_rise c.at.ensures.last
