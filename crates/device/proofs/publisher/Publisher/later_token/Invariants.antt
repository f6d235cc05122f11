use Rattle.std.proofs.Common.{ℕ, ◌<◌}
use Rattle.std.specs.List.{HoldsAt}
use Rattle.message_guard.specs.Senders.{SenderState}
use Rattle.device.specs.Resuming.{IsEarlier}
use Rattle.device.specs.Storing.{pair_in}
use Rattle.device.proofs.publisher.Publisher.later_token.Given as goal

abbrev pub invariant-loop-k : goal.invariant-loop-k
invariant-loop-k l =
    (keygroup : ℕ) → keygroup < l.k
    → HoldsAt (λ (sender : SenderState). ¬ IsEarlier l.now (pair_in l.state.words keygroup).0 sender.sets) l.self.senders.items keygroup
