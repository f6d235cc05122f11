use Rattle.std.proofs.Common.{◌≡◌, ℕ, ◌<◌, ◌≤◌, false, length, get_or}
use Rattle.std.specs.Prelude.{◌↔◌, All, IsTrue}
use Rattle.message_guard.specs.Senders.{IsSender, SenderState, turned}
use Rattle.device.specs.Coming.{HasNewToken}
use Rattle.device.proofs.Firsts.{FirstBecome}
use Rattle.device.proofs.sides.turn_each.Given as goal

abbrev pub invariant-loop-k : goal.invariant-loop-k
invariant-loop-k l = record {
  few : length l.raised ≡ 4;
  senders : All IsSender l.senders;
  state : FirstBecome (λ (was is : SenderState). is ≡ turned was l.now) l.k l.fn.senders l.senders;
  raised : (j : ℕ) (d : SenderState) → j < l.k → j < length l.fn.senders → IsTrue (get_or l.raised j false) ↔ HasNewToken l.now (get_or l.fn.senders j d);
  others : (j : ℕ) → l.k ≤ j → get_or l.raised j false ≡ false;
}
