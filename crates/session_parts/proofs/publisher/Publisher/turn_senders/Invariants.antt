use Rattle.std.proofs.Common.{◌≡◌, ℕ, ◌<◌, false, length, get_or}
use Rattle.std.specs.Prelude.{not, ◌==◌}
use Rattle.message_guard.specs.Senders.{SenderState, turned}
use Rattle.session_parts.proofs.Each.{EachTo}
use Rattle.session_parts.proofs.publisher.Publisher.turn_senders.Given as goal

abbrev pub invariant-loop-k : goal.invariant-loop-k
invariant-loop-k l = record {
  few : length l.is_changed ≡ 4;
  each : EachTo (λ (k : ℕ) (old new : SenderState). new ≡ turned old l.moment) l.k l.fn.self.senders.items l.self.senders.items;
  changed : (k : ℕ) → k < l.k → k < length l.fn.self.senders.items → (d : SenderState)
      → get_or l.is_changed k false ≡ not ((get_or l.self.senders.items k d).keys.token == (get_or l.fn.self.senders.items k d).keys.token);
  rest : l.self ≡ record l.fn.self { senders = l.self.senders };
}
