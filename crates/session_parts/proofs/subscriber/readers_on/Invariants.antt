use Rattle.std.proofs.Common.{◌≡◌, ℕ, ◌<◌, false, length, get_or}
use Rattle.pubsub_states.specs.declared.component.Component.TheVariants.{Reader}
use Rattle.pubsub_states.specs.Changes.{flags_in}
use Rattle.session_parts.proofs.subscriber.readers_on.Given as goal

abbrev pub invariant-loop-i : goal.invariant-loop-i
invariant-loop-i l = record {
  few : length l.on ≡ 16;
  each : (k : ℕ) → k < l.i → get_or l.on k false ≡ (flags_in l.tree (Reader l.read_group k)).enabled;
}
