use Rattle.std.proofs.Common.{◌≡◌, ℕ, ◌<◌, false, length, get_or}
use Rattle.pubsub_states.specs.declared.component.Component.TheVariants.{Writer}
use Rattle.pubsub_states.specs.Changes.{flags_in}
use Rattle.pubsub_states.specs.States.{state_of, is_operational}
use Rattle.session_parts.proofs.publisher.writers_on.Given as goal

abbrev pub invariant-loop-w : goal.invariant-loop-w
invariant-loop-w l = record {
  few : length l.on ≡ 16;
  each : (k : ℕ) → k < l.w → get_or l.on k false ≡ is_operational (state_of (flags_in l.tree) (Writer l.group k));
}
