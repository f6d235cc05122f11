use Rattle.std.proofs.Common.{◌≡◌, ℕ, ◌<◌, false, slice_index_or}
use Rattle.std.specs.Str.{bytes_eq}
use Rattle.pubsub_states.specs.declared.component.Component.{Component}
use Rattle.pubsub_states.specs.Names.{name_of}
use Rattle.pubsub_states.proofs.components.position_named.Given as goal

-- none has the name so far
abbrev pub invariant-loop-id : goal.invariant-loop-id
invariant-loop-id l = (k : ℕ) (d : Component) → k < l.id → bytes_eq (name_of l.config (slice_index_or l.components k d)) l.name ≡ false
