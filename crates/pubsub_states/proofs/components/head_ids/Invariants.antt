use Rattle.std.specs.Prelude.{◌≡◌, ℕ, ◌+◌, ◌<◌, List, length, slice_index}
use Rattle.pubsub_states.specs.Components.{before_family}
use Rattle.pubsub_states.proofs.components.head_ids.Given as goal

-- the ids so far
pub record HasIds (first : ℕ) (counts ids : List ℕ) (family : ℕ) : Type 0 where
  pub five : length ids ≡ 5
  pub done : (k : ℕ) → k < family → slice_index ids k ≡ first + before_family counts k

abbrev pub invariant-loop-family : goal.invariant-loop-family
invariant-loop-family l = HasIds l.first l.counts l.ids l.family
