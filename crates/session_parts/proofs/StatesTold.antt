-- What the tree tells of states.
use Rattle.std.proofs.Common.{◌≡◌, ap, arith, ℕ, zero, suc, ◌<◌, List, [], ◌∷◌, length}
use Rattle.std.specs.Prelude.{slice_index}
use Rattle.pubsub_states.specs.declared.component.Component.{Component}
use Rattle.pubsub_states.specs.declared.component.Component.TheVariants.{Root, Connection, Group, Writer, ReadGroup, Reader}
use Rattle.pubsub_states.specs.declared.flags.Flags.{Flags}
use Rattle.pubsub_states.specs.declared.state.State.TheVariants.{Operational}
use Rattle.pubsub_states.specs.Components.{IsAmong}
use Rattle.pubsub_states.specs.Changes.{TreeValue, flags_in}
use Rattle.pubsub_states.specs.States.{state_of, state_under}
use Rattle.session_parts.specs.Standing.{HasFlags}

below : (counts : List ℕ) (k i : ℕ) → i < slice_index counts k → k < length counts
below [] k i within = absurd (omega (arith, within))
below (x ∷ counts) zero i within = omega arith
below (x ∷ counts) (suc k) i within = omega (arith, below counts k i within)

-- where the tree has these flags it tells of these states
pub state-told : (flags : Component → Flags) (tree : TreeValue) (component : Component) → IsAmong tree.counts component → HasFlags flags tree
    → state_of (flags_in tree) component ≡ state_of flags component
state-told flags tree Root among has = ap (state_under Operational) (has Root tt)
state-told flags tree Connection among has = λ i. state_under (state_under Operational (has Root tt i)) (has Connection tt i)
state-told flags tree (Group g) among has =
    λ i. state_under (state_under (state_under Operational (has Root tt i)) (has Connection tt i)) (has (Group g) among i)
state-told flags tree (Writer g w) among has =
    let above = below tree.counts.writers g w among in
    λ i. state_under (state_under (state_under (state_under Operational (has Root tt i)) (has Connection tt i)) (has (Group g) above i)) (has (Writer g w) among i)
state-told flags tree (ReadGroup r) among has =
    λ i. state_under (state_under (state_under Operational (has Root tt i)) (has Connection tt i)) (has (ReadGroup r) among i)
state-told flags tree (Reader r k) among has =
    let above = below tree.counts.readers r k among in
    λ i. state_under (state_under (state_under (state_under Operational (has Root tt i)) (has Connection tt i)) (has (ReadGroup r) above i)) (has (Reader r k) among i)
