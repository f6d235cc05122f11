-- When a component is operational.
use Rattle.std.proofs.Common.{◌≡◌, Bool, true, false, List, [], ◌∷◌, fold, All, ◌↔◌, refl}
use Rattle.std.specs.List.{AllByRecursion}
use Rattle.std.proofs.lemmas.List.Elements.{All-from_recursion, recursion_from_All}
use Rattle.pubsub_states.specs.declared.component.Component.{Component}
use Rattle.pubsub_states.specs.declared.flags.Flags.{Flags}
use Rattle.pubsub_states.specs.declared.state.State.{State}
use Rattle.pubsub_states.specs.declared.state.State.TheVariants.{Disabled, Paused, Operational, Error, PreOperational}
use Rattle.pubsub_states.specs.Components.{line}
use Rattle.pubsub_states.specs.States.{state_under, state_of}
use Rattle.pubsub_states.specs.Changes.{all_on}

only_all_on : (above : State) (enabled fault ready : Bool)
    → state_under above (record { enabled = enabled; fault = fault; ready = ready }) ≡ Operational
    → (above ≡ Operational) × (record { enabled = enabled; fault = fault; ready = ready } ≡ all_on)
only_all_on above false fault ready h = cc
only_all_on Disabled true fault ready h = cc
only_all_on Paused true fault ready h = cc
only_all_on Error true fault ready h = cc
only_all_on PreOperational true fault ready h = cc
only_all_on Operational true true ready h = cc
only_all_on Operational true false false h = cc
only_all_on Operational true false true h = (refl, refl)

all_on_works : (above : State) (flags : Flags) → above ≡ Operational → flags ≡ all_on → state_under above flags ≡ Operational
all_on_works above flags e f = rw (e, f) refl

only_where_all : (flags : Component → Flags) (above : State) (xs : List Component)
    → fold (λ a lower. state_under a (flags lower)) above xs ≡ Operational
    → (above ≡ Operational) × AllByRecursion (λ lower. flags lower ≡ all_on) xs
only_where_all flags above [] h = (h, tt)
only_where_all flags above (x ∷ xs) h =
    let rest = only_where_all flags (state_under above (flags x)) xs h in
    let here = only_all_on above (flags x).enabled (flags x).fault (flags x).ready rest.0 in
    (here.0, (here.1, rest.1))

where_all : (flags : Component → Flags) (above : State) (xs : List Component)
    → above ≡ Operational → AllByRecursion (λ lower. flags lower ≡ all_on) xs
    → fold (λ a lower. state_under a (flags lower)) above xs ≡ Operational
where_all flags above [] e h = e
where_all flags above (x ∷ xs) e h = where_all flags (state_under above (flags x)) xs (all_on_works above (flags x) e h.0) h.1

pub operational_where_all : (flags : Component → Flags) (component : Component)
    → (state_of flags component ≡ Operational) ↔ All (λ above. flags above ≡ all_on) (line component)
operational_where_all flags component = (
  (λ h. All-from_recursion (λ above. flags above ≡ all_on) (line component) (only_where_all flags Operational (line component) h).1),
  (λ h. where_all flags Operational (line component) refl (recursion_from_All (λ above. flags above ≡ all_on) (line component) h)),
)
