-- State: a component's state by its flags and those of the components above it (OPC 10000-14, PubSubState).
use Rattle.std.specs.Prelude.{ℕ, Bool, true, false, not, List, codes, fold, if◌then◌else◌}
use Rattle.pubsub_states.specs.declared.state.State.{State}
use Rattle.pubsub_states.specs.declared.state.State.TheVariants.{Disabled, Paused, Operational, Error, PreOperational}
use Rattle.pubsub_states.specs.declared.flags.Flags.{Flags}
use Rattle.pubsub_states.specs.declared.component.Component.{Component}
use Rattle.pubsub_states.specs.Components.{line}

-- the numbers of PubSubState
abbrev pub number_of : State → ℕ
number_of Disabled = 0
number_of Paused = 1
number_of Operational = 2
number_of Error = 3
number_of PreOperational = 4

abbrev pub word_of : State → List ℕ
word_of Disabled = codes "disabled"
word_of Paused = codes "paused"
word_of Operational = codes "operational"
word_of Error = codes "error"
word_of PreOperational = codes "preoperational"

abbrev pub is_operational : State → Bool
is_operational Operational = true
is_operational _ = false

-- a component's state under that of its parent
abbrev pub state_under : State → Flags → State
state_under above flags =
    if not flags.enabled then Disabled
    else if not (is_operational above) then Paused
    else if flags.fault then Error
    else if not flags.ready then PreOperational
    else Operational

-- nothing stands above the root
abbrev pub state_of : (Component → Flags) → Component → State
state_of flags component = fold (λ above lower. state_under above (flags lower)) Operational (line component)
