-- Session run, the states: which flags a component has after what a session lived through (OPC 10000-14 6.2.1, PubSubState).
use Rattle.std.specs.Prelude.{List, Bool, true, false, ◌||◌}
use Rattle.pubsub_states.specs.declared.component.Component.{Component}
use Rattle.pubsub_states.specs.declared.component.Component.TheVariants.{Root, Connection, Group, Writer, ReadGroup, Reader}
use Rattle.pubsub_states.specs.declared.flags.Flags.{Flags}
use Rattle.pubsub_states.specs.declared.state.State.{State}
use Rattle.pubsub_states.specs.States.{state_of}
use Rattle.session_model.specs.Steps.{Plan, Step, is_on}
use Rattle.session_model.specs.Deeds.{deeds, is_spent}
use Rattle.session_model.specs.Sends.{is_failing}
use Rattle.session_model.specs.Events.{reader_at}

-- a group has a fault where its last send of the last tick failed, or its sender is spent; a reader where it timed out and no message came since
abbrev pub has_fault : Plan → List Step → Component → Bool
has_fault p steps Root = false
has_fault p steps Connection = false
has_fault p steps (Group g) = is_failing p g steps || is_spent p.config g (deeds p steps)
has_fault p steps (Writer g w) = false
has_fault p steps (ReadGroup r) = false
has_fault p steps (Reader r i) = (reader_at p.config r i steps).late

-- a reader is ready where it held a row, with neither a timeout nor a restart since
abbrev pub is_ready : Plan → List Step → Component → Bool
is_ready p steps Root = true
is_ready p steps Connection = true
is_ready p steps (Group g) = true
is_ready p steps (Writer g w) = true
is_ready p steps (ReadGroup r) = true
is_ready p steps (Reader r i) = (reader_at p.config r i steps).ready

abbrev pub flags_at : Plan → List Step → Component → Flags
flags_at p steps component =
    record { enabled = is_on p.config steps component; fault = has_fault p steps component; ready = is_ready p steps component }

-- State
abbrev pub state_at : Plan → List Step → Component → State
state_at p steps component = state_of (flags_at p steps) component
