-- The flags of a tree's components after any list of changes, the latest first.
use Rattle.std.specs.Prelude.{◌≡◌, ℕ, Bool, true, false, not, ◌==◌, List, [], ◌∷◌, slice_get, unwrap_or, if◌then◌else◌}
use Rattle.ps_config.specs.declared.parts.Config.{Config}
use Rattle.pubsub_states.specs.declared.flags.Flags.{Flags}
use Rattle.pubsub_states.specs.declared.component.Component.{Component}
use Rattle.pubsub_states.specs.Components.{Counts, counts_of, IsAmong, id_of, is_reader}

-- what a call does to the component with an id
pub data Change : Type 0 where
  Enable : ℕ → Change
  Disable : ℕ → Change
  Fault : ℕ → Bool → Change
  Ready : ℕ → Bool → Change

-- the last switch decides; all are enabled at first
abbrev pub is_enabled : List Change → ℕ → Bool
is_enabled [] id = true
is_enabled (Enable other ∷ before) id = if other == id then true else is_enabled before id
is_enabled (Disable other ∷ before) id = if other == id then false else is_enabled before id
is_enabled (change ∷ before) id = is_enabled before id

-- the last that was reported of it; none has a fault at first
abbrev pub has_fault : List Change → ℕ → Bool
has_fault [] id = false
has_fault (Fault other on ∷ before) id = if other == id then on else has_fault before id
has_fault (change ∷ before) id = has_fault before id

-- the last that was reported of it, or else what it is at first
abbrev pub is_ready : Bool → List Change → ℕ → Bool
is_ready at_first [] id = at_first
is_ready at_first (Ready other on ∷ before) id = if other == id then on else is_ready at_first before id
is_ready at_first (change ∷ before) id = is_ready at_first before id

-- every component but a reader is ready at first
abbrev pub flags_after : Counts → List Change → Component → Flags
flags_after counts changes component = record {
  enabled = is_enabled changes (id_of counts component);
  fault = has_fault changes (id_of counts component);
  ready = is_ready (not (is_reader component)) changes (id_of counts component);
}

-- before any change
abbrev pub opening_flags : Component → Flags
opening_flags component = record { enabled = true; fault = false; ready = not (is_reader component) }

-- what is seen of a tree: the flags stand in the order of ids
pub record TreeValue : Type 0 where
  pub counts : Counts
  pub flags : List Flags

abbrev pub all_on : Flags
all_on = record { enabled = true; fault = false; ready = true }

abbrev pub no_flags : Flags
no_flags = record { enabled = false; fault = false; ready = false }

abbrev pub flags_at : TreeValue → ℕ → Flags
flags_at tree id = unwrap_or (slice_get tree.flags id) no_flags

abbrev pub flags_in : TreeValue → Component → Flags
flags_in tree component = flags_at tree (id_of tree.counts component)

abbrev pub changed : Change → ℕ → Flags → Flags
changed (Enable other) id flags = if other == id then record flags { enabled = true } else flags
changed (Disable other) id flags = if other == id then record flags { enabled = false } else flags
changed (Fault other on) id flags = if other == id then record flags { fault = on } else flags
changed (Ready other on) id flags = if other == id then record flags { ready = on } else flags

-- the change, and nothing else
pub record Changes (change : Change) (old new : TreeValue) : Type 0 where
  pub counts : new.counts ≡ old.counts
  pub flags : (id : ℕ) → flags_at new id ≡ changed change id (flags_at old id)

-- the tree has the configuration's components, and their flags after these changes
pub record StandsAfter (config : Config) (changes : List Change) (tree : TreeValue) : Type 0 where
  pub counts : tree.counts ≡ counts_of config
  pub flags : (component : Component) → IsAmong tree.counts component
      → flags_in tree component ≡ flags_after tree.counts changes component

-- a tree that was made for the configuration, and then went through these changes and no others
abbrev pub IsRun : Config → List Change → TreeValue → Type 0
IsRun config [] tree = StandsAfter config [] tree
IsRun config (change ∷ before) tree = (old : TreeValue) × IsRun config before old × Changes change old tree
