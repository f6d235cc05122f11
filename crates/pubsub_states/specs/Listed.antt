-- What is kept of a configuration's components.
use Rattle.std.specs.Prelude.{◌≡◌, ℕ, ◌+◌, ◌≤◌, List, length, slice_index, sum}
use Rattle.pubsub_states.specs.declared.component.Component.{Component}
use Rattle.pubsub_states.specs.Components.{before_family, components}

-- the ids of the heads of these families, of which the first has this id, and of what comes after the last family
abbrev pub AreHeadIds : ℕ → List ℕ → List ℕ → Type 0
AreHeadIds first counts ids = (family : ℕ) → family ≤ length counts → slice_index ids family ≡ first + before_family counts family

pub record IsListed (writers readers group_ids read_group_ids : List ℕ) (in_order : List Component) : Type 0 where
  pub list : in_order ≡ components (record { writers = writers; readers = readers })
  pub few_groups : length writers ≤ 4
  pub few_read_groups : length readers ≤ 4
  pub few_writers : sum writers ≤ 16
  pub few_readers : sum readers ≤ 16
  pub groups : AreHeadIds 2 writers group_ids
  pub read_groups : AreHeadIds (2 + length writers + sum writers) readers read_group_ids
