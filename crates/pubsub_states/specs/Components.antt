-- The components of a configuration and their ids, which count from 0: root, connection, each group followed by its writers, each read
-- group followed by its readers.
use Rattle.std.specs.Prelude.{ℕ, ◌+◌, ◌<◌, Bool, true, false, ◌&&◌, ◌==◌, List, [], ◌∷◌, ◌++◌, length, map, take, sum, slice_index, ⊤}
use Rattle.std.specs.List.{list_any, range_with_len}
use Rattle.ps_config.specs.declared.parts.Config.{Config}
use Rattle.pubsub_states.specs.declared.component.Component.{Component}
use Rattle.pubsub_states.specs.declared.component.Component.TheVariants.{Root, Connection, Group, Writer, ReadGroup, Reader}

-- how many writers each group has, and how many readers each read group
pub record Counts : Type 0 where
  pub writers : List ℕ
  pub readers : List ℕ

abbrev pub counts_of : Config → Counts
counts_of config = record {
  writers = map (λ group. length group.writer) config.group;
  readers = map (λ group. length group.reader) config.readgroup;
}

-- heads, from a number on, each followed by so many members
abbrev pub families : (ℕ → Component) → (ℕ → ℕ → Component) → ℕ → List ℕ → List Component
families head member from [] = []
families head member from (n ∷ counts) =
    (head from ∷ map (member from) (range_with_len 0 n)) ++ families head member (from + 1) counts

-- the components in the order of their ids
abbrev pub components : Counts → List Component
components counts = Root ∷ Connection ∷ (families Group Writer 0 counts.writers ++ families ReadGroup Reader 0 counts.readers)

-- the component is one of the configuration's
abbrev pub IsAmong : Counts → Component → Type 0
IsAmong counts Root = ⊤
IsAmong counts Connection = ⊤
IsAmong counts (Group g) = g < length counts.writers
IsAmong counts (Writer g w) = w < slice_index counts.writers g
IsAmong counts (ReadGroup r) = r < length counts.readers
IsAmong counts (Reader r i) = i < slice_index counts.readers r

-- how many components stand before the head of a family: the heads before it and their members
abbrev pub before_family : List ℕ → ℕ → ℕ
before_family counts family = family + sum (take family counts)

-- the first id after the groups and their writers
abbrev pub first_read_group : Counts → ℕ
first_read_group counts = 2 + length counts.writers + sum counts.writers

abbrev pub id_of : Counts → Component → ℕ
id_of counts Root = 0
id_of counts Connection = 1
id_of counts (Group g) = 2 + before_family counts.writers g
id_of counts (Writer g w) = 2 + before_family counts.writers g + 1 + w
id_of counts (ReadGroup r) = first_read_group counts + before_family counts.readers r
id_of counts (Reader r i) = first_read_group counts + before_family counts.readers r + 1 + i

-- an id of the configuration
abbrev pub IsId : Counts → ℕ → Type 0
IsId counts id = id < length (components counts)

-- a component with all above it, from the root down
abbrev pub line : Component → List Component
line Root = Root ∷ []
line Connection = Root ∷ Connection ∷ []
line (Group g) = Root ∷ Connection ∷ Group g ∷ []
line (Writer g w) = Root ∷ Connection ∷ Group g ∷ Writer g w ∷ []
line (ReadGroup r) = Root ∷ Connection ∷ ReadGroup r ∷ []
line (Reader r i) = Root ∷ Connection ∷ ReadGroup r ∷ Reader r i ∷ []

abbrev pub is_same : Component → Component → Bool
is_same Root Root = true
is_same Connection Connection = true
is_same (Group g) (Group h) = g == h
is_same (Writer g w) (Writer h v) = g == h && w == v
is_same (ReadGroup r) (ReadGroup q) = r == q
is_same (Reader r i) (Reader q j) = r == q && i == j
is_same _ _ = false

-- the component, or one above it
abbrev pub is_at_or_above : Component → Component → Bool
is_at_or_above upper lower = list_any (is_same upper) (line lower)

abbrev pub is_reader : Component → Bool
is_reader (Reader r i) = true
is_reader _ = false
