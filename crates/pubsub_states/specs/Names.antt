-- The names of components, by which scripts name them.
use Rattle.std.specs.Prelude.{◌≢◌, ℕ, List, [], codes, map, position, slice_get, AllPairs, Option}
use Rattle.std.specs.Option.{option_map_or}
use Rattle.std.specs.Str.{bytes_eq}
use Rattle.ps_config.specs.declared.parts.Config.{Config}
use Rattle.pubsub_states.specs.declared.component.Component.{Component}
use Rattle.pubsub_states.specs.declared.component.Component.TheVariants.{Root, Connection, Group, Writer, ReadGroup, Reader}
use Rattle.pubsub_states.specs.Components.{components, counts_of}

abbrev pub name_of : Config → Component → List ℕ
name_of config Root = codes "root"
name_of config Connection = codes "connection"
name_of config (Group g) = option_map_or (λ group. group.name) (slice_get config.group g) []
name_of config (Writer g w) =
    option_map_or (λ group. option_map_or (λ writer. writer.name) (slice_get group.writer w) []) (slice_get config.group g) []
name_of config (ReadGroup r) = option_map_or (λ group. group.name) (slice_get config.readgroup r) []
name_of config (Reader r i) =
    option_map_or (λ group. option_map_or (λ reader. reader.name) (slice_get group.reader i) []) (slice_get config.readgroup r) []

-- the id of the component that has the name, the first where several had it
abbrev pub id_named : Config → List ℕ → Option ℕ
id_named config name = position (λ component. bytes_eq (name_of config component) name) (components (counts_of config))

-- no two components have one name
abbrev pub HaveOwnNames : Config → Type 0
HaveOwnNames config = AllPairs (λ one other. one ≢ other) (map (name_of config) (components (counts_of config)))
