-- The names that lines speak of.
use Rattle.std.specs.Prelude.{ℕ, List, map, flat_map, position, Option}
use Rattle.std.specs.Str.{bytes_eq}
use Rattle.dataset_meta.specs.Metas.{MetaData}
use Rattle.ps_config.specs.declared.parts.Config.{Config}
use Rattle.ps_config.specs.Sound.{component_names}

-- the readers of all read groups, in order
unfoldable pub reader_names : Config → List (List ℕ)
reader_names config = flat_map (λ group. map (λ reader. reader.name) group.reader) config.readgroup

-- the place of a name among others
abbrev pub named : List (List ℕ) → List ℕ → Option ℕ
named names name = position (λ other. bytes_eq other name) names

-- the place of the component: its id
abbrev pub component_named : Config → List ℕ → Option ℕ
component_named config name = named (component_names config) name

abbrev pub reader_named : Config → List ℕ → Option ℕ
reader_named config name = named (reader_names config) name

abbrev pub set_named : List MetaData → List ℕ → Option ℕ
set_named metas name = position (λ meta. bytes_eq meta.name name) metas
