-- How a gateway lives through a relay: what it was shown at each round, and its tick and its pump. Lists have the latest first.
use Rattle.std.specs.Prelude.{◌≡◌, ℕ, ◌<◌, List, [], ◌∷◌, length, slice_get, slice_index_or, Some}
use Rattle.ps_config.specs.declared.parts.Config.{Config}
use Rattle.session_model.specs.Closing.{reader_places}
use Rattle.session_model.specs.Steps as steps
use Rattle.session_model.specs.Steps.{Plan, Step}
use Rattle.target_cells.specs.declared.origin.Origin.{Origin}
use Rattle.version_cell.specs.Known.{Known}
use Rattle.gateway_core.specs.Lived.{Collect, GatewayStep, Pump, Tick, collected, no_origin}
use Rattle.gateway_laws.specs.Origins.{origin_at}
use Rattle.gateway_laws.specs.Relays.{Append, Disable, Enable, RelayStep, Round, firsts}
use Rattle.gateway_laws.specs.Sources.{Source, source_at}

-- the readers with these indexes, over all read groups of the configuration, are the readers of these sources
pub record ArePlaces (first : Config) (places : List ℕ) (sources : List Source) : Type 0 where
  pub count : length sources ≡ length places
  pub each : (set : ℕ) → set < length places
      → slice_get (reader_places first) (slice_index_or places set 0) ≡ Some ((source_at sources set).read_group, (source_at sources set).reader)

-- what is shown at a source's index is the origin of its last store
abbrev pub ShowsOrigins : Plan → List ℕ → List Source → List Step → List Origin → Type 0
ShowsOrigins p places sources now origins =
    (set : ℕ) → set < length places → slice_index_or origins (slice_index_or places set 0) no_origin ≡ origin_at p (source_at sources set) now

-- the gateway has its sources at these indexes: after each round of the session it was shown passes and origins, had a tick of as many milliseconds, and a pump
abbrev pub Lives : Plan → List ℕ → List Source → List RelayStep → List GatewayStep → Type 0
Lives p places sources [] lived = lived ≡ []
Lives p places sources (Enable id ∷ before) lived = Lives p places sources before lived
Lives p places sources (Disable id ∷ before) lived = Lives p places sources before lived
Lives p places sources (Append set field ∷ before) lived = Lives p places sources before lived
Lives p places sources (Round ms closing samples done entries shown again back ∷ before) lived =
    (passes : List Known) × (origins : List Origin) × (rest : List GatewayStep)
    × (lived ≡ Pump back ∷ Tick ms closing again ∷ Collect passes origins ∷ rest)
    × (shown ≡ collected places passes)
    × ShowsOrigins p places sources (steps.Pump entries ∷ steps.Tick ms closing samples done ∷ firsts before) origins
    × Lives p places sources before rest
