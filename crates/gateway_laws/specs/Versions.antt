-- The versions that a gateway keeps of its sources' stores, and what passes show of stores. Lists have the latest first.
use Rattle.std.specs.Prelude.{◌≡◌, List, [], ◌∷◌, map, reverse}
use Rattle.dataset_meta.specs.Metas.{MetaData}
use Rattle.row_words.specs.Belonging.{row_in}
use Rattle.version_cell.specs.Known.{Known}
use Rattle.session_model.specs.Steps as steps
use Rattle.session_model.specs.Steps.{Plan}
use Rattle.session_model.specs.Stores.{Store}
use Rattle.gateway_laws.specs.Sources.{Source}
use Rattle.gateway_laws.specs.Relays.{RelayStep, Enable, Disable, Append, Round, firsts}
use Rattle.gateway_laws.specs.Origins.{origin_at}
use Rattle.gateway_core.specs.declared.collected.StoreVersion.{StoreVersion}
use Rattle.gateway_core.specs.Lived.{first_version, kept_on, version_by}

-- the stores of a source that were collected, each with the version that its origin had when it was collected after another store
abbrev pub versions_kept : Plan → Source → List RelayStep → List StoreVersion
versions_kept p source [] = first_version ∷ []
versions_kept p source (Enable id ∷ before) = versions_kept p source before
versions_kept p source (Disable id ∷ before) = versions_kept p source before
versions_kept p source (Append set field ∷ before) = versions_kept p source before
versions_kept p source (Round ms closing samples done entries collected again back ∷ before) =
    kept_on (versions_kept p source before)
    (version_by (origin_at p source (steps.Pump entries ∷ steps.Tick ms closing samples done ∷ firsts before)))

-- ---- passes

-- a target's pass has seen these stores, the first first
abbrev pub HasStored : List Store → MetaData → Known → Type 0
HasStored list meta pass = map (λ entry. row_in meta.fields entry.row) pass.seen ≡ map (λ store. store.row) (reverse list)
