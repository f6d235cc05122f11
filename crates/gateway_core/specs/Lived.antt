-- What a gateway lives through, the latest first, and the session that this is: ticks and pumps, whose samples are what was collected.
use Rattle.std.specs.Prelude.{ℕ, ◌+◌, ◌==◌, List, [], ◌∷◌, length, map, find, reverse, take, Bool, Option, Some, None, slice_index_or, option_and_then, if◌then◌else◌}
use Rattle.ua_base.specs.Journal.{Entry}
use Rattle.target_cells.specs.declared.origin.Origin.{Origin}
use Rattle.version_cell.specs.Known.{Known}
use Rattle.version_cell.specs.Histories.{row_after}
use Rattle.version_cell.specs.Sets.{pass_at}
use Rattle.ps_config.specs.declared.parts.Config.{Config}
use Rattle.writer_group.specs.declared.sampled.Sampled.{Sampled}
use Rattle.session_model.specs.Steps as steps
use Rattle.session_model.specs.Steps.{Plan, Step}
use Rattle.gateway_core.specs.declared.collected.StoreVersion.{StoreVersion}

-- It is shown passes of the targets, with an origin for each reader; time rises, and a tick tells which of its sends were done; a pump has its receives.
pub data GatewayStep : Type 0 where
  Collect : (passes : List Known) (origins : List Origin) → GatewayStep
  Tick : (ms : ℕ) (closing : Bool) (done : List Bool) → GatewayStep
  Pump : (entries : List Entry) → GatewayStep

-- ---- samples

-- what a pass has seen of a target: its stores are versions
abbrev pub sample_of : Known → Sampled
sample_of pass = record { row = record { words = row_after pass.seen }; version = length pass.seen }

-- the sample of each data set is that of its source, by the index of this among all readers of the first configuration
abbrev pub collected : List ℕ → List Known → List Sampled
collected sources passes = map (λ source. sample_of (pass_at passes source)) sources

abbrev pub opening_sample : Sampled
opening_sample = record { row = record { words = row_after [] }; version = 0 }

-- the samples of the next tick: before anything was collected the opening rows
abbrev pub samples_after : List ℕ → List GatewayStep → List Sampled
samples_after sources [] = map (λ source. opening_sample) sources
samples_after sources (Collect passes origins ∷ before) = collected sources passes
samples_after sources (Tick ms closing done ∷ before) = samples_after sources before
samples_after sources (Pump entries ∷ before) = samples_after sources before

-- ---- the session

-- a session of the second configuration appends no fields
abbrev pub plan_again : Config → Plan
plan_again second = record { config = second; full = second.dataset }

-- nothing is switched in it
abbrev pub session_steps : List ℕ → List GatewayStep → List Step
session_steps sources [] = []
session_steps sources (Collect passes origins ∷ before) = session_steps sources before
session_steps sources (Tick ms closing done ∷ before) =
    steps.Tick ms closing (samples_after sources before) done ∷ session_steps sources before
session_steps sources (Pump entries ∷ before) = steps.Pump entries ∷ session_steps sources before

-- ---- counts

-- how often there was a collect
abbrev pub collects_in : List GatewayStep → ℕ
collects_in [] = 0
collects_in (Collect passes origins ∷ before) = collects_in before + 1
collects_in (Tick ms closing done ∷ before) = collects_in before
collects_in (Pump entries ∷ before) = collects_in before

-- ---- versions of stores

-- store 0 is the opening row
abbrev pub first_version : StoreVersion
first_version = record { store = 0; version = Some 0 }

abbrev pub last_store : List StoreVersion → ℕ
last_store [] = 0
last_store (last ∷ before) = last.store

-- a store is kept where it is another than the last
abbrev pub kept_on : List StoreVersion → StoreVersion → List StoreVersion
kept_on kept now = if now.store == last_store kept then kept else now ∷ kept

abbrev pub no_origin : Origin
no_origin = record { store = 0; number = None; version = Some 0 }

abbrev pub version_by : Origin → StoreVersion
version_by origin = record { store = origin.store; version = origin.version }

-- the stores of a source that were collected, each with the version that its origin had when it was first collected
abbrev pub versions_kept : ℕ → List GatewayStep → List StoreVersion
versions_kept source [] = first_version ∷ []
versions_kept source (Collect passes origins ∷ before) =
    kept_on (versions_kept source before) (version_by (slice_index_or origins source no_origin))
versions_kept source (Tick ms closing done ∷ before) = versions_kept source before
versions_kept source (Pump entries ∷ before) = versions_kept source before

-- the versions of so many stores, the first ones, and that of store 0; the last first
abbrev pub first_kept : ℕ → List StoreVersion → List StoreVersion
first_kept most kept = reverse (take (most + 1) (reverse kept))

-- none where no such store was collected, or its version wasn't known
abbrev pub version_in : List StoreVersion → ℕ → Option ℕ
version_in kept store = option_and_then (λ found. found.version) (find (λ one. one.store == store) kept)
