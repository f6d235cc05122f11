-- The promise of a gateway.
use Rattle.std.specs.Prelude.{◌≡◌, ◌⊎◌, ℕ, ◌≤◌, List, length, Some}
use Rattle.dataset_meta.specs.DataValues.{DataValue}
use Rattle.dataset_meta.specs.Metas.{MetaData}
use Rattle.dataset_meta.specs.Rows.{opening_row}
use Rattle.ps_config.specs.declared.parts.Config.{Config}
use Rattle.writer_group.specs.Payloads.{writer_at}
use Rattle.session_model.specs.Steps.{Plan, Step}
use Rattle.session_model.specs.Sets.{meta_in}
use Rattle.writer_group.specs.Parts.{group_at}
use Rattle.session_model.specs.Keeping.{AreSteps, IsPlan}
use Rattle.session_model.specs.Sends.{IsRun}
use Rattle.session_model.specs.Stores.{Store}
use Rattle.session_laws.specs.Headline.{IsPublished}
use Rattle.session_laws.specs.Sessions.{AreVersions, SamplesRise, TakesWhatWasSent}
use Rattle.gateway_laws.specs.Sources.{Source, HaveSources, source_at}
use Rattle.gateway_laws.specs.Relays.{RelayStep, Collects, firsts, seconds, stored_rows, stores_of}
use Rattle.gateway_laws.specs.Origins.{WasMade, HoldsVersionAt, origin_at}
use Rattle.gateway_core.specs.Lived.{plan_again}

-- A session of the first configuration with a gateway of the second: both are Session runs, and the gateway collects what the session's readers have stored.
-- Nothing is asked of either link here.
pub record IsRelay (p : Plan) (second : Config) (sources : List Source) (relay : List RelayStep) : Type 0 where
  pub plan : IsPlan p
  pub steps_are : AreSteps p (firsts relay)
  pub run : IsRun p (firsts relay)
  pub rise : SamplesRise p (firsts relay)
  pub again_plan : IsPlan (plan_again second)
  pub again_run : IsRun (plan_again second) (seconds relay)
  pub sources_are : HaveSources p.config second sources
  pub collects : Collects p.config second sources relay

-- the read group of a data set's source takes nothing but what was sent on the first link
abbrev pub IsHonestSource : Plan → Source → List Step → Type 0
IsHonestSource p source steps = TakesWhatWasSent p source.read_group steps

-- a read group of the second configuration takes nothing but what was sent on the second link
abbrev pub IsHonestAgain : Config → ℕ → List RelayStep → Type 0
IsHonestAgain second r relay = TakesWhatWasSent (plan_again second) r (seconds relay)

-- A store's row is one that its reader held at the end of the pump that made the store. It is the row of the version that the first history
-- has at the message's place, which the store's origin tells, cut to the reader's fields.
pub record IsStoreOfVersion (p : Plan) (source : Source) (all : List Step) (rows : ℕ → ℕ → List DataValue) (store : ℕ) (row : List DataValue) : Type 0 where
  pub made : Store
  pub was : WasMade p source all store made
  pub row_is : row ≡ made.row
  pub published : IsPublished p source.read_group source.reader source.group source.writer was.now rows made.number made.row
  pub origin : (origin_at p source was.now).version ≡ Some published.version

-- store 0 is the opening row, each other the row of its version
abbrev pub IsOfHistory : Plan → MetaData → Source → List Step → (ℕ → ℕ → List DataValue) → ℕ → List DataValue → Type 0
IsOfHistory p meta source all rows store row =
    ((store ≡ 0) × (row ≡ opening_row meta.fields)) ⊎ IsStoreOfVersion p source all rows store row

-- the same by the version that is told of it, which is that of the row: 0 of store 0
abbrev pub IsOfVersion : Plan → MetaData → Source → List Step → (ℕ → ℕ → List DataValue) → ℕ → ℕ → List DataValue → Type 0
IsOfVersion p meta source all rows store version row =
    ((store ≡ 0) × (version ≡ 0) × (row ≡ opening_row meta.fields))
    ⊎ ((of : IsStoreOfVersion p source all rows store row) × (of.published.version ≡ version))

-- the data set of a writer
abbrev pub set_of : Config → ℕ → ℕ → ℕ
set_of config g w = (writer_at (group_at config g) w).dataset

-- What a reader that is matched within the second configuration holds: by its number a store of the source of its data set, and the row of this store. Where the source's read
-- group takes nothing but what was sent, this is the opening row or the row of a version of the first history.
pub record IsRelayed (p : Plan) (second : Config) (sources : List Source) (relay : List RelayStep) (r i g w : ℕ) (row : List DataValue) : Type 0 where
  pub store : ℕ
  pub holds : HoldsVersionAt (plan_again second) r i g w (seconds relay) store
  pub same : holds.row ≡ row
  pub within : store ≤ length (stores_of p.config sources (set_of second g w) (firsts relay))
  pub row_is : row ≡ stored_rows p.config second sources (firsts relay) (set_of second g w) store
  pub of_history : IsHonestSource p (source_at sources (set_of second g w)) (firsts relay) → (rows : ℕ → ℕ → List DataValue) → AreVersions p (firsts relay) rows
      → IsOfHistory p (meta_in second.dataset (set_of second g w)) (source_at sources (set_of second g w)) (firsts relay) rows store row
