-- A gateway that lives through a relay is the relay's second session, and keeps its versions.
use Rattle.std.proofs.Common.{◌≡◌, refl, sym, ap, ◌∙◌, arith, ℕ, zero, suc, ◌<◌, List, [], ◌∷◌, length, Some}
use Rattle.std.specs.Prelude.{slice_get, slice_index_or}
use Rattle.dataset_meta.specs.Metas.{MetaData}
use Rattle.ps_config.specs.declared.parts.Config.{Config}
use Rattle.session_model.specs.Closing.{reader_places}
use Rattle.session_model.specs.Sets.{meta_in}
use Rattle.session_model.specs.Steps as steps
use Rattle.session_model.specs.Steps.{Plan, Step}
use Rattle.writer_group.specs.declared.sampled.Sampled.{Sampled}
use Rattle.target_cells.specs.declared.origin.Origin.{Origin}
use Rattle.gateway_core.specs.Lived as core
use Rattle.gateway_core.specs.Lived.{GatewayStep, kept_on, no_origin, session_steps, version_by}
use Rattle.gateway_core.specs.declared.collected.StoreVersion.{StoreVersion}
use Rattle.gateway_core.specs.Sources as core_sources
use Rattle.gateway_laws.specs.Lives.{ArePlaces, Lives}
use Rattle.gateway_laws.specs.Relays.{Append, Disable, Enable, RelayStep, Round, seconds}
use Rattle.gateway_laws.specs.Sources.{HaveSources, IsSourceOf, Source, source_at}
use Rattle.gateway_laws.specs.Versions.{versions_kept}

module _ (p : Plan) (places : List ℕ) (sources : List Source) where
  pub lived-seconds : (relay : List RelayStep) (lived : List GatewayStep) → Lives p places sources relay lived → session_steps places lived ≡ seconds relay
  lived-seconds [] lived is = ap (session_steps places) is
  lived-seconds (Enable id ∷ before) lived is = lived-seconds before lived is
  lived-seconds (Disable id ∷ before) lived is = lived-seconds before lived is
  lived-seconds (Append set field ∷ before) lived is = lived-seconds before lived is
  lived-seconds (Round ms closing samples done entries shown again back ∷ before) lived (passes, origins, rest, lived_is, shown_is, origins_are, lives) =
      ap (session_steps places) lived_is
      ∙ ap (λ (l : List Step). steps.Pump back ∷ steps.Tick ms closing (core.collected places passes) again ∷ l) (lived-seconds before rest lives)
      ∙ ap (λ (s : List Sampled). steps.Pump back ∷ steps.Tick ms closing s again ∷ seconds before) (sym shown_is)

  pub lived-versions : (relay : List RelayStep) (lived : List GatewayStep) (set : ℕ) → set < length places → Lives p places sources relay lived
      → core.versions_kept (slice_index_or places set 0) lived ≡ versions_kept p (source_at sources set) relay
  lived-versions [] lived set lt is = ap (core.versions_kept (slice_index_or places set 0)) is
  lived-versions (Enable id ∷ before) lived set lt is = lived-versions before lived set lt is
  lived-versions (Disable id ∷ before) lived set lt is = lived-versions before lived set lt is
  lived-versions (Append at field ∷ before) lived set lt is = lived-versions before lived set lt is
  lived-versions (Round ms closing samples done entries shown again back ∷ before) lived set lt (passes, origins, rest, lived_is, shown_is, origins_are, lives) =
      ap (core.versions_kept (slice_index_or places set 0)) lived_is
      ∙ ap (λ (l : List StoreVersion). kept_on l (version_by (slice_index_or origins (slice_index_or places set 0) no_origin))) (lived-versions before rest set lt lives)
      ∙ ap (λ (o : Origin). kept_on (versions_kept p (source_at sources set) before) (version_by o)) (origins_are set lt)

-- ---- sources by their indexes

abbrev pub AreSources : Config → List MetaData → List ℕ → List Source → Type 0
AreSources first metas places sources =
    (length sources ≡ length metas)
    × ((set : ℕ) → set < length metas → IsSourceOf first (meta_in metas set) (source_at sources set))
    × ((set : ℕ) → set < length metas → slice_get (reader_places first) (slice_index_or places set 0) ≡ Some ((source_at sources set).read_group, (source_at sources set).reader))

sources-from : (first : Config) (metas : List MetaData) (places : List ℕ) → length places ≡ length metas
    → ((set : ℕ) → set < length metas → core_sources.IsSourceOf first (meta_in metas set) (slice_index_or places set 0))
    → (sources : List Source) × AreSources first metas places sources
sources-from first [] places count each = ([], (refl, (λ set lt. absurd (omega (arith, lt))), (λ set lt. absurd (omega (arith, lt)))))
sources-from first (meta ∷ metas) [] count each = absurd (omega (arith, count))
sources-from first (meta ∷ metas) (place ∷ places) count each =
    let is : core_sources.IsSourceOf first meta place = each 0 (omega arith) in
    let source : Source = record { read_group = is.place.0; reader = is.place.1; group = is.group; writer = is.writer } in
    let rest = sources-from first metas places (omega (arith, count)) (λ set lt. each (suc set) (omega (arith, lt))) in
    let here : IsSourceOf first meta source = record {
      group_there = is.group_there;
      matched = is.matched;
      name = is.name;
      numbering = is.numbering;
      fields = is.fields;
      major = is.major;
      quality = is.quality;
    } in
    let all : (set : ℕ) → set < length (meta ∷ metas) → IsSourceOf first (meta_in (meta ∷ metas) set) (source_at (source ∷ rest.0) set) = λ set.
    each-one (λ (k : ℕ). IsSourceOf first (meta_in (meta ∷ metas) k) (source_at (source ∷ rest.0) k)) (length metas) here rest.1.1 set in
    let placed : (set : ℕ) → set < length (meta ∷ metas)
    → slice_get (reader_places first) (slice_index_or (place ∷ places) set 0) ≡ Some ((source_at (source ∷ rest.0) set).read_group, (source_at (source ∷ rest.0) set).reader) = λ set.
    each-one (λ (k : ℕ). slice_get (reader_places first) (slice_index_or (place ∷ places) k 0) ≡ Some ((source_at (source ∷ rest.0) k).read_group, (source_at (source ∷ rest.0) k).reader))
    (length metas) is.place_is rest.1.2 set in
    (source ∷ rest.0, (ap (λ (n : ℕ). suc n) rest.1.0, all, placed))
  where
    each-one : (P : ℕ → Type 0) (n : ℕ) → P 0 → ((k : ℕ) → k < n → P (suc k)) → (k : ℕ) → k < suc n → P k
    each-one P n first later zero lt = first
    each-one P n first later (suc k) lt = later k (omega (arith, lt))

-- the readers by their indexes are sources of the data sets
pub sources-are : (first second : Config) (places : List ℕ) → core_sources.HaveSources first second places → (sources : List Source) × HaveSources first second sources × ArePlaces first places sources
sources-are first second places have =
    let made = sources-from first second.dataset places have.count have.each in (
      made.0,
      record { count = made.1.0; each = made.1.1 },
      record { count = made.1.0 ∙ sym have.count; each = λ set lt. made.1.2 set (let c = have.count in omega (arith, lt, c)) },
    )
