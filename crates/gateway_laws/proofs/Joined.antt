-- A store is made once, so that its number, its row and the version that is told of it belong together.
use Rattle.std.proofs.Common.{◌≡◌, refl, sym, ap, ◌∙◌, subst, arith, ℕ, ◌+◌, ◌<◌, ◌≤◌, List, [], ◌∷◌, ◌++◌, length, Option, Some, inl, inr}
use Rattle.std.specs.Prelude.{◌⊎◌}
use Rattle.dataset_meta.specs.DataValues.{DataValue}
use Rattle.dataset_meta.specs.Metas.{MetaData}
use Rattle.ps_config.specs.declared.parts.Config.{Config}
use Rattle.session_model.specs.Events.{reader_at}
use Rattle.session_model.specs.Sets.{meta_in}
use Rattle.session_model.specs.Steps.{Plan, Step}
use Rattle.session_model.specs.Stores.{Store, held_by}
use Rattle.session_laws.specs.Sessions.{AreVersions}
use Rattle.gateway_core.specs.Lived.{version_in}
use Rattle.gateway_laws.specs.Gateways.{IsHonestSource, IsOfHistory, IsOfVersion, IsRelay}
use Rattle.gateway_laws.specs.Origins.{CameWith, IsMadeAt, WasMade, origin_at}
use Rattle.gateway_laws.specs.Relays.{RelayStep, firsts, stored_rows, stores_of}
use Rattle.gateway_laws.specs.Sources.{Source, source_at}
use Rattle.gateway_laws.specs.Telling.{IsKnown}
use Rattle.gateway_laws.specs.Versions.{versions_kept}
use Rattle.gateway_laws.proofs.Known.{known}
use Rattle.gateway_laws.proofs.Older.{IsLonger, beginnings, no-longer, some-store}
use Rattle.gateway_laws.proofs.Publishing.{HoldsLaw}
use Rattle.gateway_laws.proofs.Rising.{Laws}
use Rattle.gateway_laws.proofs.Stored.{stored-published}
use Rattle.gateway_laws.proofs.Told.{IsTold, told}

-- ---- a store is made once

no-one : {A : Type 0} → Path ℕ 0 1 → A
no-one e = absurd (omega (arith, e))

same-now : (p : Plan) (source : Source) (one other : List Step) (store : ℕ) (made new : Store) → IsMadeAt p source one store made → IsMadeAt p source other store new
    → ((more : List Step) × (other ≡ more ++ one)) ⊎ IsLonger other one → one ≡ other
same-now p source one other store made new at again (inl ([], is)) = sym is
same-now p source one other store made new at again (inl (step ∷ more, is)) =
    no-one (no-longer p source other one store store new made (omega arith) again at (record { step = step; more = more; is = is }))
same-now p source one other store made new at again (inr longer) = no-one (no-longer p source one other store store made new (omega arith) at again longer)

pub made-once : (p : Plan) (source : Source) (all : List Step) (store : ℕ) (made new : Store) → (old : WasMade p source all store made) → (again : WasMade p source all store new)
    → (made ≡ new) × (old.now ≡ again.now)
made-once p source all store made new old again =
    let now = same-now p source old.now again.now store made new old.at again.at (beginnings old.later again.later old.now again.now (sym old.split ∙ again.split)) in
    let held : Path (Option Store) (Some made) (Some new) = sym old.at.held ∙ ap (λ (l : List Step). held_by (reader_at p.config source.read_group source.reader l)) now ∙ again.at.held in
    (cc, now)

-- ---- its version

same-version : (one other : ℕ) → Path (Option ℕ) (Some one) (Some other) → one ≡ other
same-version one other e = cc

pub joined : (p : Plan) (meta : MetaData) (source : Source) (all : List Step) (rows : ℕ → ℕ → List DataValue) (store version : ℕ) (row : List DataValue) → IsOfHistory p meta source all rows store row → IsTold p source all store version
    → IsOfVersion p meta source all rows store version row
joined p meta source all rows store version row (inl is) (inl none) = inl (is.0, none.1, is.1)
joined p meta source all rows store version row (inl is) (inr came) =
    absurd (let some = some-store p source came.was.now store came.made came.was.at in let zero_is = is.0 in omega (arith, some, zero_is))
joined p meta source all rows store version row (inr of) (inl none) =
    absurd (let some = some-store p source of.was.now store of.made of.was.at in let zero_is = none.0 in omega (arith, some, zero_is))
joined p meta source all rows store version row (inr of) (inr came) =
    let once = made-once p source all store of.made came.made of.was came.was in
    inr (of, same-version of.published.version version (sym of.origin ∙ ap (λ (l : List Step). (origin_at p source l).version) once.1 ∙ came.version_is))

-- ---- in a relay

pub known-store : Laws → HoldsLaw → (p : Plan) (second : Config) (sources : List Source) (relay : List RelayStep) (rows : ℕ → ℕ → List DataValue) (set store : ℕ) → IsRelay p second sources relay → AreVersions p (firsts relay) rows
    → set < length second.dataset → IsHonestSource p (source_at sources set) (firsts relay) → store ≤ length (stores_of p.config sources set (firsts relay)) → IsKnown p second sources relay rows set store
known-store laws holds p second sources relay rows set store is versions lt honest le =
    let source = source_at sources set in
    let found = known laws p second sources relay set store is lt honest le in
    record {
      version = found.0;
      told = found.1;
      of_version = joined p (meta_in second.dataset set) source (firsts relay) rows store found.0 (stored_rows p.config second sources (firsts relay) set store)
          (stored-published laws.reads holds p second sources relay set store rows is lt honest versions le) (told p source relay store found.0 found.1);
    }
