-- The version that a gateway keeps of a store is that of the store's origin when it was made.
use Rattle.std.proofs.Common.{◌≡◌, refl, sym, ap, ◌∙◌, subst, arith, ℕ, ◌+◌, ◌<◌, Bool, true, false, List, [], ◌∷◌, length, Option, Some, None, inl, inr}
use Rattle.std.specs.Prelude.{◌⊎◌, ◌==◌, find, option_and_then, if◌then◌else◌}
use Rattle.std.proofs.lemmas.Bool.Decides.{nat_tests}
use Rattle.ua_base.specs.Journal.{Entry}
use Rattle.reader_group.specs.Members.{seat_at}
use Rattle.reader_group.specs.Settings.{setting_of}
use Rattle.session_model.specs.Steps as steps
use Rattle.session_model.specs.Steps.{Plan, Step}
use Rattle.session_model.specs.Events.{reader_at}
use Rattle.session_model.specs.Stores.{Store, stores, held_by}
use Rattle.gateway_laws.specs.Sources.{Source}
use Rattle.gateway_laws.specs.Relays.{RelayStep, Enable, Disable, Append, Round, firsts}
use Rattle.gateway_laws.specs.Origins.{CameWith, origin_at, origin_by}
use Rattle.gateway_laws.specs.Versions.{versions_kept}
use Rattle.gateway_laws.proofs.Stored.{IsStoredOn, stored-case}
use Rattle.gateway_core.specs.Lived.{first_version, kept_on, last_store, version_by, version_in}
use Rattle.gateway_core.specs.declared.collected.StoreVersion.{StoreVersion}

abbrev pub IsTold : Plan → Source → List Step → ℕ → ℕ → Type 0
IsTold p source all store version = ((store ≡ 0) × (version ≡ 0)) ⊎ CameWith p source all store version

pub told-later : (p : Plan) (source : Source) (step : Step) (before : List Step) (store version : ℕ) → IsTold p source before store version → IsTold p source (step ∷ before) store version
told-later p source step before store version (inl none) = inl none
told-later p source step before store version (inr is) = inr (record {
  made = is.made;
  was = record { later = step ∷ is.was.later; now = is.was.now; split = ap (λ (l : List Step). step ∷ l) is.was.split; at = is.was.at };
  version_is = is.version_is;
})

pub record Keeps (p : Plan) (source : Source) (now : List Step) (kept : List StoreVersion) : Type 0 where
  pub last : last_store kept ≡ length (stores p.config source.read_group source.reader now)
  told : (store version : ℕ) → version_in kept store ≡ Some version → IsTold p source now store version

keeps-later : (p : Plan) (source : Source) (step : Step) (before : List Step) (kept : List StoreVersion) → length (stores p.config source.read_group source.reader (step ∷ before)) ≡ length (stores p.config source.read_group source.reader before) → Keeps p source before kept
    → Keeps p source (step ∷ before) kept
keeps-later p source step before kept same is = record {
  last = is.last ∙ sym same;
  told = λ store version e. told-later p source step before store version (is.told store version e);
}

pub origin-count : (p : Plan) (source : Source) (now : List Step) (list : List Store) → (origin_by p source now list).store ≡ length list
origin-count p source now [] = refl
origin-count p source now (last ∷ before) = omega arith

pub same-store : (kept : List StoreVersion) (now : StoreVersion) → now.store ≡ last_store kept → kept_on kept now ≡ kept
same-store kept now e = let test : (now.store == last_store kept) ≡ true = grind (arith, nat_tests, e) in ap (λ (b : Bool). if b then kept else now ∷ kept) test

pub other-store : (kept : List StoreVersion) (now : StoreVersion) → last_store kept < now.store → kept_on kept now ≡ now ∷ kept
other-store kept now lt = let test : (now.store == last_store kept) ≡ false = grind (arith, nat_tests, lt) in ap (λ (b : Bool). if b then kept else now ∷ kept) test

found-on : (p : Plan) (source : Source) (now : List Step) (kept : List StoreVersion) (one : StoreVersion) (store version : ℕ) (b : Bool) → (one.store == store) ≡ b → (one.store ≡ store → one.version ≡ Some version → IsTold p source now store version)
    → (version_in kept store ≡ Some version → IsTold p source now store version)
    → option_and_then (λ (found : StoreVersion). found.version) (if b then Some one else find (λ (other : StoreVersion). other.store == store) kept) ≡ Some version → IsTold p source now store version
found-on p source now kept one store version true e here before f = here (grind (arith, nat_tests)) f
found-on p source now kept one store version false e here before f = before f

at-pump : (p : Plan) (source : Source) (entries : List Entry) (before : List Step) (kept : List StoreVersion) → Keeps p source before kept
    → (let list = stores p.config source.read_group source.reader before in let all = stores p.config source.read_group source.reader (steps.Pump entries ∷ before) in let held = held_by (reader_at p.config source.read_group source.reader (steps.Pump entries ∷ before)) in
    (all ≡ list) ⊎ IsStoredOn list held held all) → Keeps p source (steps.Pump entries ∷ before) (kept_on kept (version_by (origin_at p source (steps.Pump entries ∷ before))))
at-pump p source entries before kept is (inl same) =
    let now = steps.Pump entries ∷ before in
    let count = origin-count p source now (stores p.config source.read_group source.reader now) in
    let as_many : length (stores p.config source.read_group source.reader now) ≡ length (stores p.config source.read_group source.reader before) = ap length same in
    subst (Keeps p source now) (sym (same-store kept (version_by (origin_at p source now)) (count ∙ as_many ∙ sym is.last))) (keeps-later p source (steps.Pump entries) before kept as_many is)
at-pump p source entries before kept is (inr stored) =
    let now = steps.Pump entries ∷ before in
    let list = stores p.config source.read_group source.reader before in
    let one = version_by (origin_at p source now) in
    let count = origin-count p source now (stores p.config source.read_group source.reader now) in
    let more : length (stores p.config source.read_group source.reader now) ≡ length list + 1 = ap length stored.all_is ∙ omega arith in
    let lt : last_store kept < one.store = (let a = is.last in omega (arith, a, count, more)) in
    subst (Keeps p source now) (sym (other-store kept one lt)) (record {
      last = count;
      told = λ store version e.
          found-on p source now kept one store version (one.store == store) refl
          (λ same known. inr (record {
            made = stored.now;
            was = record {
              later = [];
              now = now;
              split = refl;
              at = record { entries = entries; before = before; ends = refl; stored = stored.all_is; number = sym same ∙ count ∙ more; held = stored.is };
            };
            version_is = known;
          }))
          (λ f. told-later p source (steps.Pump entries) before store version (is.told store version f)) e;
    })

none-told : (p : Plan) (source : Source) (store version : ℕ) (b : Bool) → (0 == store) ≡ b → option_and_then (λ (found : StoreVersion). found.version) (if b then Some first_version else None) ≡ Some version → IsTold p source [] store version
none-told p source store version true e f = inl ((let a : store ≡ 0 = grind (arith, nat_tests) in a), (let same : Path (Option ℕ) (Some 0) (Some version) = f in cc))
none-told p source store version false e f = absurd (cc)

pub keeps-at : (p : Plan) (source : Source) (relay : List RelayStep) → Keeps p source (firsts relay) (versions_kept p source relay)
keeps-at p source [] = record { last = refl; told = λ store version e. none-told p source store version (0 == store) refl e }
keeps-at p source (Enable id ∷ before) = keeps-later p source (steps.Enable id) (firsts before) (versions_kept p source before) refl (keeps-at p source before)
keeps-at p source (Disable id ∷ before) = keeps-later p source (steps.Disable id) (firsts before) (versions_kept p source before) refl (keeps-at p source before)
keeps-at p source (Append set field ∷ before) = keeps-later p source (steps.Append set field) (firsts before) (versions_kept p source before) refl (keeps-at p source before)
keeps-at p source (Round ms closing samples done entries collected again back ∷ before) =
    let tick = steps.Tick ms closing samples done in
    at-pump p source entries (tick ∷ firsts before) (versions_kept p source before) (keeps-later p source tick (firsts before) (versions_kept p source before) refl (keeps-at p source before))
    (stored-case (seat_at (setting_of p.config source.read_group).seats source.reader).part.numbering (stores p.config source.read_group source.reader (tick ∷ firsts before)) (held_by (reader_at p.config source.read_group source.reader (steps.Pump entries ∷ tick ∷ firsts before))))

pub told : (p : Plan) (source : Source) (relay : List RelayStep) (store version : ℕ) → version_in (versions_kept p source relay) store ≡ Some version → IsTold p source (firsts relay) store version
told p source relay store version e = (keeps-at p source relay).told store version e
