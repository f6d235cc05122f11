-- Each store that was collected of an honest source has a version.
use Rattle.std.proofs.Common.{◌≡◌, refl, sym, ap, ◌∙◌, subst, arith, ℕ, ◌+◌, ◌<◌, ◌≤◌, Bool, true, false, List, [], ◌∷◌, length, Some, inl, inr}
use Rattle.std.specs.Prelude.{◌⊎◌, ◌≢◌, ◌==◌, find, option_and_then, if◌then◌else◌}
use Rattle.std.proofs.lemmas.Bool.Decides.{nat_tests}
use Rattle.ua_base.specs.Journal.{Entry}
use Rattle.config_tables.specs.declared.words.NumberingWord.TheVariants as words
use Rattle.ps_config.specs.declared.parts.Config.{Config}
use Rattle.pubsub_model.specs.Answers.{version_of}
use Rattle.session_model.specs.Steps as steps
use Rattle.session_model.specs.Steps.{Plan, Step}
use Rattle.session_model.specs.Deeds.{log_at}
use Rattle.session_model.specs.Events.{reader_at}
use Rattle.session_model.specs.Stores.{Store, stores, held_by}
use Rattle.session_laws.specs.Headline.{InSession}
use Rattle.session_laws.specs.Reading.{arrivals_at, first_number_of}
use Rattle.gateway_laws.specs.Sources.{Source, seat_of, source_at}
use Rattle.gateway_laws.specs.Relays.{RelayStep, Enable, Disable, Append, Round, firsts, stores_of}
use Rattle.gateway_laws.specs.Origins.{origin_at, origin_by}
use Rattle.gateway_laws.specs.Gateways.{IsRelay, IsHonestSource}
use Rattle.gateway_laws.specs.Versions.{versions_kept}
use Rattle.gateway_laws.proofs.Behind.{session-behind}
use Rattle.gateway_laws.proofs.Rising.{Laws, holds-turn}
use Rattle.gateway_laws.proofs.Stored.{IsStoredOn, held-on, in-first, kept-number, stored-case}
use Rattle.gateway_laws.proofs.Told.{keeps-at, origin-count, other-store, same-store}
use Rattle.gateway_core.specs.Lived.{first_version, kept_on, last_store, version_by, version_in}
use Rattle.gateway_core.specs.declared.collected.StoreVersion.{StoreVersion}

abbrev IsKnown : List StoreVersion → ℕ → Type 0
IsKnown kept store = (version : ℕ) × (version_in kept store ≡ Some version)

-- a store that is the last, or was known before
known-on : (kept : List StoreVersion) (one : StoreVersion) (store version : ℕ) (b : Bool) → (one.store == store) ≡ b → one.version ≡ Some version → (one.store ≢ store → IsKnown kept store)
    → (found : ℕ) × (option_and_then (λ (found : StoreVersion). found.version) (if b then Some one else find (λ (other : StoreVersion). other.store == store) kept) ≡ Some found)
known-on kept one store version true e known before = (version, known)
known-on kept one store version false e known before = before (grind (arith, nat_tests))

module _ (laws : Laws) (p : Plan) (source : Source) (numbering : (seat_of p.config source).part.numbering ≡ words.Message) where
  abbrev InFirst : List Step → Type 0
  InFirst now = InSession p source.read_group source.reader source.group source.writer now

  abbrev list_at : List Step → List Store
  list_at now = stores p.config source.read_group source.reader now

  -- the version of the store that a pump makes
  made-known : (now : List Step) (list : List Store) (made : Store) → InFirst now → held_by (reader_at p.config source.read_group source.reader now) ≡ Some made → list_at now ≡ made ∷ list
      → (version : ℕ) × ((origin_at p source now).version ≡ Some version)
  made-known now list made is held stored =
      let member = reader_at p.config source.read_group source.reader now in
      let log = log_at p source.group source.writer now in
      let was = held-on member.kept.row member.kept.number made held in
      let arrivals = arrivals_at p.config source.read_group source.reader (first_number_of p.config source.group source.writer) now in
      let number = kept-number (seat_of p.config source).part.numbering arrivals member.kept made.row numbering (laws.reads p source.read_group source.reader source.group source.writer now is).keeps was.0 in
      let turn = holds-turn laws p source.read_group source.reader source.group source.writer now number.0 is numbering number.1 in (
        turn.turn.turn.version,
        ap (λ (l : List Store). (origin_by p source now l).version) stored ∙ ap (option_and_then (version_of log)) (sym was.1 ∙ number.1) ∙ turn.named,
      )

  at-pump : (entries : List Entry) (before : List Step) (kept : List StoreVersion) → InFirst (steps.Pump entries ∷ before) → last_store kept ≡ length (list_at before) → ((store : ℕ) → store ≤ length (list_at before) → IsKnown kept store)
      → (let now = steps.Pump entries ∷ before in let held = held_by (reader_at p.config source.read_group source.reader now) in (list_at now ≡ list_at before) ⊎ IsStoredOn (list_at before) held held (list_at now))
      → (store : ℕ) → store ≤ length (list_at (steps.Pump entries ∷ before)) → IsKnown (kept_on kept (version_by (origin_at p source (steps.Pump entries ∷ before)))) store
  at-pump entries before kept is last known (inl same) store le =
      let now = steps.Pump entries ∷ before in
      let count = origin-count p source now (list_at now) in
      let as_many : length (list_at now) ≡ length (list_at before) = ap length same in
      subst (λ (l : List StoreVersion). IsKnown l store) (sym (same-store kept (version_by (origin_at p source now)) (count ∙ as_many ∙ sym last))) (known store (omega (arith, le, as_many)))
  at-pump entries before kept is last known (inr stored) store le =
      let now = steps.Pump entries ∷ before in
      let one = version_by (origin_at p source now) in
      let count = origin-count p source now (list_at now) in
      let more : length (list_at now) ≡ length (list_at before) + 1 = ap length stored.all_is ∙ omega arith in
      let version = made-known now (list_at before) stored.now is stored.is stored.all_is in
      subst (λ (l : List StoreVersion). IsKnown l store) (sym (other-store kept one (omega (arith, last, count, more))))
      (known-on kept one store version.0 (one.store == store) refl version.1 (λ other. known store (omega (arith, le, more, count, other))))

  none-yet : (store : ℕ) → store ≤ 0 → IsKnown (first_version ∷ []) store
  none-yet store le = let none : store ≡ 0 = omega (arith, le) in (0, ap (version_in (first_version ∷ [])) none)

  pub known-at : (relay : List RelayStep) → InFirst (firsts relay) → (store : ℕ) → store ≤ length (list_at (firsts relay)) → IsKnown (versions_kept p source relay) store
  known-at [] is store le = none-yet store le
  known-at (Enable id ∷ before) is store le = known-at before (session-behind p source.read_group source.reader source.group source.writer (steps.Enable id ∷ []) (firsts before) is) store le
  known-at (Disable id ∷ before) is store le = known-at before (session-behind p source.read_group source.reader source.group source.writer (steps.Disable id ∷ []) (firsts before) is) store le
  known-at (Append set field ∷ before) is store le = known-at before (session-behind p source.read_group source.reader source.group source.writer (steps.Append set field ∷ []) (firsts before) is) store le
  known-at (Round ms closing samples done entries collected again back ∷ before) is store le =
      let tick = steps.Tick ms closing samples done in
      let start = session-behind p source.read_group source.reader source.group source.writer (steps.Pump entries ∷ tick ∷ []) (firsts before) is in
      at-pump entries (tick ∷ firsts before) (versions_kept p source before) is (keeps-at p source before).last (λ old below. known-at before start old below)
      (stored-case (seat_of p.config source).part.numbering (list_at (tick ∷ firsts before)) (held_by (reader_at p.config source.read_group source.reader (steps.Pump entries ∷ tick ∷ firsts before)))) store le

pub known : Laws → (p : Plan) (second : Config) (sources : List Source) (relay : List RelayStep) (set store : ℕ) → IsRelay p second sources relay → set < length second.dataset → IsHonestSource p (source_at sources set) (firsts relay)
    → store ≤ length (stores_of p.config sources set (firsts relay)) → (version : ℕ) × (version_in (versions_kept p (source_at sources set) relay) store ≡ Some version)
known laws p second sources relay set store is lt honest le =
    known-at laws p (source_at sources set) (is.sources_are.each set lt).numbering relay (in-first p second sources relay set is lt honest) store le
