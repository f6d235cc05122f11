-- Each store was made at the end of a pump, of what its reader held then.
use Rattle.std.proofs.Common.{◌≡◌, refl, sym, ap, ◌∙◌, subst, arith, ℕ, ◌+◌, ◌<◌, ◌≤◌, Bool, true, false, List, [], ◌∷◌, length, Option, Some, None, inl, inr}
use Rattle.std.specs.Prelude.{◌⊎◌, ◌%◌, nat_lt, not, option_map, option_and_then}
use Rattle.std.proofs.lemmas.Bool.Decides.{nat_tests}
use Rattle.seq_number.specs.Numbers.{number_of_place}
use Rattle.dataset_meta.specs.DataValues.{DataValue}
use Rattle.dataset_meta.specs.Metas.{MetaData}
use Rattle.dataset_meta.specs.Rows.{cons_if}
use Rattle.pubsub_model.specs.Records.{Arrival, Held, held}
use Rattle.config_tables.specs.declared.words.NumberingWord.{NumberingWord}
use Rattle.config_tables.specs.declared.words.NumberingWord.TheVariants as words
use Rattle.ps_config.specs.declared.parts.Config.{Config}
use Rattle.pubsub_model.specs.Answers.{version_of}
use Rattle.dataset_reader.specs.Kept.{Kept}
use Rattle.dataset_reader.specs.Keeping.{KeepsBy}
use Rattle.reader_group.specs.Members.{MemberValue, numbering_of, seat_at}
use Rattle.reader_group.specs.Settings.{setting_of}
use Rattle.session_model.specs.Steps.{Plan, Step, Enable, Disable, Append, Tick, Pump}
use Rattle.session_model.specs.Sets.{meta_in}
use Rattle.session_model.specs.Deeds.{log_at}
use Rattle.session_model.specs.Events.{reader_at}
use Rattle.session_laws.specs.Reading.{arrivals_at, first_number_of}
use Rattle.session_model.specs.Stores.{Store, stores, stored_on, held_by, is_same}
use Rattle.session_laws.specs.Headline.{InSession, IsPublished}
use Rattle.session_laws.specs.Sessions.{AreVersions}
use Rattle.gateway_laws.specs.Sources.{Source, source_at, seat_of}
use Rattle.gateway_laws.specs.Relays.{RelayStep, firsts, store_row, stored_rows, stores_of}
use Rattle.gateway_laws.specs.Origins.{IsMadeAt, WasMade, origin_at, origin_by}
use Rattle.gateway_laws.specs.Gateways.{IsRelay, IsHonestSource, IsOfHistory}
use Rattle.gateway_laws.proofs.Behind.{session-behind, versions-behind}
use Rattle.gateway_laws.proofs.Publishing.{HoldsLaw, ReadsLaw}
use Rattle.gateway_laws.proofs.Storing.{step-extends, last-row, row-none}

-- ---- a pump stores, or doesn't

pub record IsStoredOn (list : List Store) (held new : Option Store) (all : List Store) : Type 0 where
  pub now : Store
  pub is : held ≡ Some now
  pub all_is : all ≡ now ∷ list

if-stored : (b : Bool) (now : Store) (list : List Store) → (cons_if b now list ≡ list) ⊎ IsStoredOn list (Some now) (Some now) (cons_if b now list)
if-stored true now list = inr (record { now = now; is = refl; all_is = refl })
if-stored false now list = inl refl

pub stored-case : (word : NumberingWord) (list : List Store) (held : Option Store) → (stored_on word list held ≡ list) ⊎ IsStoredOn list held held (stored_on word list held)
stored-case word list None = inl refl
stored-case word [] (Some now) = inr (record { now = now; is = refl; all_is = refl })
stored-case word (last ∷ before) (Some now) = if-stored (not (is_same word last now)) now (last ∷ before)

-- ---- when a store was made

module _ (p : Plan) (source : Source) (meta : MetaData) where
  list_at : List Step → List Store
  list_at now = stores p.config source.read_group source.reader now

  pub record HasMade (all : List Step) (store : ℕ) : Type 0 where
    pub made : Store
    pub was : WasMade p source all store made
    pub row : store_row meta (stores p.config source.read_group source.reader all) store ≡ made.row

  -- it was made before
  earlier : (step : Step) (before : List Step) (store : ℕ) → store ≤ length (stores p.config source.read_group source.reader before) → HasMade before store → HasMade (step ∷ before) store
  earlier step before store le h = record {
    made = h.made;
    was = record { later = step ∷ h.was.later; now = h.was.now; split = ap (λ (l : List Step). step ∷ l) h.was.split; at = h.was.at };
    row = (step-extends meta p.config source.read_group source.reader step before).rows store le ∙ h.row;
  }

  -- it is made now
  right-now : (entries : List Rattle.ua_base.specs.Journal.Entry) (before : List Step) (store : ℕ) → length (stores p.config source.read_group source.reader before) < store → store ≤ length (stores p.config source.read_group source.reader (Pump entries ∷ before))
      → (let list = stores p.config source.read_group source.reader before in let all = stores p.config source.read_group source.reader (Pump entries ∷ before) in let held = held_by (reader_at p.config source.read_group source.reader (Pump entries ∷ before)) in
      (all ≡ list) ⊎ IsStoredOn list held held all) → HasMade (Pump entries ∷ before) store
  right-now entries before store low high (inl same) = absurd (let e : length (stores p.config source.read_group source.reader (Pump entries ∷ before)) ≡ length (stores p.config source.read_group source.reader before) = ap length same in omega (arith, e, low, high))
  right-now entries before store low high (inr is) =
      let list = stores p.config source.read_group source.reader before in
      let count : length (stores p.config source.read_group source.reader (Pump entries ∷ before)) ≡ length list + 1 = ap length is.all_is ∙ omega arith in
      let number : store ≡ length list + 1 = omega (arith, count, low, high) in
      record {
        made = is.now;
        was = record {
          later = [];
          now = Pump entries ∷ before;
          split = refl;
          at = record { entries = entries; before = before; ends = refl; stored = is.all_is; number = number; held = is.is };
        };
        row = ap (λ (all : List Store). store_row meta all store) is.all_is ∙ ap (store_row meta (is.now ∷ list)) number ∙ last-row meta is.now list;
      }

  pumped : (entries : List Rattle.ua_base.specs.Journal.Entry) (before : List Step) (store : ℕ) → store ≤ length (stores p.config source.read_group source.reader (Pump entries ∷ before)) → (b : Bool)
      → nat_lt (length (stores p.config source.read_group source.reader before)) store ≡ b → (store ≤ length (stores p.config source.read_group source.reader before) → HasMade before store) → HasMade (Pump entries ∷ before) store
  pumped entries before store high true e h =
      right-now entries before store (grind (arith, nat_tests)) high
      (stored-case (seat_at (setting_of p.config source.read_group).seats source.reader).part.numbering (stores p.config source.read_group source.reader before) (held_by (reader_at p.config source.read_group source.reader (Pump entries ∷ before))))
  pumped entries before store high false e h =
      let le : store ≤ length (stores p.config source.read_group source.reader before) = grind (arith, nat_tests) in earlier (Pump entries) before store le (h le)

  pub has-made : (all : List Step) (store : ℕ) → 1 ≤ store → store ≤ length (stores p.config source.read_group source.reader all) → HasMade all store
  has-made [] store low high = absurd (omega (arith, low, high))
  has-made (Enable id ∷ before) store low high = earlier (Enable id) before store high (has-made before store low high)
  has-made (Disable id ∷ before) store low high = earlier (Disable id) before store high (has-made before store low high)
  has-made (Append set field ∷ before) store low high = earlier (Append set field) before store high (has-made before store low high)
  has-made (Tick ms closing samples done ∷ before) store low high = earlier (Tick ms closing samples done) before store high (has-made before store low high)
  has-made (Pump entries ∷ before) store low high = pumped entries before store high (nat_lt (length (stores p.config source.read_group source.reader before)) store) refl (λ le. has-made before store low le)

-- ---- it is what was published

record IsHeld (member : MemberValue) (made : Store) : Type 0 where
  row : member.kept.row ≡ Some made.row
  number : member.kept.number ≡ made.number

pub held-on : (row : Option (List DataValue)) (number : Option ℕ) (made : Store) → option_map (λ (r : List DataValue). record { number = number; row = r }) row ≡ Some made → (row ≡ Some made.row) × (number ≡ made.number)
held-on None number made e = absurd (cc)
held-on (Some r) number made e =
    let same : Path Store (record { number = number; row = r }) made = cc in
    (ap (λ (s : Store). Some s.row) same, ap (λ (s : Store). s.number) same)

numbered-on : (o : Option Held) (row : List DataValue) (number : Option ℕ) → option_map (λ (h : Held). h.row) o ≡ Some row → number ≡ option_map (λ (h : Held). number_of_place h.place) o → (n : ℕ) × (number ≡ Some n)
numbered-on None row number e f = absurd (cc)
numbered-on (Some h) row number e f = (number_of_place h.place, f)

pub kept-number : (word : NumberingWord) (arrivals : List Arrival) (kept : Kept) (row : List DataValue) → word ≡ words.Message → KeepsBy (numbering_of word) arrivals kept → kept.row ≡ Some row → (n : ℕ) × (kept.number ≡ Some n)
kept-number words.Message arrivals kept row is keeps e = numbered-on (held arrivals) row kept.number (sym keeps.over.row ∙ e) keeps.over.number
kept-number words.None arrivals kept row is keeps e = absurd (cc)

pub in-first : (p : Plan) (second : Config) (sources : List Source) (relay : List RelayStep) (set : ℕ) → IsRelay p second sources relay → set < length second.dataset → IsHonestSource p (source_at sources set) (firsts relay)
    → InSession p (source_at sources set).read_group (source_at sources set).reader (source_at sources set).group (source_at sources set).writer (firsts relay)
in-first p second sources relay set is lt honest = record {
  plan = is.plan;
  steps_are = is.steps_are;
  run = is.run;
  rise = is.rise;
  there = (is.sources_are.each set lt).group_there;
  matched = (is.sources_are.each set lt).matched;
  honest = honest;
}

-- what a source stored at the end of a pump
pub made-published : ReadsLaw → HoldsLaw → (p : Plan) (source : Source) (now : List Step) (rows : ℕ → ℕ → List DataValue) (store : ℕ) (made : Store) → (seat_of p.config source).part.numbering ≡ words.Message
    → InSession p source.read_group source.reader source.group source.writer now → AreVersions p now rows → IsMadeAt p source now store made
    → (published : IsPublished p source.read_group source.reader source.group source.writer now rows made.number made.row) × ((origin_at p source now).version ≡ Some published.version)
made-published reads holds p source now rows store made numbering is versions at =
    let member = reader_at p.config source.read_group source.reader now in
    let held = held-on member.kept.row member.kept.number made at.held in
    let old = holds p source.read_group source.reader source.group source.writer now rows made.row is versions held.0 in
    let published = subst (λ (n : Option ℕ). IsPublished p source.read_group source.reader source.group source.writer now rows n made.row) held.1 old in
    let numbered = kept-number (seat_of p.config source).part.numbering (arrivals_at p.config source.read_group source.reader (first_number_of p.config source.group source.writer) now) member.kept made.row numbering (reads p source.read_group source.reader source.group source.writer now is).keeps held.0 in
    let some : made.number ≡ Some numbered.0 = sym held.1 ∙ numbered.1 in
    let same : numbered.0 ≡ published.place % 65536 = published.number_is numbered.0 some in (
      published,
      ap (λ (list : List Store). (origin_by p source now list).version) at.stored ∙ ap (option_and_then (version_of (log_at p source.group source.writer now))) some
          ∙ ap (version_of (log_at p source.group source.writer now)) same ∙ published.named,
    )

store-case : ReadsLaw → HoldsLaw → (p : Plan) (second : Config) (sources : List Source) (relay : List RelayStep) (set store : ℕ) (rows : ℕ → ℕ → List DataValue) (b : Bool) → nat_lt 0 store ≡ b → IsRelay p second sources relay
    → set < length second.dataset → IsHonestSource p (source_at sources set) (firsts relay) → AreVersions p (firsts relay) rows → store ≤ length (stores_of p.config sources set (firsts relay))
    → IsOfHistory p (meta_in second.dataset set) (source_at sources set) (firsts relay) rows store (stored_rows p.config second sources (firsts relay) set store)
store-case reads holds p second sources relay set store rows false e is lt honest versions le =
    let none : store ≡ 0 = grind (arith, nat_tests) in
    inl (none, ap (store_row (meta_in second.dataset set) (stores_of p.config sources set (firsts relay))) none ∙ row-none (meta_in second.dataset set) (stores_of p.config sources set (firsts relay)))
store-case reads holds p second sources relay set store rows true e is lt honest versions le =
    let source = source_at sources set in
    let h = has-made p source (meta_in second.dataset set) (firsts relay) store (grind (arith, nat_tests)) le in
    let session = session-behind p source.read_group source.reader source.group source.writer h.was.later h.was.now
    (subst (InSession p source.read_group source.reader source.group source.writer) h.was.split (in-first p second sources relay set is lt honest)) in
    let were = versions-behind p h.was.later h.was.now rows (subst (λ (l : List Step). AreVersions p l rows) h.was.split versions) in
    let out = made-published reads holds p source h.was.now rows store h.made (is.sources_are.each set lt).numbering session were h.was.at in
    inr (record { made = h.made; was = h.was; row_is = h.row; published = out.0; origin = out.1 })

pub stored-published : ReadsLaw → HoldsLaw → (p : Plan) (second : Config) (sources : List Source) (relay : List RelayStep) (set store : ℕ) (rows : ℕ → ℕ → List DataValue) → IsRelay p second sources relay → set < length second.dataset
    → IsHonestSource p (source_at sources set) (firsts relay) → AreVersions p (firsts relay) rows → store ≤ length (stores_of p.config sources set (firsts relay))
    → IsOfHistory p (meta_in second.dataset set) (source_at sources set) (firsts relay) rows store (stored_rows p.config second sources (firsts relay) set store)
stored-published reads holds p second sources relay set store rows is lt honest versions le = store-case reads holds p second sources relay set store rows (nat_lt 0 store) refl is lt honest versions le
