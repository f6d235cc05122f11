-- What a gateway tells.
use Rattle.std.proofs.Common.{◌≡◌, refl, sym, ap, ◌∙◌, subst, arith, ℕ, zero, suc, ◌+◌, ◌<◌, ◌≤◌, Bool, true, false, List, [], ◌∷◌, ◌++◌, length, reverse, Option, Some, None, Contains, inl, inr}
use Rattle.std.specs.Prelude.{◌⊎◌, ◌&&◌, ◌==◌, filter_map, if◌then◌else◌}
use Rattle.std.specs.List.{cons_option}
use Rattle.std.specs.List.Sorted.{IsNonDecreasingBy}
use Rattle.std.proofs.lemmas.Bool.Decides.{nat_tests}
use Rattle.std.proofs.lemmas.List.{append_assoc, reverse-append, reverse-reverse, take_all}
use Rattle.std.proofs.lemmas.List.Elements.{Contains-append_left, Contains-append_right, Contains-push}
use Rattle.std.proofs.lemmas.Option.{slice_get-get_or}
use Rattle.dataset_meta.specs.DataValues.{DataValue}
use Rattle.dataset_meta.specs.Metas.{MetaData}
use Rattle.dataset_meta.specs.Rows.{row_cut}
use Rattle.pubsub_model.specs.Answers.{is_data_at}
use Rattle.pubsub_model.specs.Cadence.{Answered, HadTurn, Refreshed, Settings, WriterDeed, WriterTurn, answer, cadence, frames_of, is_data, is_fresh, log_entry, log_of}
use Rattle.pubsub_model.specs.Frames.{Alive, Change, PlacedFrame, Whole, published}
use Rattle.pubsub_model.proofs.AnswerPlaces.{took}
use Rattle.config_tables.specs.declared.words.NumberingWord.TheVariants as words
use Rattle.ps_config.specs.declared.parts.Config.{Config}
use Rattle.writer_group.specs.declared.sampled.Sampled.{Sampled}
use Rattle.writer_group.specs.Parts.{group_at, no_group}
use Rattle.session_model.specs.Deeds.{log_at, writer_deeds}
use Rattle.session_model.specs.Events.{reader_at}
use Rattle.session_model.specs.Sends.{IsRun}
use Rattle.session_model.specs.Sets.{meta_in, metas_at}
use Rattle.session_model.specs.Steps as steps
use Rattle.session_model.specs.Steps.{Plan, Step}
use Rattle.session_laws.specs.Headline.{PublishesVersion, answered_turn}
use Rattle.session_laws.specs.Pasts.{settings_at}
use Rattle.session_laws.specs.Sessions.{AreVersions, HasSample, TakesWhatWasSent}
use Rattle.session_laws.proofs.Versions.Telling.{writer-index}
use Rattle.gateway_core.specs.Lived.{plan_again}
use Rattle.gateway_laws.specs.Gateways.{IsHonestAgain, IsHonestSource, IsRelay, set_of}
use Rattle.gateway_laws.specs.Relays.{Append, Collects, Disable, Enable, RelayStep, Round, firsts, seconds, stored_rows, stores_of}
use Rattle.gateway_laws.specs.Sources.{Source}
use Rattle.gateway_laws.specs.Telling.{AreUncut, HoldsStore, HoldsTold, IsKnown, IsNoOlder, IsNumbered, TellsGateway, TellsStore, source_of}
use Rattle.gateway_laws.proofs.Behind.{honest-behind, rise-behind, run-behind, steps-behind}
use Rattle.gateway_laws.proofs.Collecting.{sampled}
use Rattle.gateway_laws.proofs.Joined.{known-store}
use Rattle.gateway_laws.proofs.Older.{firsts-behind, printed-rise, seconds-behind, stores-rise}
use Rattle.gateway_laws.proofs.Publishing.{HoldsLaw, OlderLaw, PublishLaw, is-session, second-never-falls, second-publishes}
use Rattle.gateway_laws.proofs.Relayed.{MetaLaw, length-row, relayed, set-there}
use Rattle.gateway_laws.proofs.Rising.{Laws}
use Rattle.gateway_laws.proofs.Rounds.{counted}

-- the laws below
pub record AllLaws : Type 0 where
  pub laws : Laws
  pub holds : HoldsLaw
  pub publish : PublishLaw
  pub older : OlderLaw
  pub meta : MetaLaw

-- ---- the turn of an entry of the log

record IsEntry (s : Settings) (deeds : List WriterDeed) (place version : ℕ) : Type 0 where
  later : List WriterDeed
  before : List WriterDeed
  turn : WriterTurn
  split : deeds ≡ later ++ HadTurn turn ∷ before
  placed : is_data_at place (answered_turn s before turn) ≡ true
  version_is : turn.version ≡ version

same-pair : (m n place version : ℕ) → Path (Option (ℕ × ℕ)) (Some (m, n)) (Some (place, version)) → (m ≡ place) × (n ≡ version)
same-pair m n place version e = let same : Path (ℕ × ℕ) (m, n) (place, version) = cc in (ap (λ (x : ℕ × ℕ). x.0) same, ap (λ (x : ℕ × ℕ). x.1) same)

entry-on : (turn : WriterTurn) (o : Option PlacedFrame) (place version : ℕ) → log_entry (took turn o) ≡ Some (place, version) → (is_data_at place (took turn o) ≡ true) × (turn.version ≡ version)
entry-on turn None place version e = absurd (cc)
entry-on turn (Some (Whole p row)) place version e = let same = same-pair p turn.version place version e in ((let at = same.0 in grind (arith, nat_tests, at)), same.1)
entry-on turn (Some (Change p patch)) place version e = let same = same-pair p turn.version place version e in ((let at = same.0 in grind (arith, nat_tests, at)), same.1)
entry-on turn (Some (Alive n)) place version e = absurd (cc)

later-entry : (s : Settings) (deed : WriterDeed) (before : List WriterDeed) (place version : ℕ) → IsEntry s before place version → IsEntry s (deed ∷ before) place version
later-entry s deed before place version h = record {
  later = deed ∷ h.later;
  before = h.before;
  turn = h.turn;
  split = ap (λ (l : List WriterDeed). deed ∷ l) h.split;
  placed = h.placed;
  version_is = h.version_is;
}

in-cons : (o : Option (ℕ × ℕ)) (list : List (ℕ × ℕ)) (entry : ℕ × ℕ) → Contains (cons_option o list) entry → (o ≡ Some entry) ⊎ Contains list entry
in-cons None list entry has = inr has
in-cons (Some x) list entry (zero, below, same) = inl (ap (λ (y : ℕ × ℕ). Some y) same)
in-cons (Some x) list entry (suc k, below, same) = inr (k, omega (arith, below), same)

entry-of : (s : Settings) (deeds : List WriterDeed) (place version : ℕ) → Contains (filter_map log_entry (cadence s deeds)) (place, version) → IsEntry s deeds place version
entry-of s [] place version has = absurd (let below = has.1 in omega (arith, below))
entry-of s (Refreshed ∷ before) place version has = later-entry s Refreshed before place version (entry-of s before place version has)
entry-of s (HadTurn turn ∷ before) place version has =
    on (entry-of s before place version) (in-cons (log_entry (answered_turn s before turn)) (filter_map log_entry (cadence s before)) (place, version) has)
  where
    on : (Contains (filter_map log_entry (cadence s before)) (place, version) → IsEntry s before place version)
        → (log_entry (answered_turn s before turn) ≡ Some (place, version)) ⊎ Contains (filter_map log_entry (cadence s before)) (place, version) → IsEntry s (HadTurn turn ∷ before) place version
    on earlier (inl e) =
        let at = entry-on turn (answer s (is_fresh before) (cadence s before) turn) place version e in
        record { later = []; before = before; turn = turn; split = refl; placed = at.0; version_is = at.1 }
    on earlier (inr rest) = later-entry s (HadTurn turn) before place version (earlier rest)

in-reversed : (entry : ℕ × ℕ) (log : List (ℕ × ℕ)) → Contains log entry → Contains (reverse log) entry
in-reversed entry [] has = absurd (let below = has.1 in omega (arith, below))
in-reversed entry (x ∷ log) (zero, below, same) =
    subst (λ (l : List (ℕ × ℕ)). Contains l entry) (sym (reverse-append (x ∷ []) log)) (subst (Contains (reverse log ++ x ∷ [])) same (Contains-push (reverse log) x))
in-reversed entry (x ∷ log) (suc k, below, same) =
    subst (λ (l : List (ℕ × ℕ)). Contains l entry) (sym (reverse-append (x ∷ []) log)) (Contains-append_left (reverse log) (x ∷ []) entry (in-reversed entry log (k, omega (arith, below), same)))

logged-entry : (s : Settings) (deeds : List WriterDeed) (place version : ℕ) → Contains (log_of s deeds) (place, version) → IsEntry s deeds place version
logged-entry s deeds place version has =
    let list = filter_map log_entry (cadence s deeds) in
    entry-of s deeds place version (subst (λ (l : List (ℕ × ℕ)). Contains l (place, version)) (reverse-reverse list) (in-reversed (place, version) (reverse list) has))

is-data-on : (a b : Bool) → (a && b) ≡ true → a ≡ true
is-data-on true b e = refl
is-data-on false b e = absurd (cc)

-- ---- no field is appended to a gateway

metas-again : (second : Config) (relay : List RelayStep) → metas_at second (seconds relay) ≡ second.dataset
metas-again second [] = refl
metas-again second (Enable id ∷ relay) = metas-again second relay
metas-again second (Disable id ∷ relay) = metas-again second relay
metas-again second (Append set field ∷ relay) = metas-again second relay
metas-again second (Round ms closing samples done entries collected again back ∷ relay) = metas-again second relay

now-is : (second : Config) (relay : List RelayStep) (set : ℕ) (now : MetaData) (sample : Sampled) → HasSample (plan_again second) (seconds relay) set now sample → now ≡ meta_in second.dataset set
now-is second [] set now sample has = absurd has
now-is second (Enable id ∷ relay) set now sample has = now-is second relay set now sample has
now-is second (Disable id ∷ relay) set now sample has = now-is second relay set now sample has
now-is second (Append at field ∷ relay) set now sample has = now-is second relay set now sample has
now-is second (Round ms closing samples done entries collected again back ∷ relay) set now sample (inl is) = sym is.1 ∙ ap (λ (l : List MetaData). meta_in l set) (metas-again second relay)
now-is second (Round ms closing samples done entries collected again back ∷ relay) set now sample (inr has) = now-is second relay set now sample has

-- ---- a beginning of a relay

collects-behind : (first second : Config) (sources : List Source) (later now : List RelayStep) → Collects first second sources (later ++ now) → Collects first second sources now
collects-behind first second sources [] now is = is
collects-behind first second sources (Enable id ∷ later) now is = collects-behind first second sources later now is
collects-behind first second sources (Disable id ∷ later) now is = collects-behind first second sources later now is
collects-behind first second sources (Append set field ∷ later) now is = collects-behind first second sources later now is
collects-behind first second sources (Round ms closing samples done entries collected again back ∷ later) now is = collects-behind first second sources later now is.1

pub relay-behind : (p : Plan) (second : Config) (sources : List Source) (later now : List RelayStep) → IsRelay p second sources (later ++ now) → IsRelay p second sources now
relay-behind p second sources later now is =
    let one = firsts-behind later now in
    let two = seconds-behind later now in
    record {
      plan = is.plan;
      steps_are = steps-behind p one.0 (firsts now) (subst (Rattle.session_model.specs.Keeping.AreSteps p) one.1 is.steps_are);
      run = run-behind p one.0 (firsts now) (subst (IsRun p) one.1 is.run);
      rise = rise-behind p one.0 (firsts now) (subst (Rattle.session_laws.specs.Sessions.SamplesRise p) one.1 is.rise);
      again_plan = is.again_plan;
      again_run = run-behind (plan_again second) two.0 (seconds now) (subst (IsRun (plan_again second)) two.1 is.again_run);
      sources_are = is.sources_are;
      collects = collects-behind p.config second sources later now is.collects;
    }

-- ---- the parts

module _ (all : AllLaws) (p : Plan) (second : Config) (sources : List Source) (relay : List RelayStep) (rows : ℕ → ℕ → List DataValue) (is : IsRelay p second sources relay) (versions : AreVersions p (firsts relay) rows) where
  set-of-there : (g w : ℕ) → w < length (group_at second g).writer → set_of second g w < length second.dataset
  set-of-there g w within = set-there second g (group_at second g) w is.again_plan.good.sound (slice_get-get_or second.group g no_group (writer-index second g w within)) within

  tells-store : (g w place store : ℕ) → w < length (group_at second g).writer → Contains (log_at (plan_again second) g w (seconds relay)) (place, store) → TellsStore p second sources relay rows g w place store
  tells-store g w place store within has =
      let q = plan_again second in
      let s = settings_at (group_at second g) w in
      let set = set_of second g w in
      let there = set-of-there g w within in
      let entry = logged-entry s (writer_deeds q g w (seconds relay)) place store has in
      let session = is-session p second sources relay is in
      let of = counted all.laws.words p second is.again_plan sources g w within there relay entry.later entry.before entry.turn session.0 is.collects entry.split in
      let publishes = second-publishes all.publish p second sources relay g w entry.later entry.before entry.turn is within entry.split (is-data-on (is_data (answered_turn s entry.before entry.turn)) _ entry.placed) in
      let stored = sampled p.config second sources relay set publishes.now publishes.sample is.collects publishes.sampled in
      let full = stored_rows p.config second sources (firsts relay) set entry.turn.version in
      let long : length full ≡ length (meta_in second.dataset set).fields =
      ap (λ (n : ℕ). length (stored_rows p.config second sources (firsts relay) set n)) publishes.version ∙ sym (ap length stored.row) ∙ length-row (meta_in second.dataset set).fields publishes.sample.row.words in
      let cut : row_cut publishes.now full ≡ full =
      ap (λ (m : MetaData). row_cut m full) (now-is second relay set publishes.now publishes.sample publishes.sampled) ∙ take_all (length (meta_in second.dataset set).fields) full (omega (arith, long)) in
      let le : store ≤ length (stores_of p.config sources set (firsts relay)) = (let a = stored.count in let b = publishes.version in let c = entry.version_is in omega (arith, a, b, c)) in
      record {
        turn = entry.turn;
        before = entry.before;
        of_round = of.of_round;
        placed = entry.placed;
        count = sym entry.version_is ∙ of.count;
        publishes = publishes.row ∙ cut ∙ ap (λ (n : ℕ). stored_rows p.config second sources (firsts relay) set n) entry.version_is;
        known = λ honest. known-store all.laws all.holds p second sources relay rows set store is versions there honest le;
      }

  holds-store : (r i g w : ℕ) (row : List DataValue) → IsNumbered second r i g w → IsHonestAgain second r relay → (reader_at second r i (seconds relay)).kept.row ≡ Some row → HoldsStore p second sources relay rows r i g w row
  holds-store r i g w row numbered honest e =
      let set = set_of second g w in
      let is_relayed = relayed all.laws all.holds all.meta p second sources relay r i g w row is numbered.matched numbered.there honest numbered.numbering e in
      record {
        relayed = is_relayed;
        known = λ honest_first.
            known-store all.laws all.holds p second sources relay rows set is_relayed.store is versions (set-of-there g w numbered.matched.reads.within) honest_first is_relayed.within;
      }

-- ---- from one moment to a later one

pub no-older : Laws → (p : Plan) (second : Config) (sources : List Source) (newer older : List RelayStep) (r i g w : ℕ) → IsRelay p second sources (newer ++ older) → IsNumbered second r i g w
    → IsHonestAgain second r (newer ++ older) → IsHonestSource p (source_of second sources g w) (firsts (newer ++ older)) → IsNoOlder p second (source_of second sources g w) newer older r i g w
no-older laws p second sources newer older r i g w is numbered honest honest_first = λ store later_store version later_version uncut old new. (
  stores-rise laws p second sources newer older r i g w store later_store is numbered.matched numbered.there honest numbered.numbering uncut.reader old.holds new.holds,
  printed-rise laws p second sources newer older r i g w store later_store version later_version is numbered.matched numbered.there honest honest_first numbered.numbering uncut.reader uncut.source_is old.holds new.holds old.told new.told,
)

older-in : Laws → (p : Plan) (second : Config) (sources : List Source) (later newer older : List RelayStep) (r i g w : ℕ) → IsRelay p second sources (later ++ (newer ++ older)) → IsNumbered second r i g w
    → IsHonestAgain second r (later ++ (newer ++ older)) → IsHonestSource p (source_of second sources g w) (firsts (later ++ (newer ++ older))) → IsNoOlder p second (source_of second sources g w) newer older r i g w
older-in laws p second sources later newer older r i g w is numbered honest honest_first =
    let one = firsts-behind later (newer ++ older) in
    let two = seconds-behind later (newer ++ older) in
    let source = source_of second sources g w in
    no-older laws p second sources newer older r i g w (relay-behind p second sources later (newer ++ older) is) numbered
    (honest-behind (plan_again second) r two.0 (seconds (newer ++ older)) (subst (λ (l : List Step). TakesWhatWasSent (plan_again second) r l) two.1 honest))
    (honest-behind p source.read_group one.0 (firsts (newer ++ older)) (subst (λ (l : List Step). TakesWhatWasSent p source.read_group l) one.1 honest_first))

-- THE LAW
pub tells-gateway : AllLaws → (p : Plan) (second : Config) (sources : List Source) (relay : List RelayStep) (rows : ℕ → ℕ → List DataValue) → IsRelay p second sources relay → AreVersions p (firsts relay) rows → TellsGateway p second sources relay rows
tells-gateway all p second sources relay rows is versions = record {
  stores = tells-store all p second sources relay rows is versions;
  never_fall = λ g w within. second-never-falls all.older p second sources relay g w is within;
  readers = holds-store all p second sources relay rows is versions;
  never_older = λ later newer older r i g w split numbered honest honest_first.
      older-in all.laws p second sources later newer older r i g w (subst (IsRelay p second sources) split is) numbered (subst (IsHonestAgain second r) split honest)
      (subst (λ (l : List RelayStep). IsHonestSource p (source_of second sources g w) (firsts l)) split honest_first);
}
