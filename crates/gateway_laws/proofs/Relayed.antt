-- What is relayed is a row of a store, and so of the first history.
use Rattle.std.proofs.Common.{◌≡◌, refl, sym, ap, ◌∙◌, subst, arith, ℕ, zero, suc, ◌<◌, ◌≤◌, List, [], ◌∷◌, length, Some, Contains}
use Rattle.std.proofs.lemmas.List.{take_all}
use Rattle.std.proofs.lemmas.Option.{slice_get-get_or}
use Rattle.dataset_meta.specs.declared.field.Field.{Field}
use Rattle.dataset_meta.specs.DataValues.{DataValue}
use Rattle.dataset_meta.specs.Metas.{MetaData}
use Rattle.dataset_meta.specs.Rows.{row_cut}
use Rattle.row_words.specs.Belonging.{row_in}
use Rattle.pubsub_model.specs.Cadence.{Answered, Settings, WriterDeed, WriterTurn, Refreshed, HadTurn, cadence}
use Rattle.config_tables.specs.declared.words.NumberingWord.TheVariants as words
use Rattle.ps_config.specs.declared.parts.Config.{Config}
use Rattle.ps_config.specs.declared.parts.GroupPart.{GroupPart}
use Rattle.ps_config.specs.declared.parts.ReadGroupPart.{ReadGroupPart}
use Rattle.ps_config.specs.Sound.{IsSound, IsGroup, IsWriter}
use Rattle.pubsub_model.specs.Answers.{version_of}
use Rattle.group_laws.specs.Matching.{IsMatchedTo}
use Rattle.reader_group.specs.Members.{seat_at}
use Rattle.reader_group.specs.Settings.{group_at as read_group_at, setting_by, setting_of}
use Rattle.writer_group.specs.Payloads.{meta_at, writer_at, no_writer}
use Rattle.session_model.specs.Counts.{most_ticks}
use Rattle.session_model.specs.Steps.{Plan}
use Rattle.session_model.specs.Sets.{meta_in}
use Rattle.session_model.specs.Deeds.{log_at, writer_deeds}
use Rattle.writer_group.specs.Parts.{group_at, no_group}
use Rattle.session_model.specs.Events.{reader_at}
use Rattle.session_laws.specs.Reading.{IsMatchedIn, arrivals_at, first_number_of}
use Rattle.session_laws.specs.Headline.{meta_of}
use Rattle.session_laws.specs.Pasts.{settings_at}
use Rattle.session_laws.specs.Sessions.{HasSample}
use Rattle.session_laws.proofs.Versions.Distinct.{IsAt, at-sound}
use Rattle.session_laws.proofs.Versions.Living.{IsVersionTurn, TurnsAre, past-of}
use Rattle.gateway_laws.specs.Sources.{Source, source_at}
use Rattle.gateway_laws.specs.Relays.{RelayStep, firsts, seconds, stored_rows, stores_of}
use Rattle.gateway_laws.specs.Origins.{HoldsVersionAt}
use Rattle.gateway_laws.specs.Gateways.{IsRelay, IsHonestAgain, IsOfHistory, IsRelayed, set_of}
use Rattle.gateway_laws.proofs.Collecting.{sampled}
use Rattle.gateway_laws.proofs.Publishing.{HoldsLaw, in-second, second-holds}
use Rattle.gateway_laws.proofs.Rising.{Laws, holds-at}
use Rattle.gateway_laws.proofs.Stored.{kept-number, stored-published}
use Rattle.gateway_core.specs.Lived.{plan_again}

abbrev pub MetaLaw : Type 0
MetaLaw = (config : Config) (readers : ReadGroupPart) (reader : ℕ) (group : GroupPart) (writer : ℕ) → IsMatchedTo config readers reader group writer
    → (seat_at (setting_by config readers).seats reader).meta ≡ meta_at group config.dataset writer

pub set-there : (config : Config) (g : ℕ) (group : GroupPart) (writer : ℕ) → IsSound config → IsAt config g group → writer < length group.writer → (writer_at group writer).dataset < length config.dataset
set-there config g group writer sound at within = there (at-sound config g group sound at)
  where
    there : IsGroup config group → (writer_at group writer).dataset < length config.dataset
    there is = of (is.writers writer no_writer within)
      where
        of : IsWriter config group (writer_at group writer) → (writer_at group writer).dataset < length config.dataset
        of w = w.dataset

turn-in : (P : WriterTurn → Type 0) (s : Settings) (past : List WriterDeed) (a : Answered) → TurnsAre P past → Contains (cadence s past) a → P a.turn
turn-in P s [] a are has = absurd (let below = has.1 in omega (arith, below))
turn-in P s (Refreshed ∷ before) a are has = turn-in P s before a are has
turn-in P s (HadTurn turn ∷ before) a are (zero, below, same) = subst (λ (x : Answered). P x.turn) same are.0
turn-in P s (HadTurn turn ∷ before) a are (suc k, below, same) = turn-in P s before a are.1 (k, omega (arith, below), same)

length-with : (fields : List Field) (words statuses : List ℕ) → length (Rattle.row_words.specs.Belonging.row_with fields words statuses) ≡ length fields
length-with [] words statuses = refl
length-with (field ∷ fields) words statuses = ap suc (length-with fields _ _)

pub length-row : (fields : List Field) (words : List ℕ) → length (row_in fields words) ≡ length fields
unfolding row_in
length-row fields words = length-with fields words _

-- the store that a second reader's number names is one that there is
stored-turn : Laws → (p : Plan) (second : Config) (sources : List Source) (relay : List RelayStep) (r i g w store : ℕ) → IsRelay p second sources relay → IsMatchedIn second r i g w → g < length second.group → IsHonestAgain second r relay
    → (seat_at (setting_of second r).seats i).part.numbering ≡ words.Message → HoldsVersionAt (plan_again second) r i g w (seconds relay) store
    → (store ≤ length (stores_of p.config sources (set_of second g w) (firsts relay))) × (length (stored_rows p.config second sources (firsts relay) (set_of second g w) store) ≡ length (meta_in second.dataset (set_of second g w)).fields)
stored-turn laws p second sources relay r i g w store is matched there honest numbering holds =
    let q = plan_again second in
    let set = set_of second g w in
    let session = in-second p second sources relay r i g w is matched there honest in
    let h = holds-at laws q r i g w (seconds relay) store session numbering holds in
    let life = (past-of most_ticks laws.words laws.ring q g (seconds relay) session.plan session.steps_are (laws.turns q (seconds relay) session.plan session.steps_are) session.rise).lives w session.matched.reads.within in
    let turn = turn-in (IsVersionTurn q (HasSample q (seconds relay)) (meta_at (group_at second g) second.dataset w) set) (settings_at (group_at second g) w) (writer_deeds q g w (seconds relay)) h.turn life.turns h.has in
    let stored = sampled p.config second sources relay set turn.now turn.sample is.collects turn.sampled in
    let same : store ≡ turn.sample.version = h.version_is ∙ turn.version in (
      (let a = stored.count in omega (arith, a, same)),
      ap (λ (n : ℕ). length (stored_rows p.config second sources (firsts relay) set n)) same ∙ sym (ap length stored.row) ∙ length-row (meta_in second.dataset set).fields turn.sample.row.words,
    )

pub relayed : Laws → HoldsLaw → MetaLaw → (p : Plan) (second : Config) (sources : List Source) (relay : List RelayStep) (r i g w : ℕ) (row : List DataValue) → IsRelay p second sources relay → IsMatchedIn second r i g w → g < length second.group
    → IsHonestAgain second r relay → (seat_at (setting_of second r).seats i).part.numbering ≡ words.Message → (reader_at second r i (seconds relay)).kept.row ≡ Some row → IsRelayed p second sources relay r i g w row
relayed laws holds meta_law p second sources relay r i g w row is matched there honest numbering e =
    let q = plan_again second in
    let set = set_of second g w in
    let session = in-second p second sources relay r i g w is matched there honest in
    let published = second-holds holds p second sources relay r i g w row is matched there honest e in
    let kept = (reader_at second r i (seconds relay)).kept in
    let n = kept-number (seat_at (setting_of second r).seats i).part.numbering (arrivals_at second r i (first_number_of second g w) (seconds relay)) kept row numbering (laws.reads q r i g w (seconds relay) session).keeps e in
    let at : HoldsVersionAt q r i g w (seconds relay) published.version = record {
      row = row;
      row_is = e;
      number = n.0;
      number_is = n.1;
      named = ap (version_of (log_at q g w (seconds relay))) (published.number_is n.0 n.1) ∙ published.named;
    } in
    let found = stored-turn laws p second sources relay r i g w published.version is matched there honest numbering at in
    let meta : meta_of q r i ≡ meta_in second.dataset set = meta_law second (read_group_at second r) i (group_at second g) w matched in
    let full = stored_rows p.config second sources (firsts relay) set published.version in
    let cut : row_cut (meta_of q r i) full ≡ full = ap (λ (m : MetaData). row_cut m full) meta ∙ take_all (length (meta_in second.dataset set).fields) full (let len = found.1 in omega (arith, len)) in
    let lt = set-there second g (group_at second g) w is.again_plan.good.sound (slice_get-get_or second.group g no_group there) matched.reads.within in
    let row_is : row ≡ full = published.row_is ∙ cut in
    record {
      store = published.version;
      holds = at;
      same = refl;
      within = found.0;
      row_is = row_is;
      of_history = λ honest_first rows versions. subst (IsOfHistory p (meta_in second.dataset set) (source_at sources set) (firsts relay) rows published.version) (sym row_is)
          (stored-published laws.reads holds p second sources relay set published.version rows is lt honest_first versions found.0);
    }
