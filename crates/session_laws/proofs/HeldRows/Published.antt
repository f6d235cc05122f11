-- THE HEADLINE, for a session.
use Rattle.std.proofs.Common.{◌≡◌, refl, sym, ap, ◌∙◌, subst, arith, ℕ, zero, suc, ◌<◌, Bool, true, List, [], ◌∷◌, ◌++◌, length, Option, Some, Contains}
use Rattle.std.specs.Prelude.{if◌then◌else◌}
use Rattle.pubsub_model.specs.Frames.{PlacedFrame}
use Rattle.std.specs.List.Sorted.{IsNonDecreasingBy}
use Rattle.std.proofs.lemmas.Option.{slice_get-get_or, get_or_from_slice_get}
use Rattle.dataset_meta.specs.DataValues.{DataValue}
use Rattle.dataset_meta.specs.Metas.{MetaData}
use Rattle.dataset_meta.specs.Rows.{row_cut}
use Rattle.pubsub_model.specs.Cadence.{Settings, Answered, WriterTurn, WriterDeed, Refreshed, HadTurn, HasRowsOf, cadence, answer, is_fresh, is_data, last_turn, turn_of}
use Rattle.pubsub_model.proofs.CadenceLaws.{length-log_of, cadence-publishes}
use Rattle.row_words.specs.Belonging.{row_in}
use Rattle.ps_config.specs.declared.parts.GroupPart.{GroupPart}
use Rattle.writer_group.specs.Payloads.{meta_at, writer_at}
use Rattle.writer_group.specs.Turns.{writer_past}
use Rattle.reader_group.specs.Settings.{group_at as read_group_at}
use Rattle.session_model.specs.Counts.{most_ticks}
use Rattle.session_model.specs.Steps.{Plan, Step}
use Rattle.session_model.specs.Sets.{metas_at, meta_in}
use Rattle.session_model.specs.Deeds.{log_at, writer_deeds, deeds}
use Rattle.writer_group.specs.Parts.{group_at, no_group}
use Rattle.session_model.specs.Events.{events, reader_at}
use Rattle.session_model.specs.Keeping.{AreSteps, AreStepsOf, IsPlan}
pub use Rattle.session_laws.specs.Below.{Laws}
use Rattle.session_laws.specs.Reading.{ReadsByRecords, first_number_of}
use Rattle.session_model.specs.Turns.{TurnsHold}
use Rattle.session_laws.specs.Headline.{InSession, ComesFrom, IsPublished, PublishesVersion, answered_turn, meta_of}
use Rattle.session_laws.specs.Pasts.{IsPast, settings_at}
use Rattle.session_laws.specs.Plays.{Play, IsPlay}
use Rattle.session_laws.specs.Sessions.{AreVersions, HasSample, SamplesRise, pasts_at}
use Rattle.session_laws.proofs.Versions.Distinct.{IsAt}
use Rattle.session_laws.proofs.HeldRows.Holding.{comes-from-writer, holds-version}
use Rattle.session_laws.proofs.Versions.Living.{IsLife, IsVersionTurn, TurnsAre, past-of}
use Rattle.session_laws.proofs.HeldRows.Near.{reads-by-records}
use Rattle.session_laws.proofs.Versions.Rowing.{WordLaws}
use Rattle.session_laws.proofs.Versions.Senders.{RingLaw}
use Rattle.session_laws.proofs.HeldRows.Sending.{came-as-made, all-restarts}
use Rattle.session_laws.proofs.Versions.Counts.{ticks-few}
use Rattle.session_model.proofs.Ticks.{log-few}
use Rattle.pubsub_model.proofs.LogVersions.{log-rises}

abbrev pub play_of : Plan → ℕ → ℕ → ℕ → ℕ → List Step → Play
play_of p r i g w steps = record {
  config = p.config;
  index = g;
  group = group_at p.config g;
  writer = w;
  readers = read_group_at p.config r;
  reader = i;
  pasts = pasts_at p steps;
  events = events p.config r steps;
}

is-past : (laws : Laws) (p : Plan) (steps : List Step) (g : ℕ) → IsPlan p → AreSteps p steps → TurnsHold p steps → SamplesRise p steps → IsPast p.config (group_at p.config g) (pasts_at p steps g)
is-past laws p steps g plan are hold rise =
    let h = past-of most_ticks laws.words laws.ring p g steps plan are hold rise in
    record { turns = h.turns; rows = λ w within. (meta_at (group_at p.config g) (metas_at p.config steps) w, (h.lives w within).rows) }

pasts-are : (laws : Laws) (p : Plan) (steps : List Step) → IsPlan p → AreSteps p steps → TurnsHold p steps → SamplesRise p steps → (g : ℕ) (group : GroupPart) → IsAt p.config g group → IsPast p.config group (pasts_at p steps g)
pasts-are laws p steps plan are hold rise g group at =
    subst (λ (part : GroupPart). IsPast p.config part (pasts_at p steps g)) (get_or_from_slice_get p.config.group g group no_group at) (is-past laws p steps g plan are hold rise)

pub is-play : (laws : Laws) (p : Plan) (r i g w : ℕ) (steps : List Step) → InSession p r i g w steps → IsPlay 16385 (play_of p r i g w steps)
is-play laws p r i g w steps is = record {
  sound = is.plan.good.sound;
  fixed = is.plan.good.fixed;
  there = slice_get-get_or p.config.group g no_group is.there;
  matched = is.matched;
  pasts = pasts-are laws p steps is.plan is.steps_are (laws.hold p steps is.plan is.steps_are) is.rise;
  came = came-as-made p r steps is.run is.honest;
  restarts = all-restarts p.config r steps;
  few = let few = ticks-few p steps is.steps_are in let ticks = log-few p g w steps in let count = length-log_of (settings_at (group_at p.config g) w) (writer_past w (pasts_at p steps g)) in omega (arith, few, ticks, count);
}

-- what comes is what the writer answered
pub comes-from : (laws : Laws) (p : Plan) (r i g w : ℕ) (steps : List Step) → InSession p r i g w steps → ComesFrom p r i g w steps
comes-from laws p r i g w steps is = comes-from-writer laws.turns 16385 (play_of p r i g w steps) (omega arith) (is-play laws p r i g w steps is)

-- and the reader reads by Records
pub session-records : (laws : Laws) (p : Plan) (r i g w : ℕ) (steps : List Step) → InSession p r i g w steps → ReadsByRecords p.config r i (first_number_of p.config g w) steps
session-records laws p r i g w steps is = reads-by-records laws.turns laws.agrees (play_of p r i g w steps) (is-play laws p r i g w steps is)

-- ---- the row of a version

turn-in : (P : WriterTurn → Type 0) (s : Settings) (past : List WriterDeed) (a : Answered) → TurnsAre P past → Contains (cadence s past) a → P a.turn
turn-in P s [] a are has = absurd (let below = has.1 in omega (arith, below))
turn-in P s (Refreshed ∷ before) a are has = turn-in P s before a are has
turn-in P s (HadTurn turn ∷ before) a are (zero, below, same) = subst (λ (x : Answered). P x.turn) same are.0
turn-in P s (HadTurn turn ∷ before) a are (suc k, below, same) = turn-in P s before a are.1 (k, omega (arith, below), same)

-- the row of a turn, cut to the fields of a reader that is matched to its writer, is that of its version
pub turn-row : (laws : Laws) (p : Plan) (r i g w : ℕ) (steps : List Step) (rows : ℕ → ℕ → List DataValue) (turn : WriterTurn) → InSession p r i g w steps → AreVersions p steps rows
    → IsVersionTurn p (HasSample p steps) (meta_at (group_at p.config g) p.config.dataset w) (writer_at (group_at p.config g) w).dataset turn
    → row_cut (meta_of p r i) turn.row ≡ row_cut (meta_of p r i) (rows (writer_at (group_at p.config g) w).dataset turn.version)
turn-row laws p r i g w steps rows turn is versions of =
    let group = group_at p.config g in
    let index = (writer_at group w).dataset in
    let meta : meta_of p r i ≡ meta_at group p.config.dataset w = laws.turns.meta p.config (read_group_at p.config r) i group w is.matched in
    let full = row_in (meta_in p.full index).fields of.sample.row.words in
    let cut : row_cut (meta_of p r i) turn.row ≡ row_cut (meta_of p r i) full = subst (λ (m : MetaData). row_cut m turn.row ≡ row_cut m full) (sym meta) of.row in
    let version : full ≡ rows index turn.version = versions index of.now of.sample of.sampled ∙ ap (rows index) (sym of.version) in
    cut ∙ ap (row_cut (meta_of p r i)) version

life-of : (laws : Laws) (p : Plan) (r i g w : ℕ) (steps : List Step) → InSession p r i g w steps
    → TurnsAre (IsVersionTurn p (HasSample p steps) (meta_at (group_at p.config g) p.config.dataset w) (writer_at (group_at p.config g) w).dataset) (writer_past w (pasts_at p steps g))
life-of laws p r i g w steps is = ((past-of most_ticks laws.words laws.ring p g steps is.plan is.steps_are (laws.hold p steps is.plan is.steps_are) is.rise).lives w is.matched.reads.within).turns

-- also that of the last turn
pub turn-published : (laws : Laws) (p : Plan) (r i g w : ℕ) (steps : List Step) (rows : ℕ → ℕ → List DataValue) (before : List WriterDeed) (turn : WriterTurn) → InSession p r i g w steps → AreVersions p steps rows
    → writer_deeds p g w steps ≡ HadTurn turn ∷ before → row_cut (meta_of p r i) turn.row ≡ row_cut (meta_of p r i) (rows (writer_at (group_at p.config g) w).dataset turn.version)
turn-published laws p r i g w steps rows before turn is versions last =
    let P = IsVersionTurn p (HasSample p steps) (meta_at (group_at p.config g) p.config.dataset w) (writer_at (group_at p.config g) w).dataset in
    turn-row laws p r i g w steps rows turn is versions (subst (TurnsAre P) last (life-of laws p r i g w steps is)).0

-- what a reader holds is a published version
pub published : (laws : Laws) (p : Plan) (r i g w : ℕ) (steps : List Step) (rows : ℕ → ℕ → List DataValue) (row : List DataValue) → InSession p r i g w steps → AreVersions p steps rows → (reader_at p.config r i steps).kept.row ≡ Some row
    → IsPublished p r i g w steps rows (reader_at p.config r i steps).kept.number row
published laws p r i g w steps rows row is versions e =
    let group = group_at p.config g in
    let index = (writer_at group w).dataset in
    let h = holds-version laws.turns laws.agrees (play_of p r i g w steps) row (is-play laws p r i g w steps is) e in
    let turn = turn-in (IsVersionTurn p (HasSample p steps) (meta_at group p.config.dataset w) index) (settings_at group w) (writer_past w (pasts_at p steps g)) h.sent.turn (life-of laws p r i g w steps is) h.sent.one_of in
    record {
      place = h.place;
      version = h.sent.turn.turn.version;
      sent = h.sent;
      its_version = refl;
      logged = h.logged.entry;
      named = h.logged.named;
      number_is = h.number_is;
      row_is = h.sent.row ∙ turn-row laws p r i g w steps rows h.sent.turn.turn is versions turn;
    }

-- and its versions never fall
pub never-older : (limit : ℕ) (words : WordLaws) (ring : RingLaw) (p : Plan) (g w : ℕ) (steps : List Step) → IsPlan p → AreStepsOf limit p steps → TurnsHold p steps → SamplesRise p steps → w < length (group_at p.config g).writer → IsNonDecreasingBy (λ (entry : ℕ × ℕ). entry.1) (log_at p g w steps)
never-older limit words ring p g w steps plan are hold rise within =
    log-rises (settings_at (group_at p.config g) w) (writer_past w (pasts_at p steps g)) ((past-of limit words ring p g steps plan are hold rise).lives w within).never

-- ---- published rows

rows-behind : (meta : MetaData) (later deeds : List WriterDeed) → HasRowsOf meta (later ++ deeds) → (now : MetaData) × HasRowsOf now deeds
rows-behind meta [] deeds rows = (meta, rows)
rows-behind meta (Refreshed ∷ later) deeds rows = rows-behind rows.0 later deeds rows.1
rows-behind meta (HadTurn turn ∷ later) deeds rows = rows-behind meta later deeds rows.1

turns-behind : (P : WriterTurn → Type 0) (later deeds : List WriterDeed) → TurnsAre P (later ++ deeds) → TurnsAre P deeds
turns-behind P [] deeds are = are
turns-behind P (Refreshed ∷ later) deeds are = turns-behind P later deeds are
turns-behind P (HadTurn turn ∷ later) deeds are = turns-behind P later deeds are.1

last-is : (turn : WriterTurn) (o : Option PlacedFrame) (before : List Answered) → is_data (record { turn = turn; answer = o }) ≡ true → last_turn is_data (record { turn = turn; answer = o } ∷ before) ≡ turn
last-is turn o before e = ap (λ (b : Bool). turn_of (if b then Some (record { turn = turn; answer = o }) else Rattle.std.specs.Prelude.find is_data before)) e

-- each data frame of what a writer lived through publishes the row of its version, cut to the fields that the data set had at its turn
pub life-publishes : (p : Plan) (g w : ℕ) (steps : List Step) (now : MetaData) (past : List WriterDeed) (rows : ℕ → ℕ → List DataValue) (later before : List WriterDeed) (turn : WriterTurn)
    → IsLife p (HasSample p steps) now (meta_at (group_at p.config g) p.config.dataset w) (writer_at (group_at p.config g) w).dataset past → AreVersions p steps rows → past ≡ later ++ HadTurn turn ∷ before
    → is_data (answered_turn (settings_at (group_at p.config g) w) before turn) ≡ true
    → PublishesVersion p steps (settings_at (group_at p.config g) w) (writer_at (group_at p.config g) w).dataset rows before turn
life-publishes p g w steps now past rows later before turn life versions split e =
    let s = settings_at (group_at p.config g) w in
    let index = (writer_at (group_at p.config g) w).dataset in
    let P = IsVersionTurn p (HasSample p steps) (meta_at (group_at p.config g) p.config.dataset w) index in
    let own = rows-behind now later (HadTurn turn ∷ before) (subst (HasRowsOf now) split life.rows) in
    let is = (turns-behind P later (HadTurn turn ∷ before) (subst (TurnsAre P) split life.turns)).0 in
    let last = last-is turn (answer s (is_fresh before) (cadence s before) turn) (cadence s before) e in
    let its_row : turn.row ≡ row_cut is.now (rows index turn.version) =
    is.had ∙ ap (row_cut is.now) (versions index is.now is.sample is.sampled ∙ ap (rows index) (sym is.version)) in
    record {
      sample = is.sample;
      now = is.now;
      sampled = is.sampled;
      version = is.version;
      fields = is.fields;
      turn_row = its_row;
      row = cadence-publishes own.0 s (HadTurn turn ∷ before) own.1 ∙ ap (λ (t : WriterTurn). t.row) last ∙ its_row;
    }

-- so in a session
pub publishes : (limit : ℕ) (words : WordLaws) (ring : RingLaw) (p : Plan) (g w : ℕ) (steps : List Step) (rows : ℕ → ℕ → List DataValue) (later before : List WriterDeed) (turn : WriterTurn) → IsPlan p → AreStepsOf limit p steps → TurnsHold p steps → SamplesRise p steps
    → AreVersions p steps rows → w < length (group_at p.config g).writer → writer_deeds p g w steps ≡ later ++ HadTurn turn ∷ before
    → is_data (answered_turn (settings_at (group_at p.config g) w) before turn) ≡ true
    → PublishesVersion p steps (settings_at (group_at p.config g) w) (writer_at (group_at p.config g) w).dataset rows before turn
publishes limit words ring p g w steps rows later before turn plan are hold rise versions within split e =
    life-publishes p g w steps (meta_at (group_at p.config g) (metas_at p.config steps) w) (writer_past w (pasts_at p steps g)) rows later before turn
    ((past-of limit words ring p g steps plan are hold rise).lives w within) versions split e
