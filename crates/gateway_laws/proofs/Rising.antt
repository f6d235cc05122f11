-- A reader that isn't cut never holds an older version than before.
use Rattle.std.proofs.Common.{◌≡◌, refl, sym, ap, ◌∙◌, subst, arith, ℕ, zero, suc, ◌+◌, ◌<◌, ◌≤◌, Bool, true, false, List, [], ◌∷◌, ◌++◌, Option, Some, None, All, Contains}
use Rattle.std.specs.Prelude.{◌&&◌, ◌==◌, nat_lt, option_map, if◌then◌else◌}
use Rattle.std.specs.List.{cons_option, list_all, list_any}
use Rattle.std.proofs.lemmas.Bool.Decides.{nat_tests}
use Rattle.std.proofs.lemmas.List.Elements.{All-nil, All-cons, All-head, All-tail, Contains-append_right}
use Rattle.seq_number.specs.Numbers.{number_of_place}
use Rattle.dataset_meta.specs.DataValues.{DataValue}
use Rattle.dataset_meta.specs.Metas.{MetaData}
use Rattle.dataset_meta.specs.Rows.{cons_if}
use Rattle.pubsub_model.specs.Frames.{is_whole}
use Rattle.pubsub_model.specs.Cadence.{Settings, Answered, WriterDeed, WriterTurn, Refreshed, HadTurn, HasRowsOf, cadence, next_place, answer, is_fresh}
use Rattle.pubsub_model.specs.Records.{Item, Arrival, Held, held, held_in, records, is_record, since_cut, place_in, from_whole, last_with, is_nothing, breaks_of}
use Rattle.config_tables.specs.declared.words.NumberingWord.{NumberingWord}
use Rattle.config_tables.specs.declared.words.NumberingWord.TheVariants as words
use Rattle.dataset_reader.specs.Kept.{Kept}
use Rattle.dataset_reader.specs.Keeping.{KeepsBy}
use Rattle.ps_config.specs.declared.parts.Config.{Config}
use Rattle.pubsub_model.specs.Answers.{version_of}
use Rattle.pubsub_states.specs.declared.component.Component.{Component}
use Rattle.pubsub_states.specs.declared.component.Component.TheVariants.{Group}
use Rattle.reader_group.specs.Members.{numbering_of, seat_at}
use Rattle.reader_group.specs.Settings.{setting_of}
use Rattle.writer_group.specs.declared.sampled.Sampled.{Sampled}
use Rattle.writer_group.specs.Turns.{GroupDeed, GroupTurn, HadGroupTurn, took_by, writer_past}
use Rattle.session_model.specs.Steps.{Plan, Step, Enable, Disable, Append, Tick, Pump, moment_of}
use Rattle.session_model.specs.Deeds.{Deed, RefreshedBelow, RefreshedSet, CameTo, TookTurn, deeds, component_at, group_past, writer_indexes, is_writer_below, is_writer_of, refreshed_where, turn_of, log_at, writer_deeds}
use Rattle.writer_group.specs.Parts.{group_at}
use Rattle.session_model.specs.Events.{reader_at}
use Rattle.session_laws.specs.Reading.{arrivals_at, first_number_of}
use Rattle.pubsub_model.specs.Answers.{IsAnswerCut, IsRowSent, NeverFall, is_data_at, turn_versions}
use Rattle.session_model.specs.Counts.{most_ticks, ticks_in}
use Rattle.session_model.specs.Keeping.{AreSteps, IsPlan}
use Rattle.session_model.specs.Turns.{TurnsHold}
use Rattle.session_laws.specs.Headline.{InSession, ComesFrom, meta_of}
use Rattle.session_laws.specs.Pasts.{settings_at}
use Rattle.session_laws.specs.Plays.{ItemsAre, IsAnswerBy}
use Rattle.session_laws.proofs.HeldRows.BareHeld.{since-more}
use Rattle.session_model.proofs.Deeds.{TickKeeps, tick-keeps, refreshed-keeps}
use Rattle.pubsub_model.proofs.HeldRows.{all-records}
use Rattle.session_laws.proofs.Versions.Living.{past-of}
use Rattle.pubsub_model.proofs.LoggedTurns.{turn-at, has-data-at, answer-in}
use Rattle.session_laws.proofs.HeldRows.Near.{items-since}
use Rattle.pubsub_model.proofs.AnswerPlaces.{answers-span, place-span, next-is, data-at, took}
use Rattle.session_laws.proofs.Versions.Rowing.{WordLaws}
use Rattle.session_laws.proofs.Versions.Senders.{RingLaw}
use Rattle.session_model.proofs.Ticks.{log-few}
use Rattle.pubsub_model.proofs.LogVersions.{version-is}
use Rattle.pubsub_model.proofs.CadenceLaws.{length-log_of}
use Rattle.gateway_laws.specs.Origins.{IsUncut, IsUncutBetween, HoldsVersionAt}
use Rattle.gateway_laws.proofs.Behind.{session-behind}
use Rattle.gateway_laws.proofs.Publishing.{ReadsLaw}

-- ---- records have rising places

abbrev HeadAtLeast : ℕ → List Item → Type 0
HeadAtLeast n [] = Path Bool true false
HeadAtLeast n (item ∷ before) = n ≤ place_in item

both : (a b : Bool) → (a && b) ≡ true → (a ≡ true) × (b ≡ true)
both true b e = (refl, e)
both false b e = absurd (cc)

all-below : (n : ℕ) (items : List Item) → list_all (λ (earlier : Item). nat_lt (place_in earlier) n) items ≡ true → All (λ (earlier : Item). place_in earlier < n) items
all-below n [] e = All-nil (λ (earlier : Item). place_in earlier < n)
all-below n (item ∷ items) e =
    let h = both (nat_lt (place_in item) n) (list_all (λ (earlier : Item). nat_lt (place_in earlier) n) items) e in
    let a = h.0 in
    let lt : place_in item < n = grind (arith, nat_tests, a) in
    All-cons (λ (earlier : Item). place_in earlier < n) item items lt (all-below n items h.1)

head-of : (n m : ℕ) (rs : List Item) → HeadAtLeast n rs → All (λ (earlier : Item). place_in earlier < m) rs → n ≤ m
head-of n m [] h all = absurd (cc)
head-of n m (item ∷ rs) h all = let lt = All-head (λ (earlier : Item). place_in earlier < m) item rs all in omega (arith, h, lt)

head-on : (n : ℕ) (item : Item) (items : List Item) (b : Bool) → is_record items item ≡ b → HeadAtLeast n (records items) → HeadAtLeast n (cons_if b item (records items))
head-on n item items true e h = head-of n (place_in item) (records items) h (all-records (λ (earlier : Item). place_in earlier < place_in item) items (all-below (place_in item) items e))
head-on n item items false e h = h

head-more : (n : ℕ) (more items : List Item) → HeadAtLeast n (records items) → HeadAtLeast n (records (more ++ items))
head-more n [] items h = h
head-more n (item ∷ more) items h = head-on n item (more ++ items) (is_record (more ++ items) item) refl (head-more n more items h)

-- the place that is held is the last record's
record IsHeadAt (n : ℕ) (rs : List Item) : Type 0 where
  least : HeadAtLeast n rs
  most : (m : ℕ) → HeadAtLeast m rs → m ≤ n

place-head : (h : Held) (item : Item) (row : List DataValue) → Some (record { place = place_in item; row = row }) ≡ Some h → place_in item ≡ h.place
place-head h item row e = let same : Path Held (record { place = place_in item; row = row }) h = cc in ap (λ (g : Held). g.place) same

last-head : (h : Held) (item : Item) (before : List Item) (b : Bool) → last_with (if b then item ∷ [] else item ∷ from_whole before) ≡ Some h → place_in item ≡ h.place
last-head h item before true e = place-head h item _ e
last-head h item before false e = place-head h item _ e

held-head : (h : Held) (rs : List Item) (b : Bool) → (if b then last_with (from_whole rs) else None) ≡ Some h → IsHeadAt h.place rs
held-head h rs false e = absurd (cc)
held-head h [] true e = absurd (cc)
held-head h (item ∷ before) true e =
    let same = last-head h item before (is_whole item.frame) e in
    record { least = omega (arith, same); most = λ m le. omega (arith, same, le) }

head-at : (h : Held) (rs : List Item) → held_in rs ≡ Some h → IsHeadAt h.place rs
head-at h rs e = held-head h rs (list_any (λ (item : Item). is_whole item.frame) rs && is_nothing (breaks_of (from_whole rs))) e

pub places-rise : (old new : List Arrival) (h g : Held) → IsUncut old new → held old ≡ Some h → held new ≡ Some g → h.place ≤ g.place
places-rise old new h g uncut e f =
    let before = head-at h (records (since_cut old)) e in
    let now = head-at g (records (since_cut new)) f in
    let since : since_cut new ≡ uncut.items ++ since_cut old = ap since_cut uncut.newer ∙ since-more uncut.items old in
    now.most h.place (subst (λ (l : List Item). HeadAtLeast h.place (records l)) (sym since) (head-more h.place uncut.items (since_cut old) before.least))

-- ---- the turns of a writer stay

HasTurned : Config → ℕ → ℕ → Answered → List Deed → Type 0
HasTurned config g w a deeds = Contains (cadence (settings_at (group_at config g) w) (writer_past w (group_past config g deeds))) a

stays-one : (s : Settings) (a : Answered) (o : Option WriterDeed) (past : List WriterDeed) → Contains (cadence s past) a → Contains (cadence s (cons_option o past)) a
stays-one s a None past h = h
stays-one s a (Some Refreshed) past h = h
stays-one s a (Some (HadTurn turn)) past h = Contains-append_right (took turn (answer s (is_fresh past) (cadence s past) turn) ∷ []) (cadence s past) a h

stays-refreshed : (s : Settings) (a : Answered) (w : ℕ) (test : ℕ → Bool) (past : List GroupDeed) (writers : List ℕ) → Contains (cadence s (writer_past w past)) a → Contains (cadence s (writer_past w (refreshed_where test past writers))) a
stays-refreshed s a w test past writers h =
    refreshed-keeps (λ (l : List GroupDeed). Contains (cadence s (writer_past w l)) a) (λ writer l has. stays-one s a (if writer == w then Some Refreshed else None) (writer_past w l) has) test past writers h

turned-below : (config : Config) (component : Component) (g w : ℕ) (a : Answered) (earlier : List Deed) → HasTurned config g w a earlier → HasTurned config g w a (RefreshedBelow component ∷ earlier)
unfolding HasTurned
turned-below config component g w a earlier h = stays-refreshed (settings_at (group_at config g) w) a w (is_writer_below component g) (group_past config g earlier) (writer_indexes (group_at config g)) h

turned-set : (config : Config) (set g w : ℕ) (a : Answered) (earlier : List Deed) → HasTurned config g w a earlier → HasTurned config g w a (RefreshedSet set ∷ earlier)
unfolding HasTurned
turned-set config set g w a earlier h = stays-refreshed (settings_at (group_at config g) w) a w (is_writer_of (group_at config g) set) (group_past config g earlier) (writer_indexes (group_at config g)) h

turned-came : (config : Config) (now g w : ℕ) (a : Answered) (earlier : List Deed) → HasTurned config g w a earlier → HasTurned config g w a (CameTo now ∷ earlier)
unfolding HasTurned
turned-came config now g w a earlier h = h

turn-if : (s : Settings) (w : ℕ) (a : Answered) (b : Bool) (turn : GroupTurn) (past : List GroupDeed) → Contains (cadence s (writer_past w past)) a → Contains (cadence s (writer_past w (cons_if b (HadGroupTurn turn) past))) a
turn-if s w a true turn past h = stays-one s a (option_map HadTurn (took_by w turn)) (writer_past w past) h
turn-if s w a false turn past h = h

turned-turn : (config : Config) (k g w : ℕ) (a : Answered) (turn : GroupTurn) (earlier : List Deed) → HasTurned config g w a earlier → HasTurned config g w a (TookTurn k turn ∷ earlier)
unfolding HasTurned
turned-turn config k g w a turn earlier h = turn-if (settings_at (group_at config g) w) w a (k == g) turn (group_past config g earlier) h

turned-keeps : (p : Plan) (g w : ℕ) (a : Answered) (before : List Step) (now : ℕ) (closing : Bool) (samples : List Sampled) → TickKeeps p before now closing samples (HasTurned p.config g w a)
turned-keeps p g w a before now closing samples = record {
  came = λ earlier h. turned-came p.config now g w a earlier h;
  fresh = λ k earlier h. turned-below p.config (Group k) g w a earlier h;
  turn = λ k earlier there has h. turned-turn p.config k g w a (turn_of p before now closing samples earlier k) earlier h;
}

turned-later : (p : Plan) (g w : ℕ) (a : Answered) (later now : List Step) → HasTurned p.config g w a (deeds p now) → HasTurned p.config g w a (deeds p (later ++ now))
turned-later p g w a [] now h = h
turned-later p g w a (Enable id ∷ later) now h = turned-below p.config (component_at p.config id) g w a (deeds p (later ++ now)) (turned-later p g w a later now h)
turned-later p g w a (Disable id ∷ later) now h = turned-later p g w a later now h
turned-later p g w a (Append set field ∷ later) now h = turned-set p.config set g w a (deeds p (later ++ now)) (turned-later p g w a later now h)
turned-later p g w a (Tick ms closing samples done ∷ later) now h =
    tick-keeps p (later ++ now) (moment_of (later ++ now) + ms) closing samples (deeds p (later ++ now)) (HasTurned p.config g w a) (turned-keeps p g w a (later ++ now) (moment_of (later ++ now) + ms) closing samples) (turned-later p g w a later now h)
turned-later p g w a (Pump entries ∷ later) now h = turned-later p g w a later now h

turn-stays : (p : Plan) (g w : ℕ) (a : Answered) (later now : List Step) → Contains (cadence (settings_at (group_at p.config g) w) (writer_deeds p g w now)) a → Contains (cadence (settings_at (group_at p.config g) w) (writer_deeds p g w (later ++ now))) a
unfolding HasTurned
turn-stays p g w a later now h = turned-later p g w a later now h

-- ---- later places have no older versions

span-of : (s : Settings) (deeds : List WriterDeed) (a : Answered) (place : ℕ) → Contains (cadence s deeds) a → is_data_at place a ≡ true → (s.first_number ≤ place) × (place < next_place s (cadence s deeds))
span-of s deeds a place has e =
    let f = has-data-at place a e in
    let span = place-span s.first_number (next_place s (cadence s deeds)) f.frame (answers-span s deeds f.frame (answer-in a f.frame (cadence s deeds) has f.answer)) in
    let at = f.at in
    (omega (arith, at, span.0), omega (arith, at, span.1))

version-below : (s : Settings) (deeds : List WriterDeed) (most : ℕ) (a : Answered) → Contains (cadence s deeds) a → All (λ earlier. earlier ≤ most) (turn_versions deeds) → a.turn.version ≤ most
version-below s [] most a has all = absurd (let below = has.1 in omega (arith, below))
version-below s (Refreshed ∷ before) most a has all = version-below s before most a has all
version-below s (HadTurn turn ∷ before) most a (zero, below, same) all =
    let le = All-head (λ earlier. earlier ≤ most) turn.version (turn_versions before) all in
    let at : turn.version ≡ a.turn.version = ap (λ (x : Answered). x.turn.version) same in omega (arith, le, at)
version-below s (HadTurn turn ∷ before) most a (suc k, below, same) all = version-below s before most a (k, omega (arith, below), same) (All-tail (λ earlier. earlier ≤ most) turn.version (turn_versions before) all)

pub older-below : (s : Settings) (deeds : List WriterDeed) (m n : ℕ) (a b : Answered) → NeverFall (turn_versions deeds) → Contains (cadence s deeds) a → is_data_at m a ≡ true → Contains (cadence s deeds) b → is_data_at n b ≡ true → m ≤ n
    → a.turn.version ≤ b.turn.version
older-below s [] m n a b never has e has_too f le = absurd (let below = has.1 in omega (arith, below))
older-below s (Refreshed ∷ before) m n a b never has e has_too f le = older-below s before m n a b never has e has_too f le
older-below s (HadTurn turn ∷ before) m n a b never (zero, below, same) e (zero, below_too, same_too) f le =
    let one : a.turn.version ≡ b.turn.version = sym (ap (λ (x : Answered). x.turn.version) same) ∙ ap (λ (x : Answered). x.turn.version) same_too in omega (arith, one)
older-below s (HadTurn turn ∷ before) m n a b never (zero, below, same) e (suc k, below_too, same_too) f le =
    let now = took turn (answer s (is_fresh before) (cadence s before) turn) in
    let here : is_data_at m now ≡ true = ap (is_data_at m) same ∙ e in
    let d = has-data-at m now here in
    let at = data-at (next_place s (cadence s before)) d.frame d.loud (next-is s before turn d.frame d.answer) in
    let is = d.at in
    let old = (span-of s before b n (k, omega (arith, below_too), same_too) f).1 in
    absurd (omega (arith, at, is, old, le))
older-below s (HadTurn turn ∷ before) m n a b never (suc j, below, same) e (zero, below_too, same_too) f le =
    let low = version-below s before turn.version a (j, omega (arith, below), same) never.0 in
    let at : turn.version ≡ b.turn.version = ap (λ (x : Answered). x.turn.version) same_too in omega (arith, low, at)
older-below s (HadTurn turn ∷ before) m n a b never (suc j, below, same) e (suc k, below_too, same_too) f le =
    older-below s before m n a b never.1 (j, omega (arith, below), same) e (k, omega (arith, below_too), same_too) f le

-- ---- a session's reader

abbrev pub ComesLaw : Type 0
ComesLaw = (p : Plan) (r i g w : ℕ) (steps : List Step) → InSession p r i g w steps → ComesFrom p r i g w steps

abbrev pub SentLaw : Type 0
SentLaw = (meta short : MetaData) (s : Settings) (deeds : List WriterDeed) (arrivals : List Arrival) (h : Held) → HasRowsOf meta deeds → All (IsAnswerCut short (cadence s deeds)) (since_cut arrivals) → held arrivals ≡ Some h
    → IsRowSent short (cadence s deeds) h

pub record Laws : Type 0 where
  pub comes : ComesLaw
  pub reads : ReadsLaw
  pub sent : SentLaw
  pub words : WordLaws
  pub ring : RingLaw
  pub turns : (p : Plan) (steps : List Step) → IsPlan p → AreSteps p steps → TurnsHold p steps
  pub few : (p : Plan) (steps : List Step) → AreSteps p steps → ticks_in steps ≤ most_ticks + 1

-- what is held at some moment: its place, and the turn that sent it, whose version the log has
pub record Holds (p : Plan) (r i g w : ℕ) (now : List Step) (version : ℕ) : Type 0 where
  pub at : Held
  pub is : held (arrivals_at p.config r i (first_number_of p.config g w) now) ≡ Some at
  pub turn : Answered
  pub has : Contains (cadence (settings_at (group_at p.config g) w) (writer_deeds p g w now)) turn
  pub place : is_data_at at.place turn ≡ true
  pub version_is : version ≡ turn.turn.version

record IsHeldBy (arrivals : List Arrival) (number : ℕ) : Type 0 where
  at : Held
  is : held arrivals ≡ Some at
  number_is : number ≡ number_of_place at.place

by-held : (arrivals : List Arrival) (o : Option Held) (number : Option ℕ) (n : ℕ) → held arrivals ≡ o → number ≡ option_map (λ (h : Held). number_of_place h.place) o → number ≡ Some n → IsHeldBy arrivals n
by-held arrivals None number n is e f = let wrong : Path (Option ℕ) None (Some n) = sym e ∙ f in absurd (cc)
by-held arrivals (Some h) number n is e f = let both : Some (number_of_place h.place) ≡ Some n = sym e ∙ f in record { at = h; is = is; number_is = cc }

kept-held : (word : NumberingWord) (arrivals : List Arrival) (kept : Kept) (n : ℕ) → word ≡ words.Message → KeepsBy (numbering_of word) arrivals kept → kept.number ≡ Some n → IsHeldBy arrivals n
kept-held words.Message arrivals kept n is keeps e = by-held arrivals (held arrivals) kept.number n refl keeps.over.number e
kept-held words.None arrivals kept n is keeps e = absurd (cc)

cut-by : (word : NumberingWord) (meta : MetaData) (answered : List Answered) (arrivals : List Arrival) → word ≡ words.Message → ItemsAre (IsAnswerBy word meta answered) arrivals → All (IsAnswerCut meta answered) (since_cut arrivals)
cut-by words.Message meta answered arrivals is items = items-since (IsAnswerCut meta answered) arrivals items
cut-by words.None meta answered arrivals is items = absurd (cc)

-- the number that is held names the version of the turn that sent it
pub record HoldsTurn (p : Plan) (r i g w : ℕ) (now : List Step) (number : ℕ) : Type 0 where
  pub at : Held
  pub is : held (arrivals_at p.config r i (first_number_of p.config g w) now) ≡ Some at
  pub turn : Answered
  pub has : Contains (cadence (settings_at (group_at p.config g) w) (writer_deeds p g w now)) turn
  pub place : is_data_at at.place turn ≡ true
  pub named : version_of (log_at p g w now) number ≡ Some turn.turn.version

pub holds-turn : Laws → (p : Plan) (r i g w : ℕ) (now : List Step) (number : ℕ) → InSession p r i g w now → (seat_at (setting_of p.config r).seats i).part.numbering ≡ words.Message → (reader_at p.config r i now).kept.number ≡ Some number
    → HoldsTurn p r i g w now number
holds-turn laws p r i g w now number is numbering number_is =
    let arrivals = arrivals_at p.config r i (first_number_of p.config g w) now in
    let s = settings_at (group_at p.config g) w in
    let past = writer_deeds p g w now in
    let word = (seat_at (setting_of p.config r).seats i).part.numbering in
    let kept = kept-held word arrivals (reader_at p.config r i now).kept number numbering (laws.reads p r i g w now is).keeps number_is in
    let life = (past-of most_ticks laws.words laws.ring p g now is.plan is.steps_are (laws.turns p now is.plan is.steps_are) is.rise).lives w is.matched.reads.within in
    let sent = laws.sent _ (meta_of p r i) s past arrivals kept.at life.rows (cut-by word (meta_of p r i) (cadence s past) arrivals numbering (laws.comes p r i g w now is)) kept.is in
    let span = span-of s past sent.turn kept.at.place sent.one_of sent.place in
    let few : next_place s (cadence s past) ≤ s.first_number + 65536 =
    (let most : ticks_in now ≤ 4097 = laws.few p now is.steps_are in let ticks = log-few p g w now in let count = length-log_of s past in omega (arith, most, ticks, count)) in
    let found = version-is s past kept.at.place span.0 span.1 few in
    let turn = turn-at s past sent.turn kept.at.place sent.one_of sent.place in
    record {
      at = kept.at;
      is = kept.is;
      turn = sent.turn;
      has = sent.one_of;
      place = sent.place;
      named = ap (version_of (log_at p g w now)) kept.number_is ∙ found ∙ ap (λ (t : WriterTurn). Some t.version) turn;
    }

pub holds-at : Laws → (p : Plan) (r i g w : ℕ) (now : List Step) (version : ℕ) → InSession p r i g w now → (seat_at (setting_of p.config r).seats i).part.numbering ≡ words.Message → HoldsVersionAt p r i g w now version → Holds p r i g w now version
holds-at laws p r i g w now version is numbering holds =
    let h = holds-turn laws p r i g w now holds.number is numbering holds.number_is in
    let same : Some version ≡ Some h.turn.turn.version = sym holds.named ∙ h.named in
    record { at = h.at; is = h.is; turn = h.turn; has = h.has; place = h.place; version_is = cc }

-- THE LAW
pub never-older-held : Laws → (p : Plan) (r i g w : ℕ) (later now : List Step) (one other : ℕ) → InSession p r i g w (later ++ now) → (seat_at (setting_of p.config r).seats i).part.numbering ≡ words.Message
    → IsUncutBetween p r i g w now (later ++ now) → HoldsVersionAt p r i g w now one → HoldsVersionAt p r i g w (later ++ now) other → one ≤ other
never-older-held laws p r i g w later now one other is numbering uncut old new =
    let before = holds-at laws p r i g w now one (session-behind p r i g w later now is) numbering old in
    let after = holds-at laws p r i g w (later ++ now) other is numbering new in
    let first = first_number_of p.config g w in
    let rise = places-rise (arrivals_at p.config r i first now) (arrivals_at p.config r i first (later ++ now)) before.at after.at uncut before.is after.is in
    let life = (past-of most_ticks laws.words laws.ring p g (later ++ now) is.plan is.steps_are (laws.turns p (later ++ now) is.plan is.steps_are) is.rise).lives w is.matched.reads.within in
    let le = older-below (settings_at (group_at p.config g) w) (writer_deeds p g w (later ++ now)) before.at.place after.at.place before.turn after.turn life.never (turn-stays p g w before.turn later now before.has) before.place after.has after.place rise in
    let a = before.version_is in let b = after.version_is in
    omega (arith, le, a, b)
