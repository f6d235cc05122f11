-- Datagrams that read groups refuse leave no trace in a session.
use Rattle.reader_group.specs.Opening.{Opened}
use Rattle.reader_group.specs.declared.refusal.Refusal.{Refusal}
use Rattle.ua_base.specs.Journal.{Entry, Sent, SendFailed, Got, Empty, Long, ReceiveFailed}
use Rattle.std.proofs.Common.{◌≡◌, refl, sym, ap, ◌∙◌, ℕ, ◌+◌, Bool, true, false, List, [], ◌∷◌, map, inl, inr, Result, Ok, Err}
use Rattle.std.specs.Prelude.{fold, slice_get, ◌&&◌, ◌||◌, IsErr, if◌then◌else◌}
use Rattle.dataset_meta.specs.Metas.{MetaData}
use Rattle.dataset_meta.specs.Rows.{cons_if}
use Rattle.pubsub_model.specs.declared.reading.Why.TheVariants.{Restarted}
use Rattle.ps_config.specs.declared.parts.Config.{Config}
use Rattle.ps_script.specs.Past.{grown_at}
use Rattle.pubsub_states.specs.declared.component.Component.{Component}
use Rattle.pubsub_states.specs.declared.component.Component.TheVariants.{Group, Writer, Reader, ReadGroup}
use Rattle.pubsub_states.specs.Changes.{Change, Enable as SwitchedOn, Disable as SwitchedOff, is_enabled}
use Rattle.pubsub_states.specs.declared.flags.Flags.{Flags}
use Rattle.pubsub_states.specs.Components.{is_at_or_above, counts_of, id_of}
use Rattle.pubsub_states.specs.States.{is_operational, state_of}
use Rattle.writer_group.specs.declared.sampled.Sampled.{Sampled}
use Rattle.writer_group.specs.Turns.{GroupTurn, is_due, told_of, turned}
use Rattle.reader_group.specs.Plain as befalls
use Rattle.reader_group.specs.Plain.{Setting, Event, PlainGroup, plain, step, member_at, verdict_in}
use Rattle.reader_group.specs.Members.{MemberValue, seat_at}
use Rattle.reader_group.specs.Settings.{setting_of}
use Rattle.reader_group.specs.Traces.{trimmed, unless_refused}
use Rattle.session_model.specs.Steps.{Plan, moment_of, switches_in}
use Rattle.session_model.specs.Sets.{metas_at, rows_cut}
use Rattle.session_model.specs.Deeds.{Deed, RefreshedBelow, RefreshedSet, TookTurn, component_at, deeds, group_past, group_indexes, writer_indexes, is_spent_at, turn_flags, works, has_turn, turn_of, turned_on, sender_of, rekeyed, tick_deeds}
use Rattle.writer_group.specs.Parts.{group_at}
use Rattle.session_model.specs.Events.{events, reader_at, plain_at, reader_indexes, got_on, receives, readers_on}
use Rattle.session_model.specs.Stores.{Store, stored_on, held_by, stores}
use Rattle.session_laws.specs.Twins.{TwinStep, Enable, Disable, Append, Tick, Pump, firsts, seconds, AreTwins, AddsRefused, AddRefused}

-- the law of read groups
abbrev pub TraceLaw : Type 0
TraceLaw = (setting : Setting) (events : List Event) → plain setting (trimmed setting events) ≡ plain setting events

-- ---- moments, switches and data sets

pub same-moment : (twins : List TwinStep) → moment_of (firsts twins) ≡ moment_of (seconds twins)
same-moment [] = refl
same-moment (Enable id ∷ before) = same-moment before
same-moment (Disable id ∷ before) = same-moment before
same-moment (Append set field ∷ before) = same-moment before
same-moment (Tick ms closing samples done ∷ before) = ap (λ (n : ℕ). n + ms) (same-moment before)
same-moment (Pump entries others ∷ before) = same-moment before

pub same-switches : (twins : List TwinStep) → switches_in (firsts twins) ≡ switches_in (seconds twins)
same-switches [] = refl
same-switches (Enable id ∷ before) = ap (λ (l : List Change). SwitchedOn id ∷ l) (same-switches before)
same-switches (Disable id ∷ before) = ap (λ (l : List Change). SwitchedOff id ∷ l) (same-switches before)
same-switches (Append set field ∷ before) = same-switches before
same-switches (Tick ms closing samples done ∷ before) = same-switches before
same-switches (Pump entries others ∷ before) = same-switches before

pub same-metas : (config : Config) (twins : List TwinStep) → metas_at config (firsts twins) ≡ metas_at config (seconds twins)
same-metas config [] = refl
same-metas config (Enable id ∷ before) = same-metas config before
same-metas config (Disable id ∷ before) = same-metas config before
same-metas config (Append set field ∷ before) = ap (λ (metas : List MetaData). grown_at metas set field (slice_get metas set)) (same-metas config before)
same-metas config (Tick ms closing samples done ∷ before) = same-metas config before
same-metas config (Pump entries others ∷ before) = same-metas config before

-- ---- read groups

stopped-same : (setting : Setting) (component : Component) (r : ℕ) (readers : List ℕ) (one other : List Event) → plain setting one ≡ plain setting other
    → plain setting (fold (λ so_far i. cons_if (is_at_or_above component (Reader r i)) (befalls.Stopped i Restarted) so_far) one readers)
    ≡ plain setting (fold (λ so_far i. cons_if (is_at_or_above component (Reader r i)) (befalls.Stopped i Restarted) so_far) other readers)
stopped-same setting component r [] one other e = e
stopped-same setting component r (i ∷ readers) one other e =
    stopped-same setting component r readers (cons_if (is_at_or_above component (Reader r i)) (befalls.Stopped i Restarted) one) (cons_if (is_at_or_above component (Reader r i)) (befalls.Stopped i Restarted) other)
    (on (is_at_or_above component (Reader r i)))
  where
    on : (b : Bool) → plain setting (cons_if b (befalls.Stopped i Restarted) one) ≡ plain setting (cons_if b (befalls.Stopped i Restarted) other)
    on true = ap (λ (group : PlainGroup). step setting group (befalls.Stopped i Restarted)) e
    on false = e

pub same-groups : TraceLaw → (p : Plan) (twins : List TwinStep) → AreTwins p twins → (r : ℕ) → plain_at p.config r (firsts twins) ≡ plain_at p.config r (seconds twins)
same-groups law p [] are r = refl
same-groups law p (Enable id ∷ before) are r = same-groups law p before are r
same-groups law p (Disable id ∷ before) are r =
    stopped-same (setting_of p.config r) (component_at p.config id) r (reader_indexes p.config r) (events p.config r (firsts before)) (events p.config r (seconds before)) (same-groups law p before are r)
same-groups law p (Append set field ∷ before) are r = same-groups law p before are r
same-groups law p (Tick ms closing samples done ∷ before) are r =
    let setting = setting_of p.config r in
    ap (λ (group : PlainGroup). step setting group (befalls.Expired (moment_of (firsts before) + ms))) (same-groups law p before are r)
    ∙ ap (λ (now : ℕ). step setting (plain_at p.config r (seconds before)) (befalls.Expired (now + ms))) (same-moment before)
same-groups law p (Pump entries others ∷ before) are r =
    let setting = setting_of p.config r in
    sym (law setting (events p.config r (firsts (Pump entries others ∷ before)))) ∙ ap (plain setting) (are.0 r) ∙ law setting (events p.config r (seconds (Pump entries others ∷ before)))

pub same-reader : TraceLaw → (p : Plan) (twins : List TwinStep) → AreTwins p twins → (r i : ℕ) → reader_at p.config r i (firsts twins) ≡ reader_at p.config r i (seconds twins)
same-reader law p twins are r i = ap (λ (group : PlainGroup). member_at group.members i) (same-groups law p twins are r)

-- and the stores after each pump
pub same-stores : TraceLaw → (p : Plan) (twins : List TwinStep) → AreTwins p twins → (r i : ℕ) → stores p.config r i (firsts twins) ≡ stores p.config r i (seconds twins)
same-stores law p [] are r i = refl
same-stores law p (Enable id ∷ before) are r i = same-stores law p before are r i
same-stores law p (Disable id ∷ before) are r i = same-stores law p before are r i
same-stores law p (Append set field ∷ before) are r i = same-stores law p before are r i
same-stores law p (Tick ms closing samples done ∷ before) are r i = same-stores law p before are r i
same-stores law p (Pump entries others ∷ before) are r i =
    let word = (seat_at (setting_of p.config r).seats i).part.numbering in
    ap (λ (l : List Store). stored_on word l (held_by (reader_at p.config r i (firsts (Pump entries others ∷ before))))) (same-stores law p before are.1 r i)
    ∙ ap (λ (m : MemberValue). stored_on word (stores p.config r i (seconds before)) (held_by m)) (same-reader law p (Pump entries others ∷ before) are r i)

-- ---- the publisher

flags-same : (config : Config) (deeds : List Deed) (twins : List TwinStep) → turn_flags config (firsts twins) deeds ≡ turn_flags config (seconds twins) deeds
flags-same config deeds twins =
    ap (λ (l : List Change). λ (component : Component). record { enabled = is_enabled l (id_of (counts_of config) component); fault = is_spent_at config deeds component; ready = true }) (same-switches twins)

works-same : (config : Config) (deeds : List Deed) (twins : List TwinStep) → works config (firsts twins) deeds ≡ works config (seconds twins) deeds
works-same config deeds twins = ap (λ (f : Component → Flags). λ (component : Component). is_operational (state_of f component)) (flags-same config deeds twins)

has-same : (p : Plan) (now : ℕ) (closing : Bool) (deeds : List Deed) (g : ℕ) (twins : List TwinStep) → has_turn p (firsts twins) now closing deeds g ≡ has_turn p (seconds twins) now closing deeds g
has-same p now closing deeds g twins = ap (λ (f : Component → Bool). f (Group g) && (closing || is_due (group_at p.config g) (group_past p.config g deeds) now)) (works-same p.config deeds twins)

turn-same : (p : Plan) (now : ℕ) (closing : Bool) (samples : List Sampled) (deeds : List Deed) (g : ℕ) (twins : List TwinStep) → turn_of p (firsts twins) now closing samples deeds g ≡ turn_of p (seconds twins) now closing samples deeds g
turn-same p now closing samples deeds g twins =
    let group = group_at p.config g in
    let past = group_past p.config g deeds in
    let turn_by : List MetaData → (Component → Bool) → GroupTurn = λ metas f. turned p.config group past (record {
      told = told_of now closing metas (rows_cut metas p.full samples);
      on = map (λ w. f (Writer g w)) (writer_indexes group);
      sender = sender_of p.config g deeds;
    }) in
    ap (λ (metas : List MetaData). turn_by metas (works p.config (firsts twins) deeds)) (same-metas p.config twins) ∙ ap (turn_by (metas_at p.config (seconds twins))) (works-same p.config deeds twins)

turned-same : (p : Plan) (now : ℕ) (closing : Bool) (samples : List Sampled) (twins : List TwinStep) (gs : List ℕ) (deeds : List Deed)
    → fold (turned_on p (firsts twins) now closing samples) deeds gs ≡ fold (turned_on p (seconds twins) now closing samples) deeds gs
turned-same p now closing samples twins [] deeds = refl
turned-same p now closing samples twins (g ∷ gs) deeds =
    let one : turned_on p (firsts twins) now closing samples deeds g ≡ turned_on p (seconds twins) now closing samples deeds g =
    ap (λ (b : Bool). cons_if b (TookTurn g (turn_of p (firsts twins) now closing samples deeds g)) deeds) (has-same p now closing deeds g twins)
    ∙ ap (λ (t : GroupTurn). cons_if (has_turn p (seconds twins) now closing deeds g) (TookTurn g t) deeds) (turn-same p now closing samples deeds g twins) in
    turned-same p now closing samples twins gs (turned_on p (firsts twins) now closing samples deeds g)
    ∙ ap (λ (d : List Deed). fold (turned_on p (seconds twins) now closing samples) d gs) one

-- the groups do the same
pub same-deeds : (p : Plan) (twins : List TwinStep) → deeds p (firsts twins) ≡ deeds p (seconds twins)
same-deeds p [] = refl
same-deeds p (Enable id ∷ before) = ap (λ (d : List Deed). RefreshedBelow (component_at p.config id) ∷ d) (same-deeds p before)
same-deeds p (Disable id ∷ before) = same-deeds p before
same-deeds p (Append set field ∷ before) = ap (λ (d : List Deed). RefreshedSet set ∷ d) (same-deeds p before)
same-deeds p (Tick ms closing samples done ∷ before) =
    ap (λ (n : ℕ). tick_deeds p (firsts before) (n + ms) closing samples (deeds p (firsts before))) (same-moment before)
    ∙ ap (λ (d : List Deed). tick_deeds p (firsts before) (moment_of (seconds before) + ms) closing samples d) (same-deeds p before)
    ∙ turned-same p (moment_of (seconds before) + ms) closing samples before (group_indexes p.config) (rekeyed p.config (moment_of (seconds before) + ms) (deeds p (seconds before)))
same-deeds p (Pump entries others ∷ before) = same-deeds p before

-- ---- further datagrams that are refused

plain-same : TraceLaw → (setting : Setting) (one other : List Event) → trimmed setting one ≡ trimmed setting other → plain setting one ≡ plain setting other
plain-same law setting one other e = sym (law setting one) ∙ ap (plain setting) e ∙ law setting other

err-drops : (answer : Result Opened Refusal) (event : Event) (before : List Event) → IsErr answer → unless_refused answer event before ≡ before
err-drops (Ok opened) event before e = absurd (let wrong : false ≡ true = e in cc)
err-drops (Err refusal) event before e = refl

got-same : TraceLaw → (setting : Setting) (now : ℕ) (on : List Bool) (entry : Entry) (one other : List Event) → trimmed setting one ≡ trimmed setting other
    → trimmed setting (got_on now on one entry) ≡ trimmed setting (got_on now on other entry)
got-same law setting now on (Sent datagram) one other e = e
got-same law setting now on SendFailed one other e = e
got-same law setting now on (Got datagram) one other e =
    ap (λ (group : PlainGroup). unless_refused (verdict_in setting group datagram) (befalls.Got now on datagram) (trimmed setting one)) (plain-same law setting one other e)
    ∙ ap (unless_refused (verdict_in setting (plain setting other) datagram) (befalls.Got now on datagram)) e
got-same law setting now on Empty one other e = e
got-same law setting now on (Long len) one other e = e
got-same law setting now on ReceiveFailed one other e = e

adds-trimmed : TraceLaw → (setting : Setting) (now : ℕ) (on : List Bool) (others entries : List Entry) (one other : List Event) → trimmed setting one ≡ trimmed setting other → AddsRefused setting now on other entries others
    → trimmed setting (fold (got_on now on) one entries) ≡ trimmed setting (fold (got_on now on) other others)
adds-trimmed law setting now on [] entries one other e adds = ap (λ (l : List Entry). trimmed setting (fold (got_on now on) one l)) adds ∙ e
adds-trimmed law setting now on (x ∷ others) entries one other e (inl h) =
    ap (λ (l : List Entry). trimmed setting (fold (got_on now on) one l)) h.1
    ∙ adds-trimmed law setting now on others h.0 (got_on now on one x) (got_on now on other x) (got-same law setting now on x one other e) h.2
adds-trimmed law setting now on (x ∷ others) entries one other e (inr h) =
    let drops : trimmed setting (befalls.Got now on h.0 ∷ other) ≡ trimmed setting other = err-drops (verdict_in setting (plain setting other) h.0) (befalls.Got now on h.0) (trimmed setting other) h.2 in
    adds-trimmed law setting now on others entries one (befalls.Got now on h.0 ∷ other) (e ∙ sym drops) h.3
    ∙ sym (ap (λ (y : Entry). trimmed setting (fold (got_on now on) (got_on now on other y) others)) h.1)

stopped-trimmed : (setting : Setting) (component : Component) (r : ℕ) (readers : List ℕ) (one other : List Event) → trimmed setting one ≡ trimmed setting other
    → trimmed setting (fold (λ so_far i. cons_if (is_at_or_above component (Reader r i)) (befalls.Stopped i Restarted) so_far) one readers)
    ≡ trimmed setting (fold (λ so_far i. cons_if (is_at_or_above component (Reader r i)) (befalls.Stopped i Restarted) so_far) other readers)
stopped-trimmed setting component r [] one other e = e
stopped-trimmed setting component r (i ∷ readers) one other e =
    stopped-trimmed setting component r readers (cons_if (is_at_or_above component (Reader r i)) (befalls.Stopped i Restarted) one) (cons_if (is_at_or_above component (Reader r i)) (befalls.Stopped i Restarted) other)
    (on (is_at_or_above component (Reader r i)))
  where
    on : (b : Bool) → trimmed setting (cons_if b (befalls.Stopped i Restarted) one) ≡ trimmed setting (cons_if b (befalls.Stopped i Restarted) other)
    on true = ap (λ (l : List Event). befalls.Stopped i Restarted ∷ l) e
    on false = e

-- a read group that isn't Operational gets nothing
got-all-trimmed : TraceLaw → (setting : Setting) (b : Bool) (now : ℕ) (on : List Bool) (entries others : List Entry) (one other : List Event) → trimmed setting one ≡ trimmed setting other
    → (b ≡ true → AddsRefused setting now on other entries others)
    → trimmed setting (if b then fold (got_on now on) one entries else one) ≡ trimmed setting (if b then fold (got_on now on) other others else other)
got-all-trimmed law setting true now on entries others one other e adds = adds-trimmed law setting now on others entries one other e (adds refl)
got-all-trimmed law setting false now on entries others one other e adds = e

receives-same : (config : Config) (r : ℕ) (twins : List TwinStep) → receives config (firsts twins) r ≡ receives config (seconds twins) r
receives-same config r twins =
    ap (λ (l : List Change). is_operational (state_of (λ component. record { enabled = is_enabled l (id_of (counts_of config) component); fault = false; ready = true }) (ReadGroup r))) (same-switches twins)

readers-same : (config : Config) (r : ℕ) (twins : List TwinStep) → readers_on config (firsts twins) r ≡ readers_on config (seconds twins) r
readers-same config r twins = ap (λ (l : List Change). map (λ i. is_enabled l (id_of (counts_of config) (Reader r i))) (reader_indexes config r)) (same-switches twins)

same-trimmed : TraceLaw → (p : Plan) (twins : List TwinStep) → AddRefused p twins → (r : ℕ) → trimmed (setting_of p.config r) (events p.config r (firsts twins)) ≡ trimmed (setting_of p.config r) (events p.config r (seconds twins))
same-trimmed law p [] adds r = refl
same-trimmed law p (Enable id ∷ before) adds r = same-trimmed law p before adds r
same-trimmed law p (Disable id ∷ before) adds r =
    stopped-trimmed (setting_of p.config r) (component_at p.config id) r (reader_indexes p.config r) (events p.config r (firsts before)) (events p.config r (seconds before)) (same-trimmed law p before adds r)
same-trimmed law p (Append set field ∷ before) adds r = same-trimmed law p before adds r
same-trimmed law p (Tick ms closing samples done ∷ before) adds r =
    ap (λ (l : List Event). befalls.Expired (moment_of (firsts before) + ms) ∷ l) (same-trimmed law p before adds r)
    ∙ ap (λ (now : ℕ). befalls.Expired (now + ms) ∷ trimmed (setting_of p.config r) (events p.config r (seconds before))) (same-moment before)
same-trimmed law p (Pump entries others ∷ before) adds r =
    let setting = setting_of p.config r in
    let one = events p.config r (firsts before) in
    let other = events p.config r (seconds before) in
    let all : Bool → ℕ → List Bool → List Event = λ b now on. (if b then fold (got_on now on) one entries else one) in
    ap (λ (b : Bool). trimmed setting (all b (moment_of (firsts before)) (readers_on p.config (firsts before) r))) (receives-same p.config r before)
    ∙ ap (λ (now : ℕ). trimmed setting (all (receives p.config (seconds before) r) now (readers_on p.config (firsts before) r))) (same-moment before)
    ∙ ap (λ (on : List Bool). trimmed setting (all (receives p.config (seconds before) r) (moment_of (seconds before)) on)) (readers-same p.config r before)
    ∙ got-all-trimmed law setting (receives p.config (seconds before) r) (moment_of (seconds before)) (readers_on p.config (seconds before) r) entries others one other (same-trimmed law p before adds.1 r) (adds.0 r)

-- so such courses are twins
pub are-twins : TraceLaw → (p : Plan) (twins : List TwinStep) → AddRefused p twins → AreTwins p twins
are-twins law p [] adds = tt
are-twins law p (Enable id ∷ before) adds = are-twins law p before adds
are-twins law p (Disable id ∷ before) adds = are-twins law p before adds
are-twins law p (Append set field ∷ before) adds = are-twins law p before adds
are-twins law p (Tick ms closing samples done ∷ before) adds = are-twins law p before adds
are-twins law p (Pump entries others ∷ before) adds = (same-trimmed law p (Pump entries others ∷ before) adds, are-twins law p before adds.1)
