-- What a step brings a read group is what it adds to what befell the group before; and the flags of an account.
use Rattle.std.proofs.Common.{◌≡◌, refl, sym, ap, ◌∙◌, ℕ, Bool, true, false, List, [], ◌∷◌, ◌++◌}
use Rattle.std.specs.Prelude.{fold, Result, if◌then◌else◌}
use Rattle.dataset_meta.specs.Rows.{cons_if}
use Rattle.pubsub_model.specs.declared.reading.Why.TheVariants.{Restarted}
use Rattle.ua_base.specs.Journal.{Entry, Sent, SendFailed, Got, Empty, Long, ReceiveFailed}
use Rattle.ps_config.specs.declared.parts.Config.{Config}
use Rattle.pubsub_states.specs.declared.component.Component.{Component}
use Rattle.pubsub_states.specs.declared.component.Component.TheVariants.{Root, Connection, Group, Writer, ReadGroup, Reader}
use Rattle.pubsub_states.specs.Components.{is_at_or_above}
use Rattle.reader_group.specs.declared.refusal.Refusal.{Refusal}
use Rattle.reader_group.specs.declared.refusal.Taken.{Taken}
use Rattle.reader_group.specs.Plain as befalls
use Rattle.reader_group.specs.Plain.{Event, Expired, PlainGroup, Setting, Stopped, answer, plain, step}
use Rattle.reader_group.specs.Settings.{setting_of}
use Rattle.session_model.specs.Steps.{Plan, Step, Disable, Pump, is_on, moment_of}
use Rattle.session_model.specs.Deeds.{component_at}
use Rattle.session_model.specs.Events.{events, got_all, got_on, reader_indexes, readers_on, receives, stopped_below}
use Rattle.session_model.specs.Answers.{answers}
use Rattle.session_model.specs.Lives.{Account, account_of, flags_by, late_in, ready_in, stepped}
use Rattle.session_model.specs.States.{flags_at}
use Rattle.session_model.specs.Readings.{Reading, answered_on, goes_on, read_on, reading_at}

-- ---- the reading goes on

read-behind : (setting : Setting) (es xs : List Event) → read_on setting (plain setting es) xs ≡ plain setting (xs ++ es)
read-behind setting es [] = refl
read-behind setting es (x ∷ xs) = ap (λ (v : PlainGroup). step setting v x) (read-behind setting es xs)

answered-behind : (setting : Setting) (reading : Reading) (es xs : List Event) → reading.value ≡ plain setting es → reading.answered ≡ answers setting es
    → answered_on setting reading xs ≡ answers setting (xs ++ es)
answered-behind setting reading es [] value answered = answered
answered-behind setting reading es (befalls.Got moment on datagram ∷ xs) value answered =
    ap (λ (v : PlainGroup). answer setting v moment on datagram ∷ answered_on setting reading xs) (ap (λ (v : PlainGroup). read_on setting v xs) value ∙ read-behind setting es xs)
    ∙ ap (λ (l : List (Result Taken Refusal)). answer setting (plain setting (xs ++ es)) moment on datagram ∷ l) (answered-behind setting reading es xs value answered)
answered-behind setting reading es (Expired moment ∷ xs) value answered = answered-behind setting reading es xs value answered
answered-behind setting reading es (Stopped reader why ∷ xs) value answered = answered-behind setting reading es xs value answered

reading-behind : (config : Config) (before behind : List Step) (r : ℕ) (xs : List Event) → events config r behind ≡ xs ++ events config r before
    → goes_on config r (reading_at config before r) xs ≡ reading_at config behind r
reading-behind config before behind r xs same = λ i. record { keys = (setting_of config r).setup.keys; value = value i; answered = answered i }
  where
    setting : Setting
    setting = setting_of config r

    value : read_on setting (plain setting (events config r before)) xs ≡ plain setting (events config r behind)
    value = read-behind setting (events config r before) xs ∙ ap (λ (l : List Event). plain setting l) (sym same)

    answered : answered_on setting (reading_at config before r) xs ≡ answers setting (events config r behind)
    answered = answered-behind setting (reading_at config before r) (events config r before) xs refl refl ∙ ap (λ (l : List Event). answers setting l) (sym same)

-- ---- cuts

cut-behind : (is_cut : Bool) (event : Event) (ys es : List Event) → cons_if is_cut event (ys ++ es) ≡ cons_if is_cut event ys ++ es
cut-behind true event ys es = refl
cut-behind false event ys es = refl

cuts-behind : (r : ℕ) (component : Component) (readers : List ℕ) (ys es : List Event)
    → fold (λ so_far i. cons_if (is_at_or_above component (Reader r i)) (Stopped i Restarted) so_far) (ys ++ es) readers
    ≡ fold (λ so_far i. cons_if (is_at_or_above component (Reader r i)) (Stopped i Restarted) so_far) ys readers ++ es
cuts-behind r component [] ys es = refl
cuts-behind r component (i ∷ readers) ys es =
    ap (λ (l : List Event). fold (λ so_far i. cons_if (is_at_or_above component (Reader r i)) (Stopped i Restarted) so_far) l readers)
    (cut-behind (is_at_or_above component (Reader r i)) (Stopped i Restarted) ys es)
    ∙ cuts-behind r component readers (cons_if (is_at_or_above component (Reader r i)) (Stopped i Restarted) ys) es

pub reading-disabled : (config : Config) (before : List Step) (id r : ℕ)
    → goes_on config r (reading_at config before r) (stopped_below config r (component_at config id) []) ≡ reading_at config (Disable id ∷ before) r
reading-disabled config before id r =
    reading-behind config before (Disable id ∷ before) r (stopped_below config r (component_at config id) [])
    (cuts-behind r (component_at config id) (reader_indexes config r) [] (events config r before))

-- ---- receives

one-behind : (moment : ℕ) (on : List Bool) (ys es : List Event) (entry : Entry) → got_on moment on (ys ++ es) entry ≡ got_on moment on ys entry ++ es
one-behind moment on ys es (Sent datagram) = refl
one-behind moment on ys es SendFailed = refl
one-behind moment on ys es (Got datagram) = refl
one-behind moment on ys es Empty = refl
one-behind moment on ys es (Long len) = refl
one-behind moment on ys es ReceiveFailed = refl

all-behind : (moment : ℕ) (on : List Bool) (entries : List Entry) (ys es : List Event) → fold (got_on moment on) (ys ++ es) entries ≡ fold (got_on moment on) ys entries ++ es
all-behind moment on [] ys es = refl
all-behind moment on (entry ∷ entries) ys es =
    ap (λ (l : List Event). fold (got_on moment on) l entries) (one-behind moment on ys es entry) ∙ all-behind moment on entries (got_on moment on ys entry) es

got-if : (is_receiving : Bool) (moment : ℕ) (on : List Bool) (entries : List Entry) (es : List Event)
    → (if is_receiving then fold (got_on moment on) es entries else es) ≡ (if is_receiving then fold (got_on moment on) [] entries else []) ++ es
got-if true moment on entries es = all-behind moment on entries [] es
got-if false moment on entries es = refl

pub reading-pumped : (config : Config) (before : List Step) (entries : List Entry) (r : ℕ)
    → goes_on config r (reading_at config before r) (got_all config before r entries []) ≡ reading_at config (Pump entries ∷ before) r
reading-pumped config before entries r =
    reading-behind config before (Pump entries ∷ before) r (got_all config before r entries [])
    (got-if (receives config before r) (moment_of before) (readers_on config before r) entries (events config r before))

-- ---- flags

pub flags-as : (p : Plan) (steps : List Step) (c : Component) → flags_at p steps c ≡ flags_by p.config steps (account_of p steps) c
flags-as p steps Root = refl
flags-as p steps Connection = refl
flags-as p steps (Group g) = refl
flags-as p steps (Writer g w) = refl
flags-as p steps (ReadGroup r) = refl
flags-as p steps (Reader r i) = refl

-- accounts that differ in readings and stores by their form alone have the same flags
pub same-flags : (config : Config) (steps : List Step) (a b : Account) → b ≡ record a { readings = b.readings; stores = b.stores } → ((r : ℕ) → a.readings r ≡ b.readings r)
    → (c : Component) → flags_by config steps a c ≡ flags_by config steps b c
same-flags config steps a b rest same Root = refl
same-flags config steps a b rest same Connection = refl
same-flags config steps a b rest same (Group g) = ap (λ (x : Account). flags_by config steps x (Group g)) (sym rest)
same-flags config steps a b rest same (Writer g w) = refl
same-flags config steps a b rest same (ReadGroup r) = refl
same-flags config steps a b rest same (Reader r i) =
    ap (λ (x : Reading). record { enabled = is_on config steps (Reader r i); fault = late_in (λ _. x) r i; ready = ready_in (λ _. x) r i }) (same r)

-- behind a pump
pub flags-pumped-as : (p : Plan) (before : List Step) (entries : List Entry) (c : Component)
    → flags_by p.config (Pump entries ∷ before) (stepped p before (account_of p before) (Pump entries)) c ≡ flags_at p (Pump entries ∷ before) c
flags-pumped-as p before entries c =
    same-flags p.config (Pump entries ∷ before) (stepped p before (account_of p before) (Pump entries)) (account_of p (Pump entries ∷ before)) refl (λ r. reading-pumped p.config before entries r) c
    ∙ sym (flags-as p (Pump entries ∷ before) c)
