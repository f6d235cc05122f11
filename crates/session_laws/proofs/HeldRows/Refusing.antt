-- Datagrams that read groups refuse leave what they took, and the states.
use Rattle.std.proofs.Common.{◌≡◌, refl, sym, ap, ◌∙◌, arith, ℕ, ◌+◌, Bool, true, false, List, [], ◌∷◌, Result, Ok, Err}
use Rattle.std.specs.Prelude.{cond, filter, fold, is_ok, zip, ◌||◌}
use Rattle.dataset_meta.specs.Rows.{cons_if}
use Rattle.pubsub_model.specs.declared.reading.Why.TheVariants.{Restarted}
use Rattle.pubsub_states.specs.declared.component.Component.{Component}
use Rattle.pubsub_states.specs.declared.component.Component.TheVariants.{Root, Connection, Group, Writer, ReadGroup, Reader}
use Rattle.pubsub_states.specs.declared.flags.Flags.{Flags}
use Rattle.pubsub_states.specs.declared.state.State.{State}
use Rattle.pubsub_states.specs.declared.state.State.TheVariants.{Operational}
use Rattle.pubsub_states.specs.Changes.{Change, is_enabled}
use Rattle.pubsub_states.specs.Components.{counts_of, id_of, is_at_or_above, line}
use Rattle.pubsub_states.specs.States.{state_under}
use Rattle.reader_group.specs.declared.refusal.Refusal.{Refusal}
use Rattle.reader_group.specs.declared.refusal.Taken.{Taken}
use Rattle.reader_group.specs.Members.{MemberValue}
use Rattle.reader_group.specs.Opening.{Opened}
use Rattle.reader_group.specs.Plain as befalls
use Rattle.reader_group.specs.Plain.{Setting, Event, PlainGroup, plain, answer, answer_on, verdict_in}
use Rattle.reader_group.specs.Settings.{setting_of}
use Rattle.reader_group.specs.Traces.{trimmed, unless_refused}
use Rattle.session_model.specs.Answers.{answers, answers_at, counted, taken_by}
use Rattle.session_model.specs.Deeds.{Deed, component_at, deeds, is_spent}
use Rattle.session_model.specs.Events.{events, reader_indexes}
use Rattle.session_model.specs.Sends.{is_failing, last_failed, last_sends}
use Rattle.session_model.specs.States.{flags_at, has_fault, is_ready, state_at}
use Rattle.session_model.specs.Steps.{Plan, is_on}
use Rattle.session_laws.specs.Twins.{TwinStep, Enable, Disable, Append, Tick, Pump, firsts, seconds, AreTwins}
use Rattle.session_laws.proofs.HeldRows.Traces.{TraceLaw, same-deeds, same-reader, same-switches}

-- ---- what was taken

abbrev Answer : Type 0
Answer = Result Taken Refusal

kept-on : TraceLaw → (setting : Setting) (now : ℕ) (on : List Bool) (datagram : List ℕ) (before : List Event) (o : Result Opened Refusal) → verdict_in setting (plain setting before) datagram ≡ o
    → answers setting (trimmed setting before) ≡ filter is_ok (answers setting before)
    → answers setting (unless_refused o (befalls.Got now on datagram) (trimmed setting before)) ≡ filter is_ok (answer_on setting (plain setting before) now on o ∷ answers setting before)
kept-on law setting now on datagram before (Ok opened) e rest =
    ap (λ (group : PlainGroup). answer setting group now on datagram ∷ answers setting (trimmed setting before)) (law setting before)
    ∙ ap (λ (o : Result Opened Refusal). answer_on setting (plain setting before) now on o ∷ answers setting (trimmed setting before)) e
    ∙ ap (λ (l : List Answer). answer_on setting (plain setting before) now on (Ok opened) ∷ l) rest
kept-on law setting now on datagram before (Err refusal) e rest = rest

-- what is left out are the datagrams that were refused
taken-alone : TraceLaw → (setting : Setting) (events : List Event) → answers setting (trimmed setting events) ≡ filter is_ok (answers setting events)
taken-alone law setting [] = refl
taken-alone law setting (befalls.Got now on datagram ∷ before) = kept-on law setting now on datagram before (verdict_in setting (plain setting before) datagram) refl (taken-alone law setting before)
taken-alone law setting (befalls.Expired now ∷ before) = taken-alone law setting before
taken-alone law setting (befalls.Stopped reader why ∷ before) = taken-alone law setting before

stopped-answers : (setting : Setting) (component : Component) (r : ℕ) (readers : List ℕ) (before : List Event)
    → answers setting (fold (λ so_far i. cons_if (is_at_or_above component (Reader r i)) (befalls.Stopped i Restarted) so_far) before readers) ≡ answers setting before
stopped-answers setting component r [] before = refl
stopped-answers setting component r (i ∷ readers) before =
    stopped-answers setting component r readers (cons_if (is_at_or_above component (Reader r i)) (befalls.Stopped i Restarted) before) ∙ on (is_at_or_above component (Reader r i))
  where
    on : (b : Bool) → answers setting (cons_if b (befalls.Stopped i Restarted) before) ≡ answers setting before
    on true = refl
    on false = refl

-- the answers to the datagrams that were taken
pub same-answers : TraceLaw → (p : Plan) (twins : List TwinStep) → AreTwins p twins → (r : ℕ) → filter is_ok (answers_at p.config r (firsts twins)) ≡ filter is_ok (answers_at p.config r (seconds twins))
same-answers law p [] are r = refl
same-answers law p (Enable id ∷ before) are r = same-answers law p before are r
same-answers law p (Disable id ∷ before) are r =
    let setting = setting_of p.config r in
    let stopped : (l : List Event) → _ = stopped-answers setting (component_at p.config id) r (reader_indexes p.config r) in
    ap (filter is_ok) (stopped (events p.config r (firsts before))) ∙ same-answers law p before are r ∙ sym (ap (filter is_ok) (stopped (events p.config r (seconds before))))
same-answers law p (Append set field ∷ before) are r = same-answers law p before are r
same-answers law p (Tick ms closing samples done ∷ before) are r = same-answers law p before are r
same-answers law p (Pump entries others ∷ before) are r =
    let setting = setting_of p.config r in
    sym (taken-alone law setting (events p.config r (firsts (Pump entries others ∷ before)))) ∙ ap (answers setting) (are.0 r) ∙ taken-alone law setting (events p.config r (seconds (Pump entries others ∷ before)))

abbrev count_on : ℕ → List Answer → ℕ
count_on from list = fold (λ a x. a + cond (is_ok x) 1 0) from list

counts-taken : (from : ℕ) (list : List Answer) → count_on from list ≡ count_on from (filter is_ok list)
counts-taken from [] = refl
counts-taken from (Ok taken ∷ list) = counts-taken (from + 1) list
counts-taken from (Err refusal ∷ list) = let none : from + 0 ≡ from = omega arith in ap (λ (n : ℕ). count_on n list) none ∙ counts-taken from list

pub same-taken : TraceLaw → (p : Plan) (twins : List TwinStep) → AreTwins p twins → (r : ℕ) → taken_by (answers_at p.config r (firsts twins)) ≡ taken_by (answers_at p.config r (seconds twins))
same-taken law p twins are r =
    ap counted (counts-taken 0 (answers_at p.config r (firsts twins)) ∙ ap (count_on 0) (same-answers law p twins are r) ∙ sym (counts-taken 0 (answers_at p.config r (seconds twins))))

-- ---- the states

same-failing : (p : Plan) (g : ℕ) (twins : List TwinStep) → is_failing p g (firsts twins) ≡ is_failing p g (seconds twins)
same-failing p g [] = refl
same-failing p g (Enable id ∷ before) = same-failing p g before
same-failing p g (Disable id ∷ before) = same-failing p g before
same-failing p g (Append set field ∷ before) = same-failing p g before
same-failing p g (Tick ms closing samples done ∷ before) = ap (λ (d : List Deed). last_failed g (zip (last_sends d) done)) (same-deeds p (Tick ms closing samples done ∷ before))
same-failing p g (Pump entries others ∷ before) = same-failing p g before

same-fault : TraceLaw → (p : Plan) (twins : List TwinStep) → AreTwins p twins → (component : Component) → has_fault p (firsts twins) component ≡ has_fault p (seconds twins) component
same-fault law p twins are Root = refl
same-fault law p twins are Connection = refl
same-fault law p twins are (Group g) =
    ap (λ (b : Bool). b || is_spent p.config g (deeds p (firsts twins))) (same-failing p g twins) ∙ ap (λ (d : List Deed). is_failing p g (seconds twins) || is_spent p.config g d) (same-deeds p twins)
same-fault law p twins are (Writer g w) = refl
same-fault law p twins are (ReadGroup r) = refl
same-fault law p twins are (Reader r i) = ap (λ (m : MemberValue). m.late) (same-reader law p twins are r i)

same-ready : TraceLaw → (p : Plan) (twins : List TwinStep) → AreTwins p twins → (component : Component) → is_ready p (firsts twins) component ≡ is_ready p (seconds twins) component
same-ready law p twins are Root = refl
same-ready law p twins are Connection = refl
same-ready law p twins are (Group g) = refl
same-ready law p twins are (Writer g w) = refl
same-ready law p twins are (ReadGroup r) = refl
same-ready law p twins are (Reader r i) = ap (λ (m : MemberValue). m.ready) (same-reader law p twins are r i)

same-flags : TraceLaw → (p : Plan) (twins : List TwinStep) → AreTwins p twins → (component : Component) → flags_at p (firsts twins) component ≡ flags_at p (seconds twins) component
same-flags law p twins are component =
    let flags : Bool → Bool → Bool → Flags = λ enabled fault ready. record { enabled = enabled; fault = fault; ready = ready } in
    ap (λ (l : List Change). flags (is_enabled l (id_of (counts_of p.config) component)) (has_fault p (firsts twins) component) (is_ready p (firsts twins) component)) (same-switches twins)
    ∙ ap (λ (b : Bool). flags (is_on p.config (seconds twins) component) b (is_ready p (firsts twins) component)) (same-fault law p twins are component)
    ∙ ap (λ (b : Bool). flags (is_on p.config (seconds twins) component) (has_fault p (seconds twins) component) b) (same-ready law p twins are component)

states-by : (F G : Component → Flags) → ((component : Component) → F component ≡ G component) → (list : List Component) (above : State)
    → fold (λ above lower. state_under above (F lower)) above list ≡ fold (λ above lower. state_under above (G lower)) above list
states-by F G same [] above = refl
states-by F G same (lower ∷ list) above =
    ap (λ (f : Flags). fold (λ above lower. state_under above (F lower)) (state_under above f) list) (same lower) ∙ states-by F G same list (state_under above (G lower))

pub same-states : TraceLaw → (p : Plan) (twins : List TwinStep) → AreTwins p twins → (component : Component) → state_at p (firsts twins) component ≡ state_at p (seconds twins) component
same-states law p twins are component = states-by (flags_at p (firsts twins)) (flags_at p (seconds twins)) (same-flags law p twins are) (line component) Operational
