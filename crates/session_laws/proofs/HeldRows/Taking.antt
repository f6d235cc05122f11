-- What a read group takes in a session's steps, and in fewer or more of them; and that an honest link delivers nothing else to it.
use Rattle.std.proofs.Common.{◌≡◌, sym, ap, ◌∙◌, subst, ℕ, ◌⊎◌, inl, inr, Bool, List, [], ◌∷◌, ◌++◌, Contains, append_assoc}
use Rattle.std.proofs.lemmas.List.Elements.{Contains-append_cases}
use Rattle.dataset_meta.specs.declared.field.Field.{Field}
use Rattle.ua_base.specs.Journal.{Entry, Sent, Got, IsHonest}
use Rattle.reader_group.specs.Arrivals.{accepted}
use Rattle.reader_group.specs.Settings.{setting_of}
use Rattle.reader_group.specs.Signed.{TakesSignedAlone}
use Rattle.writer_group.specs.declared.sampled.Sampled.{Sampled}
use Rattle.session_model.specs.Counts.{most_taken}
use Rattle.session_model.specs.Events.{events}
use Rattle.session_model.specs.Sends.{IsRun, journal, send_entries, sends_of}
use Rattle.session_model.specs.Steps.{Plan, Step, Enable, Disable, Append, Tick, Pump}
use Rattle.session_laws.specs.Sessions.{IsHonestFor, Takes, TakesWhatWasSent}
use Rattle.session_laws.proofs.HeldRows.Sending.{pump-sends}

-- ---- with fewer steps

pub taken-before : (p : Plan) (r : ℕ) (step : Step) (before : List Step) → TakesWhatWasSent p r (step ∷ before) → TakesWhatWasSent p r before
taken-before p r step before h = λ later earlier first behind datagram e takes. h (step ∷ later) earlier first behind datagram (ap (λ (l : List Step). step ∷ l) e) takes

-- ---- with more

pub taken-none : (p : Plan) (r : ℕ) → TakesWhatWasSent p r []
taken-none p r = λ later before first behind datagram e takes. absurd (none later before (first ++ Got datagram ∷ behind) e)
  where
    none : (later before : List Step) (entries : List Entry) → Path (List Step) [] (later ++ Pump entries ∷ before) → ⊥
    none [] before entries e = cc
    none (step ∷ later) before entries e = cc

-- a step that is no pump
pub taken-other : (p : Plan) (r : ℕ) (step : Step) (before : List Step) → ((entries : List Entry) → step ≡ Pump entries → ⊥) → TakesWhatWasSent p r before → TakesWhatWasSent p r (step ∷ before)
taken-other p r step before other h = λ later earlier first behind datagram e takes. on later earlier first behind datagram e takes
  where
    on : (later earlier : List Step) (first behind : List Entry) (datagram : List ℕ) → step ∷ before ≡ later ++ Pump (first ++ Got datagram ∷ behind) ∷ earlier → Takes p r earlier first datagram
        → Contains (journal p earlier) (Sent datagram)
    on [] earlier first behind datagram e takes = absurd (other (first ++ Got datagram ∷ behind) (let head : step ≡ Pump (first ++ Got datagram ∷ behind) = cc in head))
    on (step' ∷ later) earlier first behind datagram e takes = h later earlier first behind datagram (let tail : before ≡ later ++ Pump (first ++ Got datagram ∷ behind) ∷ earlier = cc in tail) takes

pub taken-tick : (p : Plan) (r ms : ℕ) (closing : Bool) (samples : List Sampled) (done : List Bool) (before : List Step) → TakesWhatWasSent p r before → TakesWhatWasSent p r (Tick ms closing samples done ∷ before)
taken-tick p r ms closing samples done before h = taken-other p r (Tick ms closing samples done) before (λ entries e. cc) h

pub taken-append : (p : Plan) (r set : ℕ) (field : Field) (before : List Step) → TakesWhatWasSent p r before → TakesWhatWasSent p r (Append set field ∷ before)
taken-append p r set field before h = taken-other p r (Append set field) before (λ entries e. cc) h

-- a pump of which the read group takes nothing but what was sent
pub taken-pump : (p : Plan) (r : ℕ) (entries : List Entry) (before : List Step)
    → ((first behind : List Entry) (datagram : List ℕ) → entries ≡ first ++ Got datagram ∷ behind → Takes p r before first datagram → Contains (journal p before) (Sent datagram))
    → TakesWhatWasSent p r before → TakesWhatWasSent p r (Pump entries ∷ before)
taken-pump p r entries before here h = λ later earlier first behind datagram e takes. on later earlier first behind datagram e takes
  where
    on : (later earlier : List Step) (first behind : List Entry) (datagram : List ℕ) → Pump entries ∷ before ≡ later ++ Pump (first ++ Got datagram ∷ behind) ∷ earlier → Takes p r earlier first datagram
        → Contains (journal p earlier) (Sent datagram)
    on [] earlier first behind datagram e takes =
        let is : entries ≡ first ++ Got datagram ∷ behind = cc in
        let same : before ≡ earlier = cc in
        subst (λ (l : List Step). Contains (journal p l) (Sent datagram)) same (here first behind datagram is (subst (λ (l : List Step). Takes p r l first datagram) (sym same) takes))
    on (step ∷ later) earlier first behind datagram e takes = h later earlier first behind datagram (let tail : before ≡ later ++ Pump (first ++ Got datagram ∷ behind) ∷ earlier = cc in tail) takes

-- ---- over an honest link

-- what the journal has of a receive, of the receives before it in its pump, and behind it
journal-at : (p : Plan) (later before : List Step) (first behind : List Entry) (datagram : List ℕ)
    → (after : List Entry) × (journal p (later ++ Pump (first ++ Got datagram ∷ behind) ∷ before) ≡ (journal p before ++ first) ++ Got datagram ∷ after)
journal-at p [] before first behind datagram = (behind, sym (append_assoc (journal p before) first (Got datagram ∷ behind)))
journal-at p (Enable id ∷ later) before first behind datagram = journal-at p later before first behind datagram
journal-at p (Disable id ∷ later) before first behind datagram = journal-at p later before first behind datagram
journal-at p (Append set field ∷ later) before first behind datagram = journal-at p later before first behind datagram
journal-at p (Tick ms closing samples done ∷ later) before first behind datagram =
    let h = journal-at p later before first behind datagram in
    let steps = later ++ Pump (first ++ Got datagram ∷ behind) ∷ before in
    let sends = send_entries (sends_of p (Tick ms closing samples done ∷ steps)) done in
    (h.0 ++ sends, ap (λ (l : List Entry). l ++ sends) h.1 ∙ append_assoc (journal p before ++ first) (Got datagram ∷ h.0) sends)
journal-at p (Pump entries ∷ later) before first behind datagram =
    let h = journal-at p later before first behind datagram in
    (h.0 ++ entries, ap (λ (l : List Entry). l ++ entries) h.1 ∙ append_assoc (journal p before ++ first) (Got datagram ∷ h.0) entries)

run-at : (p : Plan) (later before : List Step) → IsRun p (later ++ before) → IsRun p before
run-at p [] before run = run
run-at p (Enable id ∷ later) before run = run-at p later before run
run-at p (Disable id ∷ later) before run = run-at p later before run
run-at p (Append set field ∷ later) before run = run-at p later before run
run-at p (Tick ms closing samples done ∷ later) before run = run-at p later before run.1
run-at p (Pump entries ∷ later) before run = run-at p later before run.1

-- receives send nothing, so what was sent before one was sent before its pump
sent-before-pump : (p : Plan) (before : List Step) (first rest : List Entry) (datagram : List ℕ) → IsRun p (Pump (first ++ rest) ∷ before) → Contains (journal p before ++ first) (Sent datagram)
    → Contains (journal p before) (Sent datagram)
sent-before-pump p before first rest datagram run has = on (Contains-append_cases (journal p before) first (Sent datagram) has)
  where
    on : Contains (journal p before) (Sent datagram) ⊎ Contains first (Sent datagram) → Contains (journal p before) (Sent datagram)
    on (inl old) = old
    on (inr new) = absurd (pump-sends most_taken (first ++ rest) datagram run.0 (Rattle.std.proofs.lemmas.List.Elements.Contains-append_left first rest (Sent datagram) new))

-- what a read group takes was sent, where each receive that it takes finds it in the journal before
by-journal : (p : Plan) (r : ℕ) (steps : List Step) → IsRun p steps
    → ((before after : List Entry) (datagram : List ℕ) → journal p steps ≡ before ++ Got datagram ∷ after
    → (earlier : List Step) (first : List Entry) → Takes p r earlier first datagram → Contains before (Sent datagram))
    → TakesWhatWasSent p r steps
by-journal p r steps run honest = λ later before first behind datagram e takes.
    let at = journal-at p later before first behind datagram in
    sent-before-pump p before first (Got datagram ∷ behind) datagram (run-at p later (Pump (first ++ Got datagram ∷ behind) ∷ before) (subst (IsRun p) e run))
    (honest (journal p before ++ first) at.0 datagram (ap (journal p) e ∙ at.1) before first takes)

-- over a link that delivers nothing but what was sent
pub honest-takes : (p : Plan) (r : ℕ) (steps : List Step) → IsRun p steps → IsHonest (journal p steps) → TakesWhatWasSent p r steps
honest-takes p r steps run honest = by-journal p r steps run (λ before after datagram e earlier first takes. honest before after datagram e)

-- and over one that delivers nothing else of what is signed, to a secured read group
pub honest-for-takes : TakesSignedAlone → (p : Plan) (r : ℕ) (steps : List Step) → IsRun p steps → IsHonestFor (setting_of p.config r) (journal p steps) → TakesWhatWasSent p r steps
honest-for-takes signed p r steps run honest = by-journal p r steps run
    (λ before after datagram e earlier first takes.
    honest before after datagram e
    (λ secured. (let setting = setting_of p.config r in signed setting.group setting.setup (accepted setting (events p.config r (Pump first ∷ earlier))) datagram takes.opened takes.opens secured)))
