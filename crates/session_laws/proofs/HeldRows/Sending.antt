-- What a read group took was made by the session's groups, where it was sent before.
use Rattle.std.proofs.Common.{◌≡◌, refl, sym, ap, ◌∙◌, subst, arith, ℕ, zero, suc, ◌+◌, ◌<◌, Bool, true, false, List, [], ◌∷◌, ◌++◌, length, inl, inr, Contains, append_assoc}
use Rattle.std.specs.Prelude.{◌⊎◌, ◌==◌, fold, if◌then◌else◌, Ok}
use Rattle.std.proofs.lemmas.Bool.Decides.{nat_tests}
use Rattle.std.proofs.lemmas.List.Elements.{Contains-append_left, Contains-append_cases}
use Rattle.std.proofs.lemmas.List.Sums.{fold-append}
use Rattle.std.proofs.lemmas.Option.{slice_get-get_or}
use Rattle.dataset_meta.specs.Rows.{cons_if}
use Rattle.pubsub_model.specs.declared.reading.Why.TheVariants.{Restarted}
use Rattle.ua_base.specs.Journal.{Entry, Sent, SendFailed, Got, Empty, Long, ReceiveFailed}
use Rattle.ps_config.specs.declared.parts.Config.{Config}
use Rattle.pubsub_states.specs.declared.component.Component.{Component}
use Rattle.pubsub_states.specs.declared.component.Component.TheVariants.{Group, Reader}
use Rattle.pubsub_states.specs.Components.{is_at_or_above}
use Rattle.writer_group.specs.declared.sampled.Sampled.{Sampled}
use Rattle.writer_group.specs.Turns.{GroupDeed, GroupTurn, HadGroupTurn}
use Rattle.reader_group.specs.Agreeing.{AreRestarts}
use Rattle.reader_group.specs.Plain as befalls
use Rattle.reader_group.specs.Plain.{Setting, Event}
use Rattle.reader_group.specs.Arrivals.{accepted}
use Rattle.reader_group.specs.Opening.{verdict}
use Rattle.reader_group.specs.Settings.{setting_of}
use Rattle.session_model.specs.Steps.{Plan, Step, Enable, Disable, Append, Tick, Pump, moment_of}
use Rattle.session_model.specs.Deeds.{Deed, RefreshedBelow, RefreshedSet, CameTo, TookTurn, RenewedKeys, component_at, group_past, is_writer_below, is_writer_of, writer_indexes, turn_of, deeds}
use Rattle.writer_group.specs.Parts.{group_at, no_group}
use Rattle.session_model.specs.Sends.{Send, sends_by, last_sends, sends_of, send_entries, journal, IsPump, IsRun}
use Rattle.session_model.specs.Events.{events, got_on, receives, readers_on, reader_indexes}
use Rattle.session_laws.specs.Pasts.{WasMade, IsMade, CameAsMade}
use Rattle.session_laws.specs.Sessions.{Takes, TakesWhatWasSent, pasts_at}
use Rattle.session_model.proofs.Deeds.{TickKeeps, tick-keeps, refreshed-keeps}

-- ---- what deeds made

abbrev IsMadeIn : Config → List ℕ → List Deed → Type 0
IsMadeIn config datagram deeds = IsMade config (λ g. group_past config g deeds) datagram

stays-if : (b : Bool) (turn : GroupTurn) (past : List GroupDeed) (datagram : List ℕ) → WasMade past datagram → WasMade (cons_if b (HadGroupTurn turn) past) datagram
stays-if true turn past datagram made = inr made
stays-if false turn past datagram made = made

made-stays : (config : Config) (datagram : List ℕ) (deed : Deed) (earlier : List Deed) → IsMadeIn config datagram earlier → IsMadeIn config datagram (deed ∷ earlier)
made-stays config datagram (RefreshedBelow component) earlier is = record {
  group = is.group;
  part = is.part;
  there = is.there;
  made = refreshed-keeps (λ past. WasMade past datagram) (λ writer past made. made) (is_writer_below component is.group) (group_past config is.group earlier) (writer_indexes (group_at config is.group)) is.made;
}
made-stays config datagram (RefreshedSet set) earlier is = record {
  group = is.group;
  part = is.part;
  there = is.there;
  made = refreshed-keeps (λ past. WasMade past datagram) (λ writer past made. made) (is_writer_of (group_at config is.group) set) (group_past config is.group earlier) (writer_indexes (group_at config is.group)) is.made;
}
made-stays config datagram (CameTo moment) earlier is = record { group = is.group; part = is.part; there = is.there; made = is.made }
made-stays config datagram (RenewedKeys keygroup sets) earlier is = record { group = is.group; part = is.part; there = is.there; made = is.made }
made-stays config datagram (TookTurn g turn) earlier is = record {
  group = is.group;
  part = is.part;
  there = is.there;
  made = stays-if (g == is.group) turn (group_past config is.group earlier) datagram is.made;
}

now-if : (b : Bool) (turn : GroupTurn) (past : List GroupDeed) (datagram : List ℕ) → b ≡ true → Contains turn.made datagram → WasMade (cons_if b (HadGroupTurn turn) past) datagram
now-if true turn past datagram e made = inl made
now-if false turn past datagram e made = absurd (cc)

made-now : (config : Config) (datagram : List ℕ) (g : ℕ) (turn : GroupTurn) (earlier : List Deed) → g < length config.group → Contains turn.made datagram → IsMadeIn config datagram (TookTurn g turn ∷ earlier)
made-now config datagram g turn earlier there made = record {
  group = g;
  part = group_at config g;
  there = slice_get-get_or config.group g no_group there;
  made = now-if (g == g) turn (group_past config g earlier) datagram (grind (arith, nat_tests)) made;
}

-- ---- the sends of a tick

in-sends : (g : ℕ) (datagrams : List (List ℕ)) (send : Send) → Contains (sends_by g datagrams) send → Contains datagrams send.datagram
in-sends g [] send has = absurd (let below = has.1 in omega (arith, below))
in-sends g (d ∷ datagrams) send (zero, below, same) = (0, omega arith, ap (λ (s : Send). s.datagram) same)
in-sends g (d ∷ datagrams) send (suc k, below, same) = let h = in-sends g datagrams send (k, omega (arith, below), same) in (suc h.0, let lt = h.1 in omega (arith, lt), h.2)

-- each datagram of the last tick was made
AreLast : Config → List Deed → Type 0
AreLast config deeds = (send : Send) → Contains (last_sends deeds) send → IsMadeIn config send.datagram deeds

last-fresh : (config : Config) (component : Component) (earlier : List Deed) → AreLast config earlier → AreLast config (RefreshedBelow component ∷ earlier)
unfolding AreLast
last-fresh config component earlier h = λ send has. made-stays config send.datagram (RefreshedBelow component) earlier (h send has)

last-came : (config : Config) (now : ℕ) (earlier : List Deed) → AreLast config (CameTo now ∷ earlier)
unfolding AreLast
last-came config now earlier = λ send has. absurd (let below = has.1 in omega (arith, below))

last-turn : (config : Config) (g : ℕ) (turn : GroupTurn) (earlier : List Deed) → g < length config.group → AreLast config earlier → AreLast config (TookTurn g turn ∷ earlier)
unfolding AreLast
last-turn config g turn earlier there h = λ send has. on send (Contains-append_cases (last_sends earlier) (sends_by g turn.made) send has)
  where
    on : (send : Send) → Contains (last_sends earlier) send ⊎ Contains (sends_by g turn.made) send → IsMadeIn config send.datagram (TookTurn g turn ∷ earlier)
    on send (inl old) = made-stays config send.datagram (TookTurn g turn) earlier (h send old)
    on send (inr now) = made-now config send.datagram g turn earlier there (in-sends g turn.made send now)

last-set : (config : Config) (set : ℕ) (earlier : List Deed) → AreLast config earlier → AreLast config (RefreshedSet set ∷ earlier)
unfolding AreLast
last-set config set earlier h = λ send has. made-stays config send.datagram (RefreshedSet set) earlier (h send has)

last-none : (config : Config) → AreLast config []
unfolding AreLast
last-none config = λ send has. absurd (let below = has.1 in omega (arith, below))

last-keeps : (p : Plan) (before : List Step) (now : ℕ) (closing : Bool) (samples : List Sampled) → TickKeeps p before now closing samples (AreLast p.config)
last-keeps p before now closing samples = record {
  came = λ earlier h. last-came p.config now earlier;
  fresh = λ g earlier h. last-fresh p.config (Group g) earlier h;
  turn = λ g earlier there has h. last-turn p.config g (turn_of p before now closing samples earlier g) earlier there h;
}

last-made : (p : Plan) (steps : List Step) → AreLast p.config (deeds p steps)
last-made p [] = last-none p.config
last-made p (Enable id ∷ before) = last-fresh p.config (component_at p.config id) (deeds p before) (last-made p before)
last-made p (Disable id ∷ before) = last-made p before
last-made p (Append set field ∷ before) = last-set p.config set (deeds p before) (last-made p before)
last-made p (Tick ms closing samples done ∷ before) =
    tick-keeps p before (moment_of before + ms) closing samples (deeds p before) (AreLast p.config) (last-keeps p before (moment_of before + ms) closing samples) (last-made p before)
last-made p (Pump entries ∷ before) = last-made p before

-- ---- what was sent was made

last-use : (p : Plan) (steps : List Step) (send : Send) → Contains (last_sends (deeds p steps)) send → IsMadeIn p.config send.datagram (deeds p steps)
unfolding AreLast
last-use p steps send has = last-made p steps send has

made-keeps : (p : Plan) (datagram : List ℕ) (before : List Step) (now : ℕ) (closing : Bool) (samples : List Sampled) → TickKeeps p before now closing samples (IsMadeIn p.config datagram)
made-keeps p datagram before now closing samples = record {
  came = λ earlier h. made-stays p.config datagram (CameTo now) earlier h;
  fresh = λ g earlier h. made-stays p.config datagram (RefreshedBelow (Group g)) earlier h;
  turn = λ g earlier there has h. made-stays p.config datagram (TookTurn g (turn_of p before now closing samples earlier g)) earlier h;
}

sent-same : (done : Bool) (x datagram : List ℕ) → (if done then Sent x else SendFailed) ≡ Sent datagram → x ≡ datagram
sent-same true x datagram e = cc
sent-same false x datagram e = absurd (cc)

in-entries : (sends : List Send) (done : List Bool) (datagram : List ℕ) → Contains (send_entries sends done) (Sent datagram) → (send : Send) × Contains sends send × (send.datagram ≡ datagram)
in-entries [] done datagram has = absurd (let below = has.1 in omega (arith, below))
in-entries (send ∷ sends) [] datagram has = absurd (let below = has.1 in omega (arith, below))
in-entries (send ∷ sends) (d ∷ done) datagram (zero, below, same) = (send, (0, omega arith, refl), sent-same d send.datagram datagram same)
in-entries (send ∷ sends) (d ∷ done) datagram (suc k, below, same) =
    let h = in-entries sends done datagram (k, omega (arith, below), same) in let has = h.1 in
    (h.0, (suc has.0, let lt = has.1 in omega (arith, lt), has.2), h.2)

-- a pump sends nothing
pub pump-sends : (left : ℕ) (entries : List Entry) (datagram : List ℕ) → IsPump left entries → Contains entries (Sent datagram) → ⊥
pump-sends zero [] datagram pump has = absurd (let below = has.1 in omega (arith, below))
pump-sends zero (entry ∷ entries) datagram pump has = pump
pump-sends (suc left) [] datagram pump has = pump
pump-sends (suc left) (Got bytes ∷ entries) datagram pump (zero, below, same) = cc
pump-sends (suc left) (Got bytes ∷ entries) datagram pump (suc k, below, same) = pump-sends left entries datagram pump.1 (k, omega (arith, below), same)
pump-sends (suc left) (Long size ∷ entries) datagram pump (zero, below, same) = cc
pump-sends (suc left) (Long size ∷ entries) datagram pump (suc k, below, same) = pump-sends left entries datagram pump.1 (k, omega (arith, below), same)
pump-sends (suc left) (Empty ∷ entries) datagram pump (zero, below, same) = cc
pump-sends (suc left) (Empty ∷ entries) datagram pump (suc k, below, same) = let none : length entries ≡ 0 = ap (λ (l : List Entry). length l) pump in absurd (omega (arith, none, below))
pump-sends (suc left) (ReceiveFailed ∷ entries) datagram pump (zero, below, same) = cc
pump-sends (suc left) (ReceiveFailed ∷ entries) datagram pump (suc k, below, same) = let none : length entries ≡ 0 = ap (λ (l : List Entry). length l) pump in absurd (omega (arith, none, below))
pump-sends (suc left) (Sent bytes ∷ entries) datagram pump has = pump
pump-sends (suc left) (SendFailed ∷ entries) datagram pump has = pump

pub sent-made : (p : Plan) (steps : List Step) (datagram : List ℕ) → IsRun p steps → Contains (journal p steps) (Sent datagram) → IsMade p.config (pasts_at p steps) datagram
sent-made p [] datagram run has = absurd (let below = has.1 in omega (arith, below))
sent-made p (Enable id ∷ before) datagram run has = made-stays p.config datagram (RefreshedBelow (component_at p.config id)) (deeds p before) (sent-made p before datagram run has)
sent-made p (Disable id ∷ before) datagram run has = sent-made p before datagram run has
sent-made p (Append set field ∷ before) datagram run has = made-stays p.config datagram (RefreshedSet set) (deeds p before) (sent-made p before datagram run has)
sent-made p (Pump entries ∷ before) datagram run has = on (Contains-append_cases (journal p before) entries (Sent datagram) has) (sent-made p before datagram run.1)
  where
    on : Contains (journal p before) (Sent datagram) ⊎ Contains entries (Sent datagram) → (Contains (journal p before) (Sent datagram) → IsMadeIn p.config datagram (deeds p before)) → IsMadeIn p.config datagram (deeds p before)
    on (inl old) rest = rest old
    on (inr new) rest = absurd (pump-sends 65536 entries datagram run.0 new)
sent-made p (Tick ms closing samples done ∷ before) datagram run has =
    on (Contains-append_cases (journal p before) (send_entries (sends_of p (Tick ms closing samples done ∷ before)) done) (Sent datagram) has) (sent-made p before datagram run.1)
  where
    on : Contains (journal p before) (Sent datagram) ⊎ Contains (send_entries (sends_of p (Tick ms closing samples done ∷ before)) done) (Sent datagram)
        → (Contains (journal p before) (Sent datagram) → IsMadeIn p.config datagram (deeds p before)) → IsMadeIn p.config datagram (deeds p (Tick ms closing samples done ∷ before))
    on (inl old) rest = tick-keeps p before (moment_of before + ms) closing samples (deeds p before) (IsMadeIn p.config datagram) (made-keeps p datagram before (moment_of before + ms) closing samples) (rest old)
    on (inr new) rest = now (in-entries (sends_of p (Tick ms closing samples done ∷ before)) done datagram new)
      where
        now : (send : Send) × Contains (sends_of p (Tick ms closing samples done ∷ before)) send × (send.datagram ≡ datagram) → IsMadeIn p.config datagram (deeds p (Tick ms closing samples done ∷ before))
        now (send, there, same) = subst (λ (d : List ℕ). IsMadeIn p.config d (deeds p (Tick ms closing samples done ∷ before))) same (last-use p (Tick ms closing samples done ∷ before) send there)

-- ---- what came

-- what was sent stays in the journal
stays-sent : (p : Plan) (later before : List Step) (entry : Entry) → Contains (journal p before) entry → Contains (journal p (later ++ before)) entry
stays-sent p [] before entry has = has
stays-sent p (Enable id ∷ later) before entry has = stays-sent p later before entry has
stays-sent p (Disable id ∷ later) before entry has = stays-sent p later before entry has
stays-sent p (Append set field ∷ later) before entry has = stays-sent p later before entry has
stays-sent p (Tick ms closing samples done ∷ later) before entry has =
    Contains-append_left (journal p (later ++ before)) (send_entries (sends_of p (Tick ms closing samples done ∷ later ++ before)) done) entry (stays-sent p later before entry has)
stays-sent p (Pump entries ∷ later) before entry has = Contains-append_left (journal p (later ++ before)) entries entry (stays-sent p later before entry has)

-- each datagram that the read group took in these steps was made
AllMade : Plan → ℕ → (ℕ → List GroupDeed) → List Step → Type 0
AllMade p r pasts steps =
    (later before : List Step) (first behind : List Entry) (datagram : List ℕ) → steps ≡ later ++ Pump (first ++ Got datagram ∷ behind) ∷ before → Takes p r before first datagram
    → IsMade p.config pasts datagram

all-made : (p : Plan) (r : ℕ) (steps : List Step) → IsRun p steps → TakesWhatWasSent p r steps → AllMade p r (pasts_at p steps) steps
unfolding AllMade
all-made p r steps run taken = λ later before first behind datagram e takes.
    let pumped = Pump (first ++ Got datagram ∷ behind) ∷ before in
    let there : Contains (journal p pumped) (Sent datagram) =
    Contains-append_left (journal p before) (first ++ Got datagram ∷ behind) (Sent datagram) (taken later before first behind datagram e takes) in
    sent-made p steps datagram run (subst (λ (l : List Step). Contains (journal p l) (Sent datagram)) (sym e) (stays-sent p later pumped (Sent datagram) there))

left-made : (p : Plan) (r : ℕ) (pasts : ℕ → List GroupDeed) (step : Step) (before : List Step) → AllMade p r pasts (step ∷ before) → AllMade p r pasts before
unfolding AllMade
left-made p r pasts step before h = λ later earlier first behind datagram e takes. h (step ∷ later) earlier first behind datagram (ap (λ (l : List Step). step ∷ l) e) takes

-- what befell the read group behind the first receives of a pump
module _ (p : Plan) (r : ℕ) (pasts : ℕ → List GroupDeed) (before : List Step) (operational : receives p.config before r ≡ true) where
  abbrev setting : Setting
  setting = setting_of p.config r

  abbrev got : List Event → Entry → List Event
  got = got_on (moment_of before) (readers_on p.config before r)

  abbrev so-far : List Entry → List Event
  so-far first = fold got (events p.config r before) first

  pumped : (first : List Entry) → so-far first ≡ events p.config r (Pump first ∷ before)
  pumped first = sym (ap (λ (b : Bool). if b then fold got (events p.config r before) first else events p.config r before) operational)

  one-made : (entries first rest : List Entry) (entry : Entry) → entries ≡ first ++ entry ∷ rest → AllMade p r pasts (Pump entries ∷ before) → CameAsMade setting p.config pasts (so-far first)
      → CameAsMade setting p.config pasts (got (so-far first) entry)
  unfolding AllMade
  one-made entries first rest (Sent datagram) e h came = came
  one-made entries first rest SendFailed e h came = came
  one-made entries first rest (Got datagram) e h came = (
    λ opened opens. h [] before first rest datagram (ap (λ (l : List Entry). Pump l ∷ before) e) (record {
      operational = operational;
      opened = opened;
      opens = subst (λ (befell : List Event). verdict setting.group setting.setup (accepted setting befell) datagram ≡ Ok opened) (pumped first) opens;
    }),
    came,
  )
  one-made entries first rest Empty e h came = came
  one-made entries first rest (Long len) e h came = came
  one-made entries first rest ReceiveFailed e h came = came

  got-made : (entries first rest : List Entry) → entries ≡ first ++ rest → AllMade p r pasts (Pump entries ∷ before) → CameAsMade setting p.config pasts (so-far first) → CameAsMade setting p.config pasts (fold got (so-far first) rest)
  got-made entries first [] e h came = came
  got-made entries first (entry ∷ rest) e h came =
      let more : so-far (first ++ entry ∷ []) ≡ got (so-far first) entry = fold-append got (events p.config r before) first (entry ∷ []) in
      subst (λ (befell : List Event). CameAsMade setting p.config pasts (fold got befell rest)) more
      (got-made entries (first ++ entry ∷ []) rest (e ∙ sym (append_assoc first (entry ∷ []) rest)) h
      (subst (CameAsMade setting p.config pasts) (sym more) (one-made entries first rest entry e h came)))

got-all-made : (p : Plan) (r : ℕ) (pasts : ℕ → List GroupDeed) (before : List Step) (entries : List Entry) (b : Bool) → receives p.config before r ≡ b → AllMade p r pasts (Pump entries ∷ before)
    → CameAsMade (setting_of p.config r) p.config pasts (events p.config r before)
    → CameAsMade (setting_of p.config r) p.config pasts (if b then fold (got_on (moment_of before) (readers_on p.config before r)) (events p.config r before) entries else events p.config r before)
got-all-made p r pasts before entries true operational h came = got-made p r pasts before operational entries [] entries refl h came
got-all-made p r pasts before entries false off h came = came

-- readers that are cut
stopped-keeps : (P : List Event → Type 0) → ((i : ℕ) (earlier : List Event) → P earlier → P (befalls.Stopped i Restarted ∷ earlier)) → (component : Component) (r : ℕ) (readers : List ℕ) (earlier : List Event) → P earlier
    → P (fold (λ so_far i. cons_if (is_at_or_above component (Reader r i)) (befalls.Stopped i Restarted) so_far) earlier readers)
stopped-keeps P keeps component r [] earlier h = h
stopped-keeps P keeps component r (i ∷ readers) earlier h = stopped-keeps P keeps component r readers (cons_if (is_at_or_above component (Reader r i)) (befalls.Stopped i Restarted) earlier) (on (is_at_or_above component (Reader r i)))
  where
    on : (b : Bool) → P (cons_if b (befalls.Stopped i Restarted) earlier)
    on true = keeps i earlier h
    on false = h

came-from : (p : Plan) (r : ℕ) (pasts : ℕ → List GroupDeed) (steps : List Step) → AllMade p r pasts steps → CameAsMade (setting_of p.config r) p.config pasts (events p.config r steps)
came-from p r pasts [] h = tt
came-from p r pasts (Enable id ∷ before) h = came-from p r pasts before (left-made p r pasts (Enable id) before h)
came-from p r pasts (Disable id ∷ before) h =
    stopped-keeps (CameAsMade (setting_of p.config r) p.config pasts) (λ i earlier came. came) (component_at p.config id) r (reader_indexes p.config r) (events p.config r before)
    (came-from p r pasts before (left-made p r pasts (Disable id) before h))
came-from p r pasts (Append set field ∷ before) h = came-from p r pasts before (left-made p r pasts (Append set field) before h)
came-from p r pasts (Tick ms closing samples done ∷ before) h = came-from p r pasts before (left-made p r pasts (Tick ms closing samples done) before h)
came-from p r pasts (Pump entries ∷ before) h =
    got-all-made p r pasts before entries (receives p.config before r) refl h (came-from p r pasts before (left-made p r pasts (Pump entries) before h))

-- what befalls a read group came as it was made
pub came-as-made : (p : Plan) (r : ℕ) (steps : List Step) → IsRun p steps → TakesWhatWasSent p r steps → CameAsMade (setting_of p.config r) p.config (pasts_at p steps) (events p.config r steps)
came-as-made p r steps run taken = came-from p r (pasts_at p steps) steps (all-made p r steps run taken)

-- and each cut by hand is a restart
got-restarts : (moment : ℕ) (on : List Bool) (entries : List Entry) (earlier : List Event) → AreRestarts earlier → AreRestarts (fold (got_on moment on) earlier entries)
got-restarts moment on [] earlier h = h
got-restarts moment on (entry ∷ entries) earlier h = got-restarts moment on entries (got_on moment on earlier entry) (one entry)
  where
    one : (entry : Entry) → AreRestarts (got_on moment on earlier entry)
    one (Sent datagram) = h
    one SendFailed = h
    one (Got datagram) = h
    one Empty = h
    one (Long len) = h
    one ReceiveFailed = h

got-if-restarts : (b : Bool) (moment : ℕ) (on : List Bool) (entries : List Entry) (earlier : List Event) → AreRestarts earlier → AreRestarts (if b then fold (got_on moment on) earlier entries else earlier)
got-if-restarts true moment on entries earlier h = got-restarts moment on entries earlier h
got-if-restarts false moment on entries earlier h = h

pub all-restarts : (config : Config) (r : ℕ) (steps : List Step) → AreRestarts (events config r steps)
all-restarts config r [] = tt
all-restarts config r (Enable id ∷ before) = all-restarts config r before
all-restarts config r (Disable id ∷ before) = stopped-keeps AreRestarts (λ i earlier h. (refl, h)) (component_at config id) r (reader_indexes config r) (events config r before) (all-restarts config r before)
all-restarts config r (Append set field ∷ before) = all-restarts config r before
all-restarts config r (Tick ms closing samples done ∷ before) = all-restarts config r before
all-restarts config r (Pump entries ∷ before) = got-if-restarts (receives config before r) (moment_of before) (readers_on config before r) entries (events config r before) (all-restarts config r before)
