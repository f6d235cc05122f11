-- What was sent in a life was made by its turns.
use Rattle.std.proofs.Common.{◌≡◌, refl, ap, subst, arith, ℕ, zero, suc, ◌+◌, ◌<◌, Bool, true, false, List, [], ◌∷◌, length, inl, inr, Contains, eq-eqb}
use Rattle.std.specs.Prelude.{◌⊎◌, ◌==◌, if◌then◌else◌}
use Rattle.std.proofs.lemmas.List.Elements.{Contains-append_cases, Contains-append_left}
use Rattle.std.proofs.lemmas.Option.{slice_get-get_or}
use Rattle.dataset_meta.specs.Rows.{cons_if}
use Rattle.ua_base.specs.Journal.{Entry, Sent, SendFailed}
use Rattle.group_keys.specs.declared.key_set.KeySet.{KeySet}
use Rattle.ps_config.specs.declared.parts.Config.{Config}
use Rattle.pubsub_states.specs.declared.component.Component.{Component}
use Rattle.pubsub_states.specs.declared.component.Component.TheVariants.{Group}
use Rattle.writer_group.specs.declared.sampled.Sampled.{Sampled}
use Rattle.writer_group.specs.Parts.{group_at, no_group}
use Rattle.writer_group.specs.Turns.{GroupDeed, GroupTurn, HadGroupTurn}
use Rattle.session_model.specs.Counts.{most_taken}
use Rattle.session_model.specs.Deeds.{Deed, RefreshedBelow, RefreshedSet, CameTo, TookTurn, RenewedKeys, component_at, group_past, is_writer_below, is_writer_of, tick_deeds, turn_of, writer_indexes}
use Rattle.session_model.specs.Lives.{IsRunIn, Lived, Renewed, Stepped, account_in, steps_in}
use Rattle.session_model.specs.Sends.{Send, last_sends, send_entries, sends_by}
use Rattle.session_model.specs.Steps.{Plan, Step, Enable, Disable, Append, Tick, Pump, moment_of}
use Rattle.session_model.proofs.Deeds.{TickKeeps, refreshed-keeps, tick-keeps}
use Rattle.session_laws.specs.Pasts.{IsMade, WasMade}
use Rattle.session_laws.proofs.HeldRows.Sending.{pump-sends}

-- ---- a turn of these deeds sent it

-- a turn of the group with this index
abbrev HasSent : Config → ℕ → List ℕ → List Deed → Type 0
HasSent config g datagram [] = ⊥
HasSent config g datagram (RefreshedBelow component ∷ before) = HasSent config g datagram before
HasSent config g datagram (RefreshedSet set ∷ before) = HasSent config g datagram before
HasSent config g datagram (CameTo moment ∷ before) = HasSent config g datagram before
HasSent config g datagram (TookTurn other turn ∷ before) =
    ((other ≡ g) × (other < length config.group) × Contains turn.made datagram) ⊎ HasSent config g datagram before
HasSent config g datagram (RenewedKeys keygroup sets ∷ before) = HasSent config g datagram before

was-if : (b : Bool) (turn : GroupTurn) (past : List GroupDeed) (datagram : List ℕ) → WasMade past datagram → WasMade (cons_if b (HadGroupTurn turn) past) datagram
was-if true turn past datagram made = inr made
was-if false turn past datagram made = made

is-if : (b : Bool) (turn : GroupTurn) (past : List GroupDeed) (datagram : List ℕ) → b ≡ true → Contains turn.made datagram → WasMade (cons_if b (HadGroupTurn turn) past) datagram
is-if true turn past datagram e made = inl made
is-if false turn past datagram e made = absurd (cc)

sent-was : (config : Config) (g : ℕ) (datagram : List ℕ) (deeds : List Deed) → HasSent config g datagram deeds → (g < length config.group) × WasMade (group_past config g deeds) datagram
sent-was config g datagram [] has = absurd has
sent-was config g datagram (RefreshedBelow component ∷ before) has =
    let h = sent-was config g datagram before has in
    (h.0, refreshed-keeps (λ past. WasMade past datagram) (λ writer past made. made) (is_writer_below component g) (group_past config g before) (writer_indexes (group_at config g)) h.1)
sent-was config g datagram (RefreshedSet set ∷ before) has =
    let h = sent-was config g datagram before has in
    (h.0, refreshed-keeps (λ past. WasMade past datagram) (λ writer past made. made) (is_writer_of (group_at config g) set) (group_past config g before) (writer_indexes (group_at config g)) h.1)
sent-was config g datagram (CameTo moment ∷ before) has = sent-was config g datagram before has
sent-was config g datagram (RenewedKeys keygroup sets ∷ before) has = sent-was config g datagram before has
sent-was config g datagram (TookTurn other turn ∷ before) (inl now) =
    let there = now.1 in
    let same = now.0 in
    (omega (arith, there, same), is-if (other == g) turn (group_past config g before) datagram (eq-eqb other g same) now.2)
sent-was config g datagram (TookTurn other turn ∷ before) (inr was) =
    let h = sent-was config g datagram before was in (h.0, was-if (other == g) turn (group_past config g before) datagram h.1)

-- one of the groups
record IsSent (config : Config) (datagram : List ℕ) (deeds : List Deed) : Type 0 where
  group : ℕ
  has : HasSent config group datagram deeds

sent-made : (config : Config) (datagram : List ℕ) (deeds : List Deed) → IsSent config datagram deeds → IsMade config (λ g. group_past config g deeds) datagram
sent-made config datagram deeds is =
    let was = sent-was config is.group datagram deeds is.has in
    record { group = is.group; part = group_at config is.group; there = slice_get-get_or config.group is.group no_group was.0; made = was.1 }

-- ---- the sends of a tick

in-sends : (g : ℕ) (datagrams : List (List ℕ)) (send : Send) → Contains (sends_by g datagrams) send → (g ≡ send.group) × Contains datagrams send.datagram
in-sends g [] send has = absurd (let below = has.1 in omega (arith, below))
in-sends g (datagram ∷ datagrams) send (zero, below, same) = (ap (λ (s : Send). s.group) same, (0, omega arith, ap (λ (s : Send). s.datagram) same))
in-sends g (datagram ∷ datagrams) send (suc k, below, same) =
    let h = in-sends g datagrams send (k, omega (arith, below), same) in
    let has = h.1 in
    (h.0, (suc has.0, let lt = has.1 in omega (arith, lt), has.2))

-- each datagram of the last tick is one of a turn
AreSends : Config → List Deed → Type 0
AreSends config deeds = (send : Send) → Contains (last_sends deeds) send → HasSent config send.group send.datagram deeds

sends-use : (config : Config) (deeds : List Deed) (send : Send) → AreSends config deeds → Contains (last_sends deeds) send → HasSent config send.group send.datagram deeds
unfolding AreSends
sends-use config deeds send h has = h send has

sends-none : (config : Config) → AreSends config []
unfolding AreSends
sends-none config = λ send has. absurd (let below = has.1 in omega (arith, below))

sends-came : (config : Config) (now : ℕ) (earlier : List Deed) → AreSends config (CameTo now ∷ earlier)
unfolding AreSends
sends-came config now earlier = λ send has. absurd (let below = has.1 in omega (arith, below))

sends-below : (config : Config) (component : Component) (earlier : List Deed) → AreSends config earlier → AreSends config (RefreshedBelow component ∷ earlier)
unfolding AreSends
sends-below config component earlier h = h

sends-set : (config : Config) (set : ℕ) (earlier : List Deed) → AreSends config earlier → AreSends config (RefreshedSet set ∷ earlier)
unfolding AreSends
sends-set config set earlier h = h

sends-renewed : (config : Config) (keygroup : ℕ) (sets : List KeySet) (earlier : List Deed) → AreSends config earlier → AreSends config (RenewedKeys keygroup sets ∷ earlier)
unfolding AreSends
sends-renewed config keygroup sets earlier h = h

sends-turn : (config : Config) (g : ℕ) (turn : GroupTurn) (earlier : List Deed) → g < length config.group → AreSends config earlier → AreSends config (TookTurn g turn ∷ earlier)
unfolding AreSends
sends-turn config g turn earlier there h = λ send has. on send (Contains-append_cases (last_sends earlier) (sends_by g turn.made) send has)
  where
    on : (send : Send) → Contains (last_sends earlier) send ⊎ Contains (sends_by g turn.made) send → HasSent config send.group send.datagram (TookTurn g turn ∷ earlier)
    on send (inl old) = inr (h send old)
    on send (inr now) = let of = in-sends g turn.made send now in inl (of.0, there, of.1)

tick-sends : (p : Plan) (before : List Step) (now : ℕ) (closing : Bool) (samples : List Sampled) → TickKeeps p before now closing samples (AreSends p.config)
tick-sends p before now closing samples = record {
  came = λ earlier h. sends-came p.config now earlier;
  fresh = λ g earlier h. sends-below p.config (Group g) earlier h;
  turn = λ g earlier there has h. sends-turn p.config g (turn_of p before now closing samples earlier g) earlier there h;
}

life-sends : (p : Plan) (life : List Lived) → AreSends p.config (account_in p life).deeds
life-sends p [] = sends-none p.config
life-sends p (Stepped (Enable id) ∷ before) = sends-below p.config (component_at p.config id) (account_in p before).deeds (life-sends p before)
life-sends p (Stepped (Disable id) ∷ before) = life-sends p before
life-sends p (Stepped (Append set field) ∷ before) = sends-set p.config set (account_in p before).deeds (life-sends p before)
life-sends p (Stepped (Tick ms closing samples done) ∷ before) =
    let now = moment_of (steps_in before) + ms in
    tick-keeps p (steps_in before) now closing samples (account_in p before).deeds (AreSends p.config) (tick-sends p (steps_in before) now closing samples) (life-sends p before)
life-sends p (Stepped (Pump entries) ∷ before) = life-sends p before
life-sends p (Renewed keygroup sets ∷ before) = sends-renewed p.config keygroup sets (account_in p before).deeds (life-sends p before)

-- ---- the journal

done-same : (done : Bool) (one datagram : List ℕ) → (if done then Sent one else SendFailed) ≡ Sent datagram → one ≡ datagram
done-same true one datagram e = cc
done-same false one datagram e = absurd (cc)

in-entries : (sends : List Send) (done : List Bool) (datagram : List ℕ) → Contains (send_entries sends done) (Sent datagram) → (send : Send) × Contains sends send × (send.datagram ≡ datagram)
in-entries [] done datagram has = absurd (let below = has.1 in omega (arith, below))
in-entries (send ∷ sends) [] datagram has = absurd (let below = has.1 in omega (arith, below))
in-entries (send ∷ sends) (d ∷ done) datagram (zero, below, same) = (send, (0, omega arith, refl), done-same d send.datagram datagram same)
in-entries (send ∷ sends) (d ∷ done) datagram (suc k, below, same) =
    let h = in-entries sends done datagram (k, omega (arith, below), same) in
    let has = h.1 in
    (h.0, (suc has.0, let lt = has.1 in omega (arith, lt), has.2), h.2)

-- what more is done leaves it sent
tick-sent : (p : Plan) (datagram : List ℕ) (before : List Step) (now : ℕ) (closing : Bool) (samples : List Sampled) → TickKeeps p before now closing samples (IsSent p.config datagram)
tick-sent p datagram before now closing samples = record {
  came = λ earlier h. record { group = h.group; has = h.has };
  fresh = λ g earlier h. record { group = h.group; has = h.has };
  turn = λ g earlier there has h. record { group = h.group; has = inr h.has };
}

life-sent : (p : Plan) (life : List Lived) (datagram : List ℕ) → IsRunIn p life → Contains (account_in p life).journal (Sent datagram) → IsSent p.config datagram (account_in p life).deeds
life-sent p [] datagram run has = absurd (let below = has.1 in omega (arith, below))
life-sent p (Stepped (Enable id) ∷ before) datagram run has = let h = life-sent p before datagram run.1 has in record { group = h.group; has = h.has }
life-sent p (Stepped (Disable id) ∷ before) datagram run has = life-sent p before datagram run.1 has
life-sent p (Stepped (Append set field) ∷ before) datagram run has = let h = life-sent p before datagram run.1 has in record { group = h.group; has = h.has }
life-sent p (Stepped (Tick ms closing samples done) ∷ before) datagram run has =
    on (Contains-append_cases (account_in p before).journal (send_entries (last_sends after) done) (Sent datagram) has) (life-sent p before datagram run.1)
  where
    now : ℕ
    now = moment_of (steps_in before) + ms

    after : List Deed
    after = tick_deeds p (steps_in before) now closing samples (account_in p before).deeds

    on : Contains (account_in p before).journal (Sent datagram) ⊎ Contains (send_entries (last_sends after) done) (Sent datagram)
        → (Contains (account_in p before).journal (Sent datagram) → IsSent p.config datagram (account_in p before).deeds) → IsSent p.config datagram after
    on (inl old) rest = tick-keeps p (steps_in before) now closing samples (account_in p before).deeds (IsSent p.config datagram) (tick-sent p datagram (steps_in before) now closing samples) (rest old)
    on (inr new) rest =
        let in_them = in-entries (last_sends after) done datagram new in
        let send = in_them.0 in
        let is = sends-use p.config after send (life-sends p (Stepped (Tick ms closing samples done) ∷ before)) in_them.1 in
        subst (λ (d : List ℕ). IsSent p.config d after) in_them.2 (record { group = send.group; has = is })
life-sent p (Stepped (Pump entries) ∷ before) datagram run has =
    on (Contains-append_cases (account_in p before).journal entries (Sent datagram) has) (life-sent p before datagram run.1)
  where
    on : Contains (account_in p before).journal (Sent datagram) ⊎ Contains entries (Sent datagram)
        → (Contains (account_in p before).journal (Sent datagram) → IsSent p.config datagram (account_in p before).deeds) → IsSent p.config datagram (account_in p before).deeds
    on (inl old) rest = rest old
    on (inr new) rest = absurd (pump-sends most_taken entries datagram run.0 new)
life-sent p (Renewed keygroup sets ∷ before) datagram run has = let h = life-sent p before datagram run has in record { group = h.group; has = h.has }

pub life-made : (p : Plan) (life : List Lived) (datagram : List ℕ) → IsRunIn p life → Contains (account_in p life).journal (Sent datagram) → IsMade p.config (λ g. group_past p.config g (account_in p life).deeds) datagram
life-made p life datagram run has = sent-made p.config datagram (account_in p life).deeds (life-sent p life datagram run has)

-- what was sent stays in the journal
pub step-stays : (p : Plan) (step : Step) (before : List Lived) (entry : Entry) → Contains (account_in p before).journal entry → Contains (account_in p (Stepped step ∷ before)).journal entry
step-stays p (Enable id) before entry has = has
step-stays p (Disable id) before entry has = has
step-stays p (Append set field) before entry has = has
step-stays p (Tick ms closing samples done) before entry has =
    Contains-append_left (account_in p before).journal (send_entries (last_sends (tick_deeds p (steps_in before) (moment_of (steps_in before) + ms) closing samples (account_in p before).deeds)) done) entry has
step-stays p (Pump entries) before entry has = Contains-append_left (account_in p before).journal entries entry has
