-- The senders of a session's key groups have keys of their rings, and numbers are left for each turn.
use Rattle.std.proofs.Common.{◌≡◌, refl, sym, ap, ◌∙◌, subst, arith, ℕ, zero, suc, ◌+◌, ◌<◌, ◌≤◌, ◌^◌, Bool, true, false, not, ◌&&◌, List, [], ◌∷◌, length, map, Option, Some, None}
use Rattle.std.specs.Prelude.{◌==◌, ◌||◌, nat_lt, nat_le, find, reverse, option_map, unwrap_or, slice_index_or, IfSome, if◌then◌else◌}
use Rattle.std.specs.Option.{option_map_or, option_or}
use Rattle.std.proofs.lemmas.Bool.Decides.{nat_tests}
use Rattle.std.proofs.lemmas.List.{reverse-append}
use Rattle.std.proofs.lemmas.List.Folds.{find-append}
use Rattle.std.proofs.lemmas.Option.{slice_get-get_or}
use Rattle.group_keys.specs.KeySets.{current}
use Rattle.group_keys.specs.declared.key_set.KeySet.{KeySet}
use Rattle.message_guard.specs.declared.keys.TokenKeys.{TokenKeys}
use Rattle.message_guard.specs.declared.mode.Mode.{Mode}
use Rattle.message_guard.specs.Protection.{keys_in}
use Rattle.message_guard.specs.Senders.{SenderState, numbers_left, turned_by}
use Rattle.ps_config.specs.declared.parts.Config.{Config}
use Rattle.ps_config.specs.declared.parts.GroupPart.{GroupPart}
use Rattle.ps_config.specs.declared.parts.KeyGroupPart.{KeyGroupPart}
use Rattle.ps_config.specs.declared.parts.KeyPart.{KeyPart}
use Rattle.ps_config.specs.Headers.{is_secured}
use Rattle.ps_config.specs.Rings.{key_set}
use Rattle.ps_config.specs.Sound.{IsSound, IsKeyed, IsKeyGroup}
use Rattle.pubsub_states.specs.declared.component.Component.TheVariants.{Root, Connection, Group}
use Rattle.pubsub_states.specs.declared.component.Component.{Component}
use Rattle.pubsub_states.specs.declared.flags.Flags.{Flags}
use Rattle.pubsub_states.specs.declared.state.State.{State}
use Rattle.pubsub_states.specs.declared.state.State.TheVariants as states
use Rattle.pubsub_states.specs.States.{is_operational, state_under}
use Rattle.reader_group.specs.Settings.{keygroup_at, no_keygroup, no_keys}
use Rattle.writer_group.specs.declared.sampled.Sampled.{Sampled}
use Rattle.ps_config.specs.Headers.{mode_of}
use Rattle.writer_group.specs.Payloads.{IsFrameIf, meta_at, payloads_of, writer_at}
use Rattle.writer_group.specs.Sealing.{Envelope, Payload, AreWritten, advanced_by, datagrams_from}
use Rattle.writer_group.specs.Turns.{GroupDeed, TurnInput, answer_by, envelope_of, frames_in, is_due}
use Rattle.group_laws.specs.Matching.{MaySend, IsSenderOf}
use Rattle.session_model.specs.Steps.{Plan, Step, Enable, Disable, Append, Tick, Pump, moment_of}
use Rattle.session_model.specs.Deeds.{Deed, RefreshedBelow, RefreshedSet, CameTo, TookTurn, deeds, component_at, group_past, shares, sender_after, opening_sender, advanced_if, is_spent, turn_flags, works, has_turn, turn_input, turn_of, tick_deeds}
use Rattle.writer_group.specs.Parts.{group_at, no_group}
use Rattle.session_model.specs.Keeping.{IsPlan}
use Rattle.ps_config.specs.Types.{HasTypes}
use Rattle.session_model.specs.Turns.{HoldsTurn, TurnsHold, deeds_before}
pub use Rattle.session_laws.specs.Below.{RingLaw}
use Rattle.session_model.proofs.Deeds.{TickHolds, HoldsTick, tick-holds, holds-before}
use Rattle.session_laws.proofs.Versions.Distinct.{at-sound}

pub record IsKeySender (ring : KeyGroupPart) (s : SenderState) : Type 0 where
  pub of_ring : IsSenderOf ring s
  pub sets : s.sets ≡ map key_set ring.key

-- ---- at first

find-end : (now : ℕ) (sets : List KeySet) (first : KeySet) → nat_le first.from now ≡ true → (set : KeySet) × (find (λ set. nat_le set.from now) (reverse (first ∷ sets)) ≡ Some set)
find-end now sets first e =
    on (find (λ set. nat_le set.from now) (reverse sets))
    (ap (find (λ (set : KeySet). nat_le set.from now)) (reverse-append (first ∷ []) sets) ∙ find-append (λ (set : KeySet). nat_le set.from now) (reverse sets) (first ∷ [])
    ∙ ap (λ (b : Bool). option_or (find (λ (set : KeySet). nat_le set.from now) (reverse sets)) (if b then Some first else None)) e)
  where
    on : (o : Option KeySet) → find (λ set. nat_le set.from now) (reverse (first ∷ sets)) ≡ option_or o (Some first) → (set : KeySet) × (find (λ set. nat_le set.from now) (reverse (first ∷ sets)) ≡ Some set)
    on None is = (first, is)
    on (Some set) is = (set, is)

first-current : (keys : List KeyPart) → 0 < length keys → slice_index_or (map (λ (key : KeyPart). key.from) keys) 0 0 ≡ 0 → (set : KeySet) × (current (map key_set keys) 0 ≡ Some set)
first-current [] some zero_is = absurd (omega (arith, some))
first-current (key ∷ keys) some zero_is = find-end 0 (map key_set keys) (key_set key) (grind (arith, nat_tests, zero_is))

opening-is : RingLaw → (ring : KeyGroupPart) → IsKeyGroup ring → length ring.random ≡ 4 → ring.used < 2 ^ 32 → IsKeySender ring (opening_sender ring)
opening-is law ring is random used =
    let first = first-current ring.key is.has_key is.first_at_zero in
    let keys : option_map keys_in (current (map key_set ring.key) 0) ≡ Some (unwrap_or (option_map keys_in (current (map key_set ring.key) 0)) no_keys) =
    ap (option_map keys_in) first.1 ∙ sym (ap (λ (o : Option KeySet). Some (unwrap_or (option_map keys_in o) no_keys)) first.1) in
    record {
      of_ring = law ring 0 (opening_sender ring) is (record { sender_is = record { random = random; used = used }; sets = refl; keys = keys; first_block = refl });
      sets = refl;
    }

-- ---- at a moment

turned-is : RingLaw → (ring : KeyGroupPart) (s : SenderState) (now : ℕ) (o : Option KeySet) → IsKeyGroup ring → current s.sets now ≡ o → IsKeySender ring s → IsKeySender ring (turned_by s o)
turned-is law ring s now None is e h = h
turned-is law ring s now (Some set) is e h = on (nat_lt s.keys.token set.token)
  where
    on : (b : Bool) → IsKeySender ring (if b then record s { keys = keys_in set; used = 0; fronted = None } else s)
    on false = h
    on true = record {
      of_ring = law ring now (record s { keys = keys_in set; used = 0; fronted = None }) is (record {
        sender_is = record { random = h.of_ring.sender_is.random; used = omega arith };
        sets = h.sets;
        keys = ap (option_map keys_in) e;
        first_block = h.of_ring.first_block;
      });
      sets = h.sets;
    }

-- ---- with datagrams

pub record IsAdvanced (s after : SenderState) (count : ℕ) : Type 0 where
  pub used : after.used ≡ s.used + count
  pub keys : after.keys ≡ s.keys
  pub sets : after.sets ≡ s.sets
  pub random : after.random ≡ s.random
  pub first : after.first_block ≡ s.first_block

pub advanced-is : (mode : Mode) (s : SenderState) (count : ℕ) → IsAdvanced s (advanced_by mode s count) count
advanced-is mode s zero = record { used = omega arith; keys = refl; sets = refl; random = refl; first = refl }
advanced-is mode s (suc count) = let h = advanced-is mode s count in record { used = let e = h.used in omega (arith, e); keys = h.keys; sets = h.sets; random = h.random; first = h.first }

sends-is : (ring : KeyGroupPart) (s after : SenderState) (count : ℕ) → s.used + count < 2 ^ 32 → IsAdvanced s after count → IsKeySender ring s → IsKeySender ring after
sends-is ring s after count lt a h =
    let of = h.of_ring in
    let used = a.used in
    record {
      of_ring = record {
        sender_is = record { random = ap (λ (l : List ℕ). length l) a.random ∙ of.sender_is.random; used = omega (arith, used, lt) };
        keys = subst (λ (k : TokenKeys). Rattle.message_guard.specs.Protection.keys_with (map Rattle.reader_group.specs.Settings.token_keys ring.key) k.token ≡ Some k) (sym a.keys) of.keys;
        first_block = a.first ∙ of.first_block;
      };
      sets = a.sets ∙ h.sets;
    }

-- ---- a turn has numbers left

up-fault : (above : State) (flags : Flags) → is_operational (state_under above flags) ≡ true → flags.fault ≡ false
up-fault above flags e = on flags.enabled (is_operational above) flags.fault flags.ready e
  where
    on : (enabled up fault ready : Bool)
        → is_operational (if not enabled then states.Disabled else if not up then states.Paused else if fault then states.Error else if not ready then states.PreOperational else states.Operational) ≡ true
        → fault ≡ false
    on true true false ready e = refl
    on true true true ready e = absurd (cc)
    on true false fault ready e = absurd (cc)
    on false up fault ready e = absurd (cc)

and-left : (a b : Bool) → (a && b) ≡ true → a ≡ true
and-left true b e = refl
and-left false b e = absurd (cc)

pub not-spent : (p : Plan) (before : List Step) (now : ℕ) (closing : Bool) (earlier : List Deed) (g : ℕ) → has_turn p before now closing earlier g ≡ true → is_spent p.config g earlier ≡ false
not-spent p before now closing earlier g has =
    let flags = turn_flags p.config before earlier in
    let works_is : works p.config before earlier (Group g) ≡ true = and-left (works p.config before earlier (Group g)) (closing || is_due (group_at p.config g) (group_past p.config g earlier) now) has in
    up-fault (state_under (state_under states.Operational (flags Root)) (flags Connection)) (flags (Group g)) works_is

many-made : (e : Envelope) (sender : Option SenderState) (from : ℕ) (payloads : List Payload) → length (datagrams_from e sender from payloads) ≡ length payloads
many-made e sender from [] = refl
many-made e sender from (payload ∷ payloads) = ap suc (many-made e sender (from + 1) payloads)

-- ---- all senders

pub AllSenders : Config → List Deed → Type 0
AllSenders config deeds = (k : ℕ) → k < length config.keygroup → IsKeySender (keygroup_at config k) (sender_after config k deeds)

pub senders-use : (config : Config) (deeds : List Deed) (k : ℕ) → AllSenders config deeds → k < length config.keygroup → IsKeySender (keygroup_at config k) (sender_after config k deeds)
unfolding AllSenders
senders-use config deeds k h there = h k there

-- what a turn has beside its datagrams
pub record TurnHolds (config : Config) (group : GroupPart) (past : List GroupDeed) (input : TurnInput) : Type 0 where
  pub sender : MaySend config group (length (payloads_of config group (frames_in group past input))) input.sender
  pub written : AreWritten (envelope_of config group past) input.sender 0 (payloads_of config group (frames_in group past input))
  pub answers : (writer : ℕ) → IsFrameIf (writer_at group writer) (meta_at group input.told.metas writer) (answer_by group past input writer)

pub left-by : (config : Config) (g k count : ℕ) (earlier : List Deed) → (group_at config g).keygroup ≡ Some k → is_spent config g earlier ≡ false → count ≤ 1024 → (sender_after config k earlier).used + count < 2 ^ 32
left-by config g k count earlier keyed unspent few =
    let test : nat_lt (numbers_left (sender_after config k earlier)) 1024 ≡ false =
    sym (ap (λ (o : Option ℕ). option_map_or (λ s. nat_lt (numbers_left s) 1024) (option_map (λ (n : ℕ). sender_after config n earlier) o) false) keyed) ∙ unspent in
    grind (arith, nat_tests, test, few)

may-send : (config : Config) (g count : ℕ) (earlier : List Deed) (o : Option ℕ) → (group_at config g).keygroup ≡ o → IsKeyed config (is_secured (group_at config g).security) o → is_spent config g earlier ≡ false → count ≤ 1024 → AllSenders config earlier
    → MaySend config (group_at config g) count (option_map (λ (k : ℕ). sender_after config k earlier) o)
may-send config g count earlier None keyed is unspent few h = is.keyed
may-send config g count earlier (Some k) keyed is unspent few h = (
  is.keyed,
  left-by config g k count earlier keyed unspent few,
  subst (λ (o : Option ℕ). IfSome o (λ index. IsSenderOf (keygroup_at config index) (sender_after config k earlier))) (sym keyed) (senders-use config earlier k h is.there).of_ring,
)

pub group-keyed : (config : Config) (g : ℕ) → IsSound config → g < length config.group → IsKeyed config (is_secured (group_at config g).security) (group_at config g).keygroup
group-keyed config g sound there = (at-sound config g (group_at config g) sound (slice_get-get_or config.group g no_group there)).keys

turn-holds : (p : Plan) (before : List Step) (now : ℕ) (closing : Bool) (samples : List Sampled) (g : ℕ) (earlier : List Deed) → IsPlan p → g < length p.config.group → has_turn p before now closing earlier g ≡ true
    → HoldsTurn p.config (group_at p.config g) (group_past p.config g earlier) (turn_input p before now closing samples earlier g) → AllSenders p.config earlier
    → TurnHolds p.config (group_at p.config g) (group_past p.config g earlier) (turn_input p before now closing samples earlier g)
turn-holds p before now closing samples g earlier plan there has holds h =
    let group = group_at p.config g in
    let input = turn_input p before now closing samples earlier g in
    let payloads = payloads_of p.config group (frames_in group (group_past p.config g earlier) input) in
    let few = holds.few in
    let count = many-made (envelope_of p.config group (group_past p.config g earlier)) input.sender 0 payloads in
    record {
      sender = may-send p.config g (length payloads) earlier group.keygroup refl (group-keyed p.config g plan.good.sound there) (not-spent p before now closing earlier g has) (omega (arith, few, count)) h;
      written = holds.written;
      answers = holds.answers;
    }

-- ---- they stay so

ring-sound : (config : Config) (k : ℕ) → IsSound config → k < length config.keygroup → IsKeyGroup (keygroup_at config k)
ring-sound config k sound there = sound.keygroups k no_keygroup there

pub senders-came : RingLaw → (config : Config) (now : ℕ) (earlier : List Deed) → IsSound config → AllSenders config earlier → AllSenders config (CameTo now ∷ earlier)
unfolding AllSenders
senders-came law config now earlier sound h = λ k there. turned-is law (keygroup_at config k) (sender_after config k earlier) now (current (sender_after config k earlier).sets now) (ring-sound config k sound there) refl (h k there)

pub senders-fresh : (config : Config) (component : Component) (earlier : List Deed) → AllSenders config earlier → AllSenders config (RefreshedBelow component ∷ earlier)
unfolding AllSenders
senders-fresh config component earlier h = h

pub senders-set : (config : Config) (set : ℕ) (earlier : List Deed) → AllSenders config earlier → AllSenders config (RefreshedSet set ∷ earlier)
unfolding AllSenders
senders-set config set earlier h = h

pub shared-by : (group : GroupPart) (k : ℕ) → shares group k ≡ true → group.keygroup ≡ Some k
shared-by group k e = on group.keygroup e
  where
    on : (o : Option ℕ) → option_map_or (λ other. other == k) o false ≡ true → o ≡ Some k
    on None e = absurd (cc)
    on (Some other) e = let same : other ≡ k = grind (arith, nat_tests) in ap (λ (n : ℕ). Some n) same

sender-turn : (config : Config) (g k count : ℕ) (earlier : List Deed) (b : Bool) → shares (group_at config g) k ≡ b → is_spent config g earlier ≡ false → count ≤ 1024 → IsKeySender (keygroup_at config k) (sender_after config k earlier)
    → IsKeySender (keygroup_at config k) (advanced_if b (mode_of (group_at config g).security) count (sender_after config k earlier))
sender-turn config g k count earlier false e unspent few h = h
sender-turn config g k count earlier true e unspent few h =
    let s = sender_after config k earlier in
    let mode = mode_of (group_at config g).security in
    sends-is (keygroup_at config k) s (advanced_by mode s count) count (left-by config g k count earlier (shared-by (group_at config g) k e) unspent few) (advanced-is mode s count) h

pub senders-turn : (p : Plan) (before : List Step) (now : ℕ) (closing : Bool) (samples : List Sampled) (g : ℕ) (earlier : List Deed) → has_turn p before now closing earlier g ≡ true
    → HoldsTurn p.config (group_at p.config g) (group_past p.config g earlier) (turn_input p before now closing samples earlier g) → AllSenders p.config earlier
    → AllSenders p.config (TookTurn g (turn_of p before now closing samples earlier g) ∷ earlier)
unfolding AllSenders
senders-turn p before now closing samples g earlier has holds h =
    λ k there. sender-turn p.config g k (length (turn_of p before now closing samples earlier g).made) earlier (shares (group_at p.config g) k) refl (not-spent p before now closing earlier g has) holds.few (h k there)

tick-senders : RingLaw → (p : Plan) (before : List Step) (now : ℕ) (closing : Bool) (samples : List Sampled) → IsPlan p → TickHolds p before now closing samples (AllSenders p.config)
tick-senders law p before now closing samples plan = record {
  came = λ earlier h. senders-came law p.config now earlier plan.good.sound h;
  fresh = λ g earlier h. senders-fresh p.config (Group g) earlier h;
  turn = λ g earlier there has holds h. senders-turn p before now closing samples g earlier has holds h;
}

pub senders-open : RingLaw → (config : Config) → IsSound config → HasTypes config → AllSenders config []
unfolding AllSenders
senders-open law config sound types = λ k there. let is = types.keygroups k no_keygroup there in opening-is law (keygroup_at config k) (ring-sound config k sound there) is.random is.used

pub all-senders : RingLaw → (p : Plan) (steps : List Step) → IsPlan p → TurnsHold p steps → AllSenders p.config (deeds p steps)
all-senders law p [] plan hold = senders-open law p.config plan.good.sound plan.types
all-senders law p (Enable id ∷ before) plan hold = senders-fresh p.config (component_at p.config id) (deeds p before) (all-senders law p before plan hold)
all-senders law p (Disable id ∷ before) plan hold = all-senders law p before plan hold
all-senders law p (Append set field ∷ before) plan hold = senders-set p.config set (deeds p before) (all-senders law p before plan hold)
all-senders law p (Tick ms closing samples done ∷ before) plan hold =
    tick-holds p before (moment_of before + ms) closing samples (AllSenders p.config) (tick-senders law p before (moment_of before + ms) closing samples plan) hold.0 (all-senders law p before plan hold.1)
all-senders law p (Pump entries ∷ before) plan hold = all-senders law p before plan hold

-- ---- with what a turn has, over a tick

pub record SendHolds (p : Plan) (before : List Step) (now : ℕ) (closing : Bool) (samples : List Sampled) (P : List Deed → Type 0) : Type 0 where
  pub came : (earlier : List Deed) → P earlier → P (CameTo now ∷ earlier)
  pub fresh : (g : ℕ) (earlier : List Deed) → P earlier → P (RefreshedBelow (Group g) ∷ earlier)
  pub turn : (g : ℕ) (earlier : List Deed) → g < length p.config.group
      → TurnHolds p.config (group_at p.config g) (group_past p.config g earlier) (turn_input p before now closing samples earlier g)
      → P earlier → P (TookTurn g (turn_of p before now closing samples earlier g) ∷ earlier)

both : RingLaw → (p : Plan) (before : List Step) (now : ℕ) (closing : Bool) (samples : List Sampled) (P : List Deed → Type 0) → IsPlan p → SendHolds p before now closing samples P
    → TickHolds p before now closing samples (λ l. AllSenders p.config l × P l)
both law p before now closing samples P plan keeps = record {
  came = λ earlier h. (senders-came law p.config now earlier plan.good.sound h.0, keeps.came earlier h.1);
  fresh = λ g earlier h. (senders-fresh p.config (Group g) earlier h.0, keeps.fresh g earlier h.1);
  turn = λ g earlier there has holds h.
      (senders-turn p before now closing samples g earlier has holds h.0, keeps.turn g earlier there (turn-holds p before now closing samples g earlier plan there has holds h.0) h.1);
}

pub send-holds : RingLaw → (p : Plan) (before : List Step) (now : ℕ) (closing : Bool) (samples : List Sampled) (P : List Deed → Type 0) → IsPlan p → SendHolds p before now closing samples P → HoldsTick p before now closing samples
    → TurnsHold p before → P (deeds p before) → P (tick_deeds p before now closing samples (deeds p before))
send-holds law p before now closing samples P plan keeps holds hold h =
    (tick-holds p before now closing samples (λ l. AllSenders p.config l × P l) (both law p before now closing samples P plan keeps) holds (all-senders law p before plan hold, h)).1

-- up to the turn of a group
pub send-to : RingLaw → (p : Plan) (before : List Step) (now : ℕ) (closing : Bool) (samples : List Sampled) (P : List Deed → Type 0) (g : ℕ) → g ≤ length p.config.group → IsPlan p → SendHolds p before now closing samples P
    → HoldsTick p before now closing samples → TurnsHold p before → P (deeds p before) → AllSenders p.config (deeds_before p before now closing samples g) × P (deeds_before p before now closing samples g)
send-to law p before now closing samples P g le plan keeps holds hold h =
    holds-before p before now closing samples (λ l. AllSenders p.config l × P l) (both law p before now closing samples P plan keeps) holds g le (all-senders law p before plan hold, h)

-- and what its turn has
pub turn-at : RingLaw → (p : Plan) (before : List Step) (now : ℕ) (closing : Bool) (samples : List Sampled) (g : ℕ) → g < length p.config.group → IsPlan p → HoldsTick p before now closing samples
    → has_turn p before now closing (deeds_before p before now closing samples g) g ≡ true → AllSenders p.config (deeds_before p before now closing samples g)
    → TurnHolds p.config (group_at p.config g) (group_past p.config g (deeds_before p before now closing samples g)) (turn_input p before now closing samples (deeds_before p before now closing samples g) g)
turn-at law p before now closing samples g there plan holds has all =
    turn-holds p before now closing samples g (deeds_before p before now closing samples g) plan there has (holds g there has) all
