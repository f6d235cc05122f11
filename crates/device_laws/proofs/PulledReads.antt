-- What a matched reader holds, of devices whose rings are known by those of a configuration.
use Rattle.std.proofs.Common.{◌≡◌, ◌≢◌, refl, sym, ap, ◌∙◌, subst, ℕ, ◌<◌, Bool, true, false, List, [], ◌∷◌, length, map, inl, inr, Option, Some, None}
use Rattle.std.specs.Prelude.{◌⊎◌, ◌==◌, ◌&&◌, not, if◌then◌else◌, Result, Ok, Err}
use Rattle.std.specs.List.{cons_option}
use Rattle.std.proofs.lemmas.Bool.Decides.{eqb_tells}
use Rattle.std.proofs.lemmas.Option.{slice_get-get_or}
use Rattle.dataset_meta.specs.DataValues.{DataValue}
use Rattle.dataset_reader.specs.Kept.{Kept}
use Rattle.dataset_reader.specs.Reader.{kept_by}
use Rattle.dataset_reader.specs.declared.reader.Reader.{Reader}
use Rattle.group_keys.specs.declared.key_set.KeySet.{KeySet}
use Rattle.message_guard.specs.Modes.{is_secured}
use Rattle.message_guard.specs.Guards.{Setup}
use Rattle.message_guard.specs.Protection.{keys_in}
use Rattle.message_guard.specs.declared.keys.TokenKeys.{TokenKeys}
use Rattle.pubsub_model.specs.declared.reading.Why.TheVariants.{Restarted}
use Rattle.ps_config.specs.declared.parts.Config.{Config}
use Rattle.ps_config.specs.declared.parts.ReadGroupPart.{ReadGroupPart}
use Rattle.ps_config.specs.Headers as configured
use Rattle.ps_config.specs.Rings.{key_set}
use Rattle.ps_config.specs.Sound.{IsKeyed}
use Rattle.reader_group.specs.Agreeing.{AreRestarts}
use Rattle.reader_group.specs.Members.{MemberValue, seat_at}
use Rattle.reader_group.specs.Opening.{Opened}
use Rattle.reader_group.specs.Plain as befalls
use Rattle.reader_group.specs.Plain.{Event, PlainGroup, Setting, answer, answer_on, member_at, plain, step, taken_on, verdict_in, with_keys}
use Rattle.reader_group.specs.Settings.{keygroup_at, setting_by, setting_of, setup_by}
use Rattle.reader_group.specs.declared.refusal.Refusal.{Refusal}
use Rattle.reader_group.specs.declared.refusal.Taken.{Taken}
use Rattle.reader_group.proofs.Made.{ring-keys}
use Rattle.writer_group.specs.Parts.{group_at, no_group}
use Rattle.writer_group.specs.Turns.{GroupDeed}
use Rattle.group_laws.specs.Matching.{IsMatchedTo}
use Rattle.session_laws.specs.Pasts.{CameAsMade, IsMade}
use Rattle.session_laws.specs.Plays.{IsPlay, Play, its_member, its_meta}
use Rattle.session_laws.proofs.HeldRows.KnownTokens.{known-token}
use Rattle.turn_laws.proofs.Keyed.{other-keys}
use Rattle.turn_laws.proofs.Signed.{matched-secured}
use Rattle.device.specs.declared.subscriber.Subscriber.{Subscriber}
use Rattle.device.specs.Readings.{IsReaderAt}
use Rattle.device.specs.Sides.{HasListened}
use Rattle.device_laws.specs.Alike.{ReadsAlike}
use Rattle.device_laws.specs.Devices.{HasSentFew, HoldsNamed, IsCounted, member_in}
use Rattle.device_laws.specs.Publishing.{HasOffered, PublisherLife, config_in}
use Rattle.device_laws.specs.Pulled.{AllKeysAreKnown, AreKnownKeys, IsPulledPair, KeysAreKnown, config_with}
use Rattle.device_laws.specs.Subscribing.{AreSubscriberSteps, Came, Expired, IsOpenSubscriber, IsSubscriberCall, IsTaken, Only, Reading, Refused, Renewed, SubscriberCall, SubscriberLife, SubscriberStep, Switched, TakenAre, Took, event_by, is_for, keys_by, read_if, reading, readers_on, setting_in, some_if, subscriber_after, subscriber_in, takes_at}
use Rattle.device_laws.specs.Turning.{past_in}
use Rattle.device_laws.proofs.Alike.{alike-came, alike-keys, alike-member, seated}
use Rattle.device_laws.proofs.WholeRows.{named-sent}
use Rattle.device_laws.proofs.Heard.{keeps-member, stands-at}
use Rattle.device_laws.proofs.Reaching.{Tells, reach}
use Rattle.device_laws.proofs.Offered.{offered-made}
use Rattle.device_laws.proofs.OtherRings.{keyed-setting, known-more, rings-fixed, rings-sound}
use Rattle.device_laws.proofs.Pairs.{MetaLaw, PlayLaws, answer-told, meta-law, restarts-on, taken-with, took-told}
use Rattle.device_laws.proofs.PulledTurns.{pulled-past}

-- ---- one read group, over the calls of its subscriber

module _ (text : List ℕ) (first : Subscriber) (r : ℕ) (opened : IsOpenSubscriber text first) (low : r < length first.config.readgroup) (secured : is_secured (setting_of first.config r).setup.mode ≡ true) (sets : List KeySet) (config : Config) (pasts : ℕ → List GroupDeed)
    (P : List ℕ → Type 0) (makes : (datagram : List ℕ) → P datagram → IsMade config pasts datagram) where
  abbrev S : Setting
  S = setting_of first.config r

  -- with the keys of these sets
  abbrev joined : Setting
  joined = with_keys S (map keys_in sets)

  -- the reading is the plain one of some events, with these keys, each datagram of which was made
  record IsPlain (rd : Reading) : Type 0 where
    keys : AreKnownKeys sets rd.keys
    events : List Event
    value_is : plain joined events ≡ rd.value
    made : CameAsMade joined config pasts events
    restarts : AreRestarts events

  joins : (rd : Reading) (datagram : List ℕ) (opens : Opened) → AreKnownKeys sets rd.keys → verdict_in (with_keys S rd.keys) rd.value datagram ≡ Ok opens → verdict_in joined rd.value datagram ≡ Ok opens
  joins rd datagram opens keys e =
      let own = subst (λ (l : List TokenKeys). verdict_in (with_keys S l) rd.value datagram ≡ Ok opens) keys.are e in
      let known = known-token S.group (with_keys S (map keys_in keys.ring)).setup rd.value.accepted datagram opens own secured in
      let more = known-more keys.ring sets opens.pass.token known.signer keys.known known.known in
      other-keys S.group S.setup.mode S.setup.first_block (map keys_in keys.ring) (map keys_in sets) rd.value.accepted datagram opens own (known.known ∙ sym more)

  -- a datagram that comes
  got : (rd : Reading) (now : ℕ) (on : List Bool) (datagram : List ℕ) (v : Result Opened Refusal) → ((opens : Opened) → verdict_in (with_keys S rd.keys) rd.value datagram ≡ Ok opens → IsMade config pasts datagram) → verdict_in (with_keys S rd.keys) rd.value datagram ≡ v → IsPlain rd
      → IsPlain (record rd { value = taken_on (with_keys S rd.keys) rd.value now on v })
  got rd now on datagram (Err refusal) so e h = record { keys = h.keys; events = h.events; value_is = h.value_is; made = h.made; restarts = h.restarts }
  got rd now on datagram (Ok opens) so e h =
      let both : verdict_in joined rd.value datagram ≡ Ok opens = joins rd datagram opens h.keys e in
      record {
        keys = h.keys;
        events = befalls.Got now on datagram ∷ h.events;
        value_is = ap (λ (v : PlainGroup). taken_on joined v now on (verdict_in joined v datagram)) h.value_is ∙ ap (taken_on joined rd.value now on) both;
        made = ((λ others is. so opens e), h.made);
        restarts = h.restarts;
      }

  -- an event, if it is one
  abbrev TakenIf : Reading → Option Event → Type 0
  TakenIf rd None = Unit {0}
  TakenIf rd (Some (befalls.Got now on datagram)) = (opens : Opened) → verdict_in (with_keys S rd.keys) rd.value datagram ≡ Ok opens → IsMade config pasts datagram
  TakenIf rd (Some (befalls.Expired now)) = Unit {0}
  TakenIf rd (Some (befalls.Stopped reader why)) = Unit {0}

  gone-on : (rd : Reading) (o : Option Event) → TakenIf rd o → AreRestarts (cons_option o []) → IsPlain rd → IsPlain (read_if S rd o)
  gone-on rd None taken restarts h = h
  gone-on rd (Some (befalls.Got now on datagram)) taken restarts h = got rd now on datagram (verdict_in (with_keys S rd.keys) rd.value datagram) taken refl h
  gone-on rd (Some (befalls.Expired now)) taken restarts h = record {
    keys = h.keys;
    events = befalls.Expired now ∷ h.events;
    value_is = ap (λ (v : PlainGroup). step joined v (befalls.Expired now)) h.value_is;
    made = h.made;
    restarts = h.restarts;
  }
  gone-on rd (Some (befalls.Stopped reader why)) taken restarts h = record {
    keys = h.keys;
    events = befalls.Stopped reader why ∷ h.events;
    value_is = ap (λ (v : PlainGroup). step joined v (befalls.Stopped reader why)) h.value_is;
    made = h.made;
    restarts = (restarts.0, h.restarts);
  }

  -- a ring, if it is one
  keys-if : (group : ℕ) (keys : List TokenKeys) (rd : Reading) (b : Bool) → ((b ≡ true) × (group ≡ r)) ⊎ ((b ≡ false) × (group ≢ r)) → (group ≡ r → AreKnownKeys sets keys) → IsPlain rd → IsPlain (record rd { keys = if b then keys else rd.keys })
  keys-if group keys rd true (inl hit) among h = record { keys = among hit.1; events = h.events; value_is = h.value_is; made = h.made; restarts = h.restarts }
  keys-if group keys rd true (inr miss) among h = absurd (let e = miss.0 in cc)
  keys-if group keys rd false t among h = record { keys = h.keys; events = h.events; value_is = h.value_is; made = h.made; restarts = h.restarts }

  keys-on : (call : SubscriberCall) (rd : Reading) → KeysAreKnown r sets call → IsPlain rd → IsPlain (record rd { keys = keys_by call r rd.keys })
  keys-on (Came group now datagram answer) rd among h = h
  keys-on (Took now datagram answers) rd among h = h
  keys-on (Expired now) rd among h = h
  keys-on (Switched group reader on) rd among h = h
  keys-on (Renewed group keys) rd among h = keys-if group keys rd (group == r) (eqb_tells group r) among h
  keys-on (Only group number) rd among h = h
  keys-on Refused rd among h = h

  -- what it took was made
  came-made : (rd : Reading) (group now : ℕ) (datagram : List ℕ) (is : Result Taken Refusal) (on : List Bool) (opens : Opened) → is ≡ answer (with_keys S rd.keys) rd.value now on datagram → group ≡ r
      → IsTaken (Came group now datagram is) r P → verdict_in (with_keys S rd.keys) rd.value datagram ≡ Ok opens → IsMade config pasts datagram
  came-made rd group now datagram is on opens told hit has e =
      makes datagram (taken-so (told ∙ ap (λ (v : Result Opened Refusal). answer_on (with_keys S rd.keys) rd.value now on v) e))
    where
      taken-so : is ≡ answer_on (with_keys S rd.keys) rd.value now on (Ok opens) → P datagram
      taken-so so = taken-with group now r datagram is _ P so hit has

  taken-if : (rd : Reading) (group now : ℕ) (datagram : List ℕ) (on : List Bool) (b : Bool) {Hit Miss : Type 0} → Tells b Hit Miss
      → (Hit → (opens : Opened) → verdict_in (with_keys S rd.keys) rd.value datagram ≡ Ok opens → IsMade config pasts datagram) → TakenIf rd (some_if b (befalls.Got now on datagram))
  taken-if rd group now datagram on true (inl hit) own = own hit.1
  taken-if rd group now datagram on true (inr miss) own = absurd (let e = miss.0 in cc)
  taken-if rd group now datagram on false t own = tt

  stopped-if : (rd : Reading) (b : Bool) (reader : ℕ) → TakenIf rd (some_if b (befalls.Stopped reader Restarted))
  stopped-if rd true reader = tt
  stopped-if rd false reader = tt

  taken-on : (before : List SubscriberStep) → AreSubscriberSteps first before → (call : SubscriberCall) (new : Subscriber) → IsSubscriberCall call (subscriber_after first before) new → IsTaken call r P
      → TakenIf (reading first before r) (event_by call (subscriber_after first before) r)
  taken-on before are (Came group now datagram is) new has taken =
      let old = subscriber_after first before in
      let rd = reading first before r in
      let h = stands-at text first r before opened low are in
      taken-if rd group now datagram (readers_on old r) (is_for old group r datagram) (reach old group r datagram h.listening h.at)
      (λ hit opens e.
      let told = answer-told text first r opened low before are now datagram has.0 is new (subst (λ (k : ℕ). HasListened k now datagram has.0 old new is) hit.0 has.1) hit.1 in
      came-made rd group now datagram is told.0 opens told.1 hit.0 taken e)
  taken-on before are (Took now datagram answers) new has taken =
      let old = subscriber_after first before in
      let rd = reading first before r in
      let t = took-told text first r opened low before are now datagram answers new P has taken in
      taken-if rd r now datagram (readers_on old r) (takes_at old r datagram) t.tells (λ told opens e. came-made rd r now datagram t.given told.0 opens told.1 refl t.taken e)
  taken-on before are (Expired now) new has taken = tt
  taken-on before are (Switched group reader on) new has taken = stopped-if (reading first before r) ((group == r) && not on) reader
  taken-on before are (Renewed group keys) new has taken = tt
  taken-on before are (Only group number) new has taken = tt
  taken-on before are Refused new has taken = tt

  plain-at : (steps : List SubscriberStep) → AreSubscriberSteps first steps → TakenAre steps r P → AllKeysAreKnown r sets steps → AreKnownKeys sets S.setup.keys → IsPlain (reading first steps r)
  plain-at [] are taken among ours = record { keys = ours; events = []; value_is = refl; made = tt; restarts = tt }
  plain-at (s ∷ before) are taken among ours =
      let old = subscriber_after first before in
      let o = event_by s.call old r in
      keys-on s.call (read_if S (reading first before r) o) among.0
      (gone-on (reading first before r) o (taken-on before are.2 s.call s.after are.1 taken.0) (restarts-on s.call old r [] tt) (plain-at before are.2 taken.1 among.1 ours))

-- ---- the two

module _ (text other : List ℕ) (pl : PublisherLife) (sl : SubscriberLife) (readers : ReadGroupPart) (r i g w k : ℕ) (sets : ℕ → List KeySet) (is : IsPulledPair text other pl sl readers r i g w k sets) where
  abbrev own : Config
  own = config_in pl

  abbrev ringed : Config
  ringed = config_with own sets

  low-key : k < length own.keygroup
  low-key = (subst (IsKeyed own (configured.is_secured (group_at own g).security)) is.keyed (is.publisher.opened.is.good.sound.groups g no_group is.there).keys).there

  reads-with : readers.keygroup ≡ Some k
  reads-with = is.matched.groups.keygroup ∙ is.keyed

  secured1 : is_secured (setting_in sl r).setup.mode ≡ true
  secured1 =
      subst (λ (setup : Setup). is_secured setup.mode ≡ true) (sym is.alike.setup)
      (matched-secured own readers i g w k is.publisher.opened.is.good.sound (record { there = is.there; within = is.matched.reads.within; keyed = is.keyed }) is.matched)

  first-keys : AreKnownKeys (sets k) (setting_in sl r).setup.keys
  first-keys = record {
    ring = map key_set (keygroup_at own k).key;
    known = is.configured k low-key;
    are = ap (λ (setup : Setup). setup.keys) is.alike.setup ∙ ap (λ (o : Option ℕ). (setup_by own readers o).keys) reads-with ∙ sym (ring-keys (keygroup_at own k).key);
  }

  made-now : (datagram : List ℕ) → HasOffered pl.steps datagram → IsMade ringed (past_in pl) datagram
  made-now datagram has =
      let made = offered-made text pl.first is.publisher.opened pl.steps is.publisher.steps_are datagram has in
      record { group = made.group; part = made.part; there = made.there; made = made.made }

  abbrev Read : Type 0
  Read = IsPlain other sl.first r is.subscriber.opened is.read_there secured1 (sets k) ringed (past_in pl) (HasOffered pl.steps) made-now (reading sl.first sl.steps r)

  read : Read
  read = plain-at other sl.first r is.subscriber.opened is.read_there secured1 (sets k) ringed (past_in pl) (HasOffered pl.steps) made-now sl.steps is.subscriber.steps_are is.took is.keys first-keys

  abbrev p : Play
  p = record { config = ringed; index = g; group = group_at own g; writer = w; readers = readers; reader = i; pasts = past_in pl; events = read.events }

  -- the setting of the configuration with the other rings
  abbrev theirs : Setting
  theirs = with_keys (setting_by own readers) (map keys_in (sets k))

  its-setting : setting_by ringed readers ≡ theirs
  its-setting = keyed-setting own sets readers k reads-with low-key

  -- of that the reader reads alike
  abbrev ours : Setting
  ours = with_keys (setting_in sl r) (map keys_in (sets k))

  alike : ReadsAlike i ours theirs
  alike = alike-keys i (setting_in sl r) (setting_by own readers) (map keys_in (sets k)) is.alike

  matched1 : IsMatchedTo ringed readers i (group_at own g) w
  matched1 =
      let m = is.matched.groups in
      record {
        groups = record { publisher = m.publisher; group_id = m.group_id; version = m.version; class_id = m.class_id; layout = m.layout; security = m.security; keygroup = m.keygroup };
        within = is.matched.within;
        reads = is.matched.reads;
      }

  is-play : (most : ℕ) → HasSentFew most pl g w → IsPlay most p
  is-play most few = record {
    sound = rings-sound own sets is.publisher.opened.is.good.sound is.make;
    fixed = rings-fixed own sets is.publisher.opened.is.good.fixed;
    there = slice_get-get_or own.group g no_group is.there;
    matched = matched1;
    pasts = λ index group at. pulled-past text pl.first sets is.make is.configured is.publisher.opened pl.steps is.publisher.steps_are is.rings index group at;
    came = subst (λ (s : Setting). CameAsMade s ringed (past_in pl) read.events) (sym its-setting) (alike-came i ours theirs alike ringed (past_in pl) read.events read.made);
    restarts = read.restarts;
    few = few;
  }

  member-is : member_in sl r i ≡ its_member p
  member-is =
      sym (ap (λ (v : PlainGroup). member_at v.members i) read.value_is)
      ∙ alike-member i ours theirs alike (seated own readers i is.matched.within) read.events
      ∙ ap (λ (s : Setting). member_at (plain s read.events).members i) (sym its-setting)

  whole-held : PlayLaws → MetaLaw → (row : List DataValue) → IsCounted pl → HasSentFew 16385 pl g w → (member_in sl r i).kept.row ≡ Some row → HoldsNamed pl g w (member_in sl r i).kept.number row
  whole-held laws law row counted few e =
      let held : (its_member p).kept.row ≡ Some row = ap (λ (m : MemberValue). m.kept.row) (sym member-is) ∙ e in
      let h = laws.holds p row (is-play 16385 few) held in
      subst (λ (m : MemberValue). HoldsNamed pl g w m.kept.number row) (sym member-is)
      (named-sent text pl g w is.publisher counted is.there is.matched.reads.within (its_meta p) (meta-law law ringed readers i (group_at own g) w matched1) (its_member p).kept.number row h.place h.sent h.number_is h.logged.named)

  pub pulled-holds : PlayLaws → MetaLaw → (reader : Reader) (row : List DataValue) → IsCounted pl → HasSentFew 16385 pl g w → IsReaderAt r i (subscriber_in sl) reader
      → (let kept = kept_by (seat_at (setting_in sl r).seats i).meta.fields reader in kept.row ≡ Some row → HoldsNamed pl g w kept.number row)
  pulled-holds laws law reader row counted few has =
      let same = keeps-member other sl.first r i sl.steps is.subscriber.opened is.read_there is.subscriber.steps_are reader has in
      subst (λ (k : Kept). k.row ≡ Some row → HoldsNamed pl g w k.number row) (sym same) (whole-held laws law row counted few)
