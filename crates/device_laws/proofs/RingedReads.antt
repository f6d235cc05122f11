-- A reader of a device whose read group is renewed with whichever rings.
use Rattle.std.proofs.Common.{◌≡◌, ◌≢◌, refl, sym, ap, ◌∙◌, subst, ℕ, ◌<◌, Bool, true, false, List, [], ◌∷◌, length, map, inl, inr, Option, Some, None}
use Rattle.std.specs.Prelude.{◌⊎◌, ◌==◌, ◌&&◌, not, slice_get, if◌then◌else◌, Result, Ok}
use Rattle.std.specs.List.{cons_option}
use Rattle.std.proofs.lemmas.Bool.Decides.{eqb_tells}
use Rattle.std.proofs.lemmas.Option.{slice_get-get_or, slice_get_within}
use Rattle.group_keys.specs.declared.key_set.KeySet.{KeySet}
use Rattle.message_guard.specs.declared.keys.TokenKeys.{TokenKeys}
use Rattle.message_guard.specs.Guards.{Setup}
use Rattle.message_guard.specs.Modes.{is_secured}
use Rattle.message_guard.specs.Protection.{keys_in}
use Rattle.dataset_reader.specs.Kept.{Kept}
use Rattle.pubsub_model.specs.declared.reading.Why.TheVariants.{Restarted}
use Rattle.ps_config.specs.declared.parts.Config.{Config}
use Rattle.ps_config.specs.declared.parts.ReadGroupPart.{ReadGroupPart}
use Rattle.ps_config.specs.Headers as configured
use Rattle.ps_config.specs.Rings.{key_set}
use Rattle.ps_config.specs.Sound.{IsKeyed}
use Rattle.reader_group.specs.Agreeing.{AreRestarts, ChunksNear, IsWayOf, MemberIs, NearBy, SendsRise}
use Rattle.reader_group.specs.Arrivals.{Mark, Way, arrivals, arrivals_in, goes_by_numbers, marks}
use Rattle.reader_group.specs.Members.{no_seat}
use Rattle.reader_group.specs.Opening.{Opened}
use Rattle.reader_group.specs.Plain as befalls
use Rattle.reader_group.specs.Plain.{Event, PlainGroup, Setting, answer, answer_on, member_at, plain, verdict_in, with_keys}
use Rattle.reader_group.specs.Settings.{keygroup_at, seat_in, setting_by, setting_of, setup_by}
use Rattle.reader_group.specs.declared.refusal.Refusal.{Refusal}
use Rattle.reader_group.specs.declared.refusal.Taken.{Taken}
use Rattle.reader_group.proofs.Made.{ring-keys}
use Rattle.writer_group.specs.Parts.{group_at, no_group}
use Rattle.writer_group.specs.Payloads.{meta_at}
use Rattle.writer_group.specs.Turns.{GroupDeed, writer_past}
use Rattle.session_laws.specs.Below.{AgreeLaw, RingLaw, TurnLaws}
use Rattle.session_laws.specs.Pasts.{IsMade, WasMade, answered_by, settings_at}
use Rattle.session_laws.specs.Plays.{IsAnswerBy, ItemsAre}
use Rattle.session_laws.specs.Readers.{IsMadeFor, Making}
use Rattle.session_model.specs.Deeds.{Deed, group_past}
use Rattle.session_model.specs.Readings.{Reading as SessionReading}
use Rattle.turn_laws.specs.Lives.{TokensNameKeys, marks_on}
use Rattle.turn_laws.specs.Sent.{NamesPlaces, place_near, sends_in}
use Rattle.turn_laws.proofs.Holding.{made_with}
use Rattle.turn_laws.proofs.LifeReading.{IsRead, IsReadWith, TakenWereMadeOn, WereMade, came-by, goes-read, read-none, signed-by}
use Rattle.turn_laws.proofs.Naming.{near-names, near-numbers}
use Rattle.turn_laws.proofs.Sharing.{own-risen}
use Rattle.turn_laws.proofs.Signed.{SignedLaw, events-contents, held, made-for, matched-secured}
use Rattle.device.specs.declared.subscriber.Subscriber.{Subscriber}
use Rattle.device.specs.Sides.{HasListened}
use Rattle.device_laws.specs.Alike.{ReadsAlike}
use Rattle.device_laws.specs.Deeds.{deeds_in}
use Rattle.device_laws.specs.Devices.{HoldsWhole, IsCounted, member_in}
use Rattle.device_laws.specs.Publishing.{HasOffered, PublisherLife, config_in}
use Rattle.device_laws.specs.Ringed.{AllKeysAreAmong, AreKeysAmong, ComesRinged, HoldsRinged, IsRingedPair, KeysAreAmong, ReadsRinged, RingsAreAmong, marks_of, ringed_way}
use Rattle.device_laws.specs.Subscribing.{AreSubscriberSteps, Came, Expired, IsOpenSubscriber, IsSubscriberCall, IsTaken, Only, Reading, Refused, Renewed, SubscriberCall, SubscriberLife, SubscriberStep, Switched, TakenAre, Took, event_by, is_for, keys_by, read_if, reading, readers_on, setting_in, some_if, subscriber_after, takes_at}
use Rattle.device_laws.specs.Turning.{past_in}
use Rattle.device_laws.proofs.Alike.{alike-keys, alike-marks, alike-member, seated}
use Rattle.device_laws.proofs.AnyLength.{held-row}
use Rattle.device_laws.proofs.Doing.{same-past}
use Rattle.device_laws.proofs.Heard.{keeps-member, stands-at}
use Rattle.device_laws.proofs.Reaching.{Tells, reach}
use Rattle.device_laws.proofs.Offered.{offered-made}
use Rattle.device_laws.proofs.Owning.{are-deeds}
use Rattle.device_laws.proofs.Pairs.{answer-told, restarts-on, taken-with, took-told}
use Rattle.device_laws.proofs.Ringing.{IsRinged, ring-keeps}
use Rattle.device_laws.proofs.Rows.{has-rows}
use Rattle.device_laws.proofs.Told.{AreTold, told-so}
use Rattle.device_laws.proofs.WholeRows.{whole-sent}

-- ---- one read group, over the calls of its subscriber

module _ (text : List ℕ) (first : Subscriber) (r : ℕ) (opened : IsOpenSubscriber text first) (low : r < length first.config.readgroup) (secured : is_secured (setting_of first.config r).setup.mode ≡ true) (all : List KeySet) (named : TokensNameKeys all)
    (config : Config) (pasts : ℕ → List GroupDeed) (way : Way) (P : List ℕ → Type 0) (makes : (datagram : List ℕ) → P datagram → IsMade config pasts datagram) where
  abbrev S : Setting
  S = setting_of first.config r

  abbrev as_session : Reading → SessionReading
  as_session rd = record { keys = rd.keys; value = rd.value; answered = [] }

  abbrev IsSoFar : Reading → List Mark → Type 0
  IsSoFar rd list = IsReadWith S secured all named config pasts way (as_session rd) list

  abbrev AreTaken : Reading → List Event → Type 0
  AreTaken rd events = TakenWereMadeOn (with_keys S rd.keys) config pasts rd.value events

  -- an event, if it is one
  gone-on : (rd : Reading) (list : List Mark) (o : Option Event) → AreTaken rd (cons_option o []) → AreRestarts (cons_option o []) → IsSoFar rd list
      → IsSoFar (read_if S rd o) (marks_on (with_keys S rd.keys) way rd.value list (cons_option o []))
  gone-on rd list None taken restarts h = h
  gone-on rd list (Some event) taken restarts h = record {
    sets = h.sets;
    among = h.among;
    keys = h.keys;
    read = goes-read S secured all named config pasts way (as_session rd) list (event ∷ []) taken restarts h;
  }

  -- a ring, if it is one
  keys-if : (group : ℕ) (keys : List TokenKeys) (rd : Reading) (list : List Mark) (b : Bool) → ((b ≡ true) × (group ≡ r)) ⊎ ((b ≡ false) × (group ≢ r)) → (group ≡ r → AreKeysAmong all keys) → IsSoFar rd list → IsSoFar (record rd { keys = if b then keys else rd.keys }) list
  keys-if group keys rd list true (inl hit) among h = let is = among hit.1 in record { sets = is.sets; among = is.among; keys = is.are; read = h.read }
  keys-if group keys rd list true (inr miss) among h = absurd (let e = miss.0 in cc)
  keys-if group keys rd list false t among h = h

  keys-on : (call : SubscriberCall) (rd : Reading) (list : List Mark) → KeysAreAmong r all call → IsSoFar rd list → IsSoFar (record rd { keys = keys_by call r rd.keys }) list
  keys-on (Came group now datagram answer) rd list among h = h
  keys-on (Took now datagram answers) rd list among h = h
  keys-on (Expired now) rd list among h = h
  keys-on (Switched group reader on) rd list among h = h
  keys-on (Renewed group keys) rd list among h = keys-if group keys rd list (group == r) (eqb_tells group r) among h
  keys-on (Only group number) rd list among h = h
  keys-on Refused rd list among h = h

  -- what it took was made
  came-made : (rd : Reading) (group now : ℕ) (datagram : List ℕ) (is : Result Taken Refusal) (on : List Bool) (opens : Opened) → is ≡ answer (with_keys S rd.keys) rd.value now on datagram → group ≡ r
      → IsTaken (Came group now datagram is) r P → verdict_in (with_keys S rd.keys) rd.value datagram ≡ Ok opens → IsMade config pasts datagram
  came-made rd group now datagram is on opens told hit has e =
      makes datagram (taken-so (told ∙ ap (λ (v : Result Opened Refusal). answer_on (with_keys S rd.keys) rd.value now on v) e))
    where
      taken-so : is ≡ answer_on (with_keys S rd.keys) rd.value now on (Ok opens) → P datagram
      taken-so so = taken-with group now r datagram is _ P so hit has

  taken-if : (rd : Reading) (group now : ℕ) (datagram : List ℕ) (on : List Bool) (b : Bool) {Hit Miss : Type 0} → Tells b Hit Miss
      → (Hit → (opens : Opened) → verdict_in (with_keys S rd.keys) rd.value datagram ≡ Ok opens → IsMade config pasts datagram) → AreTaken rd (cons_option (some_if b (befalls.Got now on datagram)) [])
  taken-if rd group now datagram on true (inl hit) own = (own hit.1, tt)
  taken-if rd group now datagram on true (inr miss) own = absurd (let e = miss.0 in cc)
  taken-if rd group now datagram on false t own = tt

  stopped-if : (rd : Reading) (b : Bool) (reader : ℕ) → AreTaken rd (cons_option (some_if b (befalls.Stopped reader Restarted)) [])
  stopped-if rd true reader = tt
  stopped-if rd false reader = tt

  taken-on : (before : List SubscriberStep) → AreSubscriberSteps first before → (call : SubscriberCall) (new : Subscriber) → IsSubscriberCall call (subscriber_after first before) new → IsTaken call r P
      → AreTaken (reading first before r) (cons_option (event_by call (subscriber_after first before) r) [])
  taken-on before are (Came group now datagram is) new has taken =
      let old = subscriber_after first before in
      let rd = reading first before r in
      let h = stands-at text first r before opened low are in
      taken-if rd group now datagram (readers_on old r) (is_for old group r datagram) (reach old group r datagram h.listening h.at)
      (λ hit opens e.
      let told = answer-told text first r opened low before are now datagram has.0 is new (subst (λ (k : ℕ). HasListened k now datagram has.0 old new is) hit.0 has.1) hit.1 in
      came-made rd group now datagram is told.0 opens told.1 hit.0 taken e)
  taken-on before are (Took now datagram answers) new has taken =
      let old = subscriber_after first before in
      let rd = reading first before r in
      let t = took-told text first r opened low before are now datagram answers new P has taken in
      taken-if rd r now datagram (readers_on old r) (takes_at old r datagram) t.tells (λ told opens e. came-made rd r now datagram t.given told.0 opens told.1 refl t.taken e)
  taken-on before are (Expired now) new has taken = tt
  taken-on before are (Switched group reader on) new has taken = stopped-if (reading first before r) ((group == r) && not on) reader
  taken-on before are (Renewed group keys) new has taken = tt
  taken-on before are (Only group number) new has taken = tt
  taken-on before are Refused new has taken = tt

  -- over all calls
  pub read-at : (steps : List SubscriberStep) → AreSubscriberSteps first steps → TakenAre steps r P → AllKeysAreAmong r all steps → AreKeysAmong all S.setup.keys → IsSoFar (reading first steps r) (marks_of first steps r way)
  read-at [] are taken among ours = record {
    sets = ours.sets;
    among = ours.among;
    keys = ours.are;
    read = read-none S secured all named config pasts way (plain S []) refl;
  }
  read-at (step ∷ before) are taken among ours =
      let old = subscriber_after first before in
      let rd = reading first before r in
      let o = event_by step.call old r in
      keys-on step.call (read_if S rd o) (marks_of first (step ∷ before) r way) among.0
      (gone-on rd (marks_of first before r way) o (taken-on before are.2 step.call step.after are.1 taken.0) (restarts-on step.call old r [] tt) (read-at before are.2 taken.1 among.1 ours))

-- ---- the two

module _ (ring : RingLaw) (laws : TurnLaws) (text other : List ℕ) (pl : PublisherLife) (sl : SubscriberLife) (readers : ReadGroupPart) (r i g w k : ℕ) (all : List KeySet) (is : IsRingedPair text other pl sl readers r i g w k all) where
  abbrev config1 : Config
  config1 = config_in pl

  abbrev deeds1 : List Deed
  deeds1 = deeds_in pl

  abbrev sent : ℕ → List (ℕ × ℕ)
  sent = sends_in config1 k g w deeds1

  abbrev past1 : ℕ → List GroupDeed
  past1 index = group_past config1 index deeds1

  its-told : AreTold config1 pl.steps
  its-told = told-so text pl.first is.publisher.opened pl.steps is.publisher.steps_are is.unresumed

  at-group : slice_get config1.group g ≡ Some (group_at config1 g)
  at-group = slice_get-get_or config1.group g no_group is.there

  reads : readers.keygroup ≡ Some k
  reads = is.matched.groups.keygroup ∙ is.keyed

  low-key : k < length config1.keygroup
  low-key = (subst (IsKeyed config1 (configured.is_secured (group_at config1 g).security)) is.keyed (is.publisher.opened.is.good.sound.groups g no_group is.there).keys).there

  ringed : IsRinged ring text pl.first is.publisher.opened is.publisher.opened.types k g low-key readers reads all is.named is.fit is.configured deeds1
  ringed =
      (are-deeds text pl.first is.publisher.opened (RingsAreAmong k all) (IsRinged ring text pl.first is.publisher.opened is.publisher.opened.types k g low-key readers reads all is.named is.fit is.configured)
      (ring-keeps ring text pl.first is.publisher.opened is.publisher.opened.types k g low-key readers reads all is.named is.fit is.configured) pl.steps is.publisher.steps_are its-told is.rings).all

  rises : SendsRise sent
  rises = (own-risen config1 k g w is.keyed is.matched.reads.within deeds1 ringed.turns).each

  abbrev place1 : ℕ → ℕ → ℕ → ℕ
  place1 = place_near sent

  names : NamesPlaces place1 sent
  names = near-names sent rises

  abbrev way1 : Way
  way1 = ringed_way pl readers i g w k

  remade : (datagram : List ℕ) → HasOffered pl.steps datagram → IsMade config1 past1 datagram
  remade datagram has =
      let made = offered-made text pl.first is.publisher.opened pl.steps is.publisher.steps_are datagram has in
      record {
        group = made.group;
        part = made.part;
        there = made.there;
        made = subst (λ (p : List GroupDeed). WasMade p datagram)
            (sym (same-past pl.first made.group is.publisher.opened.is.good.sound (slice_get_within config1.group made.group made.part made.there) pl.steps its-told)) made.made;
      }

  secured2 : is_secured (setting_by config1 readers).setup.mode ≡ true
  secured2 = matched-secured config1 readers i g w k is.publisher.opened.is.good.sound (record { there = is.there; within = is.matched.reads.within; keyed = is.keyed }) is.matched

  secured1 : is_secured (setting_in sl r).setup.mode ≡ true
  secured1 = subst (λ (setup : Setup). is_secured setup.mode ≡ true) (sym is.alike.setup) secured2

  -- the keys that the read group has at first
  first-keys : AreKeysAmong all (setting_in sl r).setup.keys
  first-keys = record {
    sets = map key_set (keygroup_at config1 k).key;
    among = is.configured;
    are = ap (λ (setup : Setup). setup.keys) is.alike.setup ∙ ap (λ (o : Option ℕ). (setup_by config1 readers o).keys) reads ∙ sym (ring-keys (keygroup_at config1 k).key);
  }

  -- the reading of what befell the read group, with the keys of all rings together

  abbrev joined : Setting
  joined = with_keys (setting_by config1 readers) (map keys_in all)

  -- of the subscriber's own setting the reader reads alike
  abbrev ours : Setting
  ours = with_keys (setting_in sl r) (map keys_in all)

  alike : ReadsAlike i ours joined
  alike = alike-keys i (setting_in sl r) (setting_by config1 readers) (map keys_in all) is.alike

  read : IsRead (setting_in sl r) secured1 all is.named config1 past1 way1 (reading sl.first sl.steps r).value (marks_of sl.first sl.steps r way1)
  read = (read-at other sl.first r is.subscriber.opened is.read_there secured1 all is.named config1 past1 way1 (HasOffered pl.steps) remade sl.steps is.subscriber.steps_are is.took is.keys first-keys).read

  list-is : marks joined way1 read.events ≡ marks_of sl.first sl.steps r way1
  list-is = sym (alike-marks i ours joined alike way1 read.events) ∙ read.list_is

  member-is : member_at (plain joined read.events).members i ≡ member_in sl r i
  member-is =
      sym (alike-member i ours joined alike (seated config1 readers i is.matched.within) read.events)
      ∙ ap (λ (group : PlainGroup). member_at group.members i) read.value_is

  way-of : IsWayOf joined way1 read.events
  way-of = record {
    seat = slice_get-get_or (map (seat_in config1) readers.reader) i no_seat (seated config1 readers i is.matched.within);
    numbers = λ token number own. near-numbers sent token number own;
    restarts = read.restarts;
  }

  -- ---- it reads by *Records*

  -- by numbers: its sender made what came signed

  abbrev bytes : ℕ → List ℕ
  bytes = (held laws config1 k g w readers i place1 (map keys_in all) is.matched is.keyed is.publisher.opened.is.good.sound at-group deeds1 ringed.turns ringed.known names).bytes

  abbrev making : Making
  making = made_with sent bytes

  made-by : goes_by_numbers way1 ≡ true → (datagram : List ℕ) → IsMade config1 past1 datagram → IsMadeFor making joined way1 datagram
  made-by numbered datagram made =
      made-for laws config1 k g w readers i place1 (map keys_in all) is.matched is.keyed is.publisher.opened.is.good.sound at-group deeds1 ringed.turns ringed.known names numbered datagram made

  member-by : SignedLaw → AgreeLaw → (b : Bool) → goes_by_numbers way1 ≡ b → ChunksNear (marks joined way1 read.events) → MemberIs way1 (marks joined way1 read.events) (member_at (plain joined read.events).members i)
  member-by signed agrees true numbered near =
      let made = signed-by (setting_by config1 readers) secured2 all is.named config1 past1 way1 making (made-by numbered) read.events read.made in
      signed making joined way1 read.events secured2 numbered rises made way-of near
  -- with none places don't matter
  member-by signed agrees false numbered near =
      agrees joined way1 read.events way-of (subst (λ (b : Bool). NearBy b (arrivals joined way1 read.events)) (sym numbered) tt) near

  pub reads-ringed : SignedLaw → AgreeLaw → ReadsRinged pl sl readers r i g w k
  reads-ringed signed agrees = λ near.
      let own = member-by signed agrees (goes_by_numbers way1) refl (subst ChunksNear (sym list-is) near) in
      subst (MemberIs way1 (marks_of sl.first sl.steps r way1)) member-is
      (subst (λ (list : List Mark). MemberIs way1 list (member_at (plain joined read.events).members i)) list-is own)

  -- ---- what comes is what the writer answered

  abbrev AreItems : List GroupDeed → List Mark → Type 0
  AreItems past list = ItemsAre (IsAnswerBy way1.seat.part.numbering way1.seat.meta (answered_by (group_at config1 g) w past)) (arrivals_in list)

  items-with : (events : List Event) → WereMade config1 past1 events → AreItems (past1 g) (marks joined way1 events)
  items-with events made =
      (events-contents laws config1 k g w readers i place1 (map keys_in all) is.matched is.keyed is.publisher.opened.is.good.sound at-group deeds1 ringed.turns ringed.known names events
      (came-by joined config1 past1 events made)).items

  pub comes-ringed : ComesRinged pl sl readers r i g w k
  comes-ringed =
      subst (λ (past : List GroupDeed). AreItems past (marks_of sl.first sl.steps r way1)) (same-past pl.first g is.publisher.opened.is.good.sound is.there pl.steps its-told)
      (subst (AreItems (past1 g)) list-is (items-with read.events read.made))

  -- so what it holds is a version's whole row
  pub holds-ringed : SignedLaw → AgreeLaw → IsCounted pl → HoldsRinged pl sl readers r i g w k
  holds-ringed signed agrees counted = λ near reader row has.
      let part = group_at config1 g in
      let meta = meta_at part config1.dataset w in
      let kept = (member_in sl r i).kept in
      let same = keeps-member other sl.first r i sl.steps is.subscriber.opened is.read_there is.subscriber.steps_are reader has in
      let rows = has-rows text pl.first g w is.publisher.opened is.there is.matched.reads.within pl.steps is.publisher.steps_are in
      subst (λ (k : Kept). k.row ≡ Some row → HoldsWhole pl g w k.number row) (sym same)
      (λ e.
      let sent = held-row way1.seat.meta (settings_at part w) (writer_past w (past_in pl g)) meta rows _ way1.seat.part.numbering kept row comes-ringed (reads-ringed signed agrees near).keeps e in
      whole-sent text pl g w is.publisher counted is.there is.matched.reads.within way1.seat.meta (laws.meta config1 readers i part w is.matched) kept.number row sent.place sent.sent sent.number_is)
