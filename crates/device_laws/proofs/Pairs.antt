-- Two devices: what the subscriber holds is what the publisher published.
use Rattle.std.proofs.Common.{◌≡◌, refl, sym, ap, ◌∙◌, subst, ℕ, ◌<◌, ◌≤◌, Bool, true, false, List, [], ◌∷◌, length, inl, inr, Option, Some, None}
use Rattle.std.specs.Prelude.{◌==◌, ◌&&◌, not, slice_index_or, Result, Ok}
use Rattle.std.specs.List.{cons_option}
use Rattle.std.proofs.lemmas.Option.{get_or_from_slice_get, slice_get-get_or, slice_get_within}
use Rattle.dataset_meta.specs.DataValues.{DataValue}
use Rattle.message_guard.specs.Acceptance.{Accepted}
use Rattle.message_guard.specs.declared.keys.TokenKeys.{TokenKeys}
use Rattle.dataset_reader.specs.Reader.{kept_by}
use Rattle.dataset_reader.specs.Kept.{Kept}
use Rattle.dataset_reader.specs.declared.reader.Reader.{Reader}
use Rattle.ps_config.specs.declared.parts.Config.{Config}
use Rattle.ps_config.specs.declared.parts.GroupPart.{GroupPart}
use Rattle.ps_config.specs.declared.parts.ReadGroupPart.{ReadGroupPart}
use Rattle.pubsub_model.specs.declared.reading.Why.{Why}
use Rattle.pubsub_model.specs.declared.reading.Why.TheVariants.{Restarted}
use Rattle.writer_group.specs.Turns.{GroupDeed}
use Rattle.reader_group.specs.Agreeing.{AreRestarts, MemberIs}
use Rattle.reader_group.specs.Arrivals.{accepted}
use Rattle.reader_group.specs.Groups.{IsAnswer, Stands, index_of}
use Rattle.reader_group.specs.Members.{MemberValue, seat_at}
use Rattle.reader_group.specs.Opening.{Opened, verdict}
use Rattle.reader_group.specs.Plain as befalls
use Rattle.reader_group.specs.Plain.{Event, PlainGroup, Setting, answer, answer_on, member_at, plain, with_keys}
use Rattle.reader_group.specs.Settings.{group_at as read_group_at, setting_by, setting_of}
use Rattle.reader_group.specs.declared.refusal.Refusal.{Refusal}
use Rattle.reader_group.specs.declared.refusal.Taken.{Taken}
use Rattle.reader_group.proofs.Accepting.{plain-accepted}
use Rattle.writer_group.specs.Parts.{group_at, no_group}
use Rattle.writer_group.specs.Payloads.{meta_at}
use Rattle.group_laws.specs.Matching.{IsMatchedTo}
use Rattle.session_laws.specs.Below.{RingLaw}
use Rattle.session_laws.specs.Pasts.{CameAsMade, IsMade}
use Rattle.session_laws.specs.Plays.{ComesFromWriter, HoldsVersion, IsPlay, Play, its_marks, its_member, its_meta, its_way}
use Rattle.device.specs.declared.listening.Listening.{Listening}
use Rattle.device.specs.declared.publisher.Publisher.{Publisher}
use Rattle.device.specs.declared.subscriber.Subscriber.{Subscriber}
use Rattle.device.specs.Readings.{IsReaderAt}
use Rattle.device.specs.Sides.{HasListened, TakesNumber}
use Rattle.device.specs.Takings.{HaveTaken}
use Rattle.device_laws.specs.Devices.{ArePaired, ArePairedByOne, HasSentFew, HoldsNamed, IsCounted, member_in, play_of}
use Rattle.device_laws.specs.Publishing.{HasOffered, IsOpenPublisher, PublisherLife, config_in}
use Rattle.device_laws.specs.Subscribing.{AreOwnKeys, AreSubscriberSteps, Came, Expired, IsOpenSubscriber, IsSubscriberCall, IsTaken, Only, Reading, Refused, Renewed, SubscriberCall, SubscriberLife, SubscriberStep, Switched, TakenAre, Took, event_by, events, events_in, is_for, reading, readers_on, setting_in, some_if, subscriber_after, subscriber_in, takes_at}
use Rattle.device_laws.specs.Turning.{past_in}
use Rattle.device_laws.proofs.Alike.{alike-came, alike-member, alike-same, seated}
use Rattle.device_laws.proofs.WholeRows.{named-sent}
use Rattle.device_laws.proofs.AllTaken.{CameAlone, StandsSame, as-came, came-alone}
use Rattle.device_laws.proofs.Heard.{for-alone, keeps-member, own-index, plain-reading, stands-at, subscriber-is}
use Rattle.device_laws.proofs.Offered.{offered-made}
use Rattle.device_laws.proofs.Reaching.{Misses, Reaches, Tells, reach}
use Rattle.device_laws.proofs.Publishes.{is-past}

-- ---- what the laws below say of a play

pub record PlayLaws : Type 0 where
  pub comes : (most : ℕ) (p : Play) → most ≤ 65536 → IsPlay most p → ComesFromWriter p
  pub keeps : (p : Play) → IsPlay 16385 p → MemberIs (its_way p) (its_marks p) (its_member p)
  pub holds : (p : Play) (row : List DataValue) → IsPlay 16385 p → (its_member p).kept.row ≡ Some row → HoldsVersion p (its_member p).kept.number row

pub MetaLaw : Type 0
MetaLaw = (config : Config) (readers : ReadGroupPart) (reader : ℕ) (group : GroupPart) (writer : ℕ) → IsMatchedTo config readers reader group writer
    → (seat_at (setting_by config readers).seats reader).meta ≡ meta_at group config.dataset writer

pub meta-made : ((config : Config) (readers : ReadGroupPart) (reader : ℕ) (group : GroupPart) (writer : ℕ) → IsMatchedTo config readers reader group writer
    → (seat_at (setting_by config readers).seats reader).meta ≡ meta_at group config.dataset writer) → MetaLaw
unfolding MetaLaw
meta-made law = law

pub meta-law : MetaLaw → (config : Config) (readers : ReadGroupPart) (reader : ℕ) (group : GroupPart) (writer : ℕ) → IsMatchedTo config readers reader group writer
    → (seat_at (setting_by config readers).seats reader).meta ≡ meta_at group config.dataset writer
unfolding MetaLaw
meta-law law = law

-- ---- each cut by hand is a restart

if-restarts : (b : Bool) (event : Event) (list : List Event) → AreRestarts (event ∷ list) → AreRestarts list → AreRestarts (cons_option (some_if b event) list)
if-restarts true event list one all = one
if-restarts false event list one all = all

pub restarts-on : (call : SubscriberCall) (old : Subscriber) (r : ℕ) (list : List Event) → AreRestarts list → AreRestarts (cons_option (event_by call old r) list)
restarts-on (Came group now datagram answer) old r list all = if-restarts (is_for old group r datagram) (befalls.Got now (readers_on old r) datagram) list all all
restarts-on (Took now datagram answers) old r list all = if-restarts (takes_at old r datagram) (befalls.Got now (readers_on old r) datagram) list all all
restarts-on (Expired now) old r list all = all
restarts-on (Switched group reader on) old r list all = if-restarts ((group == r) && not on) (befalls.Stopped reader Restarted) list (refl, all) all
restarts-on (Renewed group keys) old r list all = all
restarts-on (Only group number) old r list all = all
restarts-on Refused old r list all = all

pub are-restarts : (first : Subscriber) (r : ℕ) (steps : List SubscriberStep) → AreRestarts (events first steps r)
are-restarts first r [] = tt
are-restarts first r (step ∷ before) = restarts-on step.call (subscriber_after first before) r (events first before r) (are-restarts first r before)

-- ---- what the read group took was made

pub taken-with : (group now r : ℕ) (datagram : List ℕ) (is : Result Taken Refusal) (taken : Taken) (P : List ℕ → Type 0) → is ≡ Ok taken → group ≡ r → IsTaken (Came group now datagram is) r P → P datagram
taken-with group now r datagram is taken P e hit has = subst (λ (a : Result Taken Refusal). IsTaken (Came group now datagram a) r P) e has hit

-- what a call answers to a datagram is what the reading has, with the keys that the group has then: of a subscriber in which the read group stands as after these calls
answer-same : (text : List ℕ) (first : Subscriber) (r : ℕ) → IsOpenSubscriber text first → r < length first.config.readgroup → (before : List SubscriberStep) → AreSubscriberSteps first before
    → (now : ℕ) (datagram left : List ℕ) (is : Result Taken Refusal) (old new : Subscriber) → StandsSame r (subscriber_after first before) old → HasListened r now datagram left old new is
    → TakesNumber r datagram old → (on : List Bool) × (is ≡ answer (with_keys (setting_of first.config r) (reading first before r).keys) (reading first before r).value now on datagram)
answer-same text first r opened low before are now datagram left is old new same has takes =
    let last = subscriber_after first before in
    let rd = reading first before r in
    let h = stands-at text first r before opened low are in
    let l = h.listening in
    let was_at = get_or_from_slice_get old.groups.items r l l (same.at ∙ h.at) in
    let config_is : old.config ≡ first.config = same.config ∙ h.config in
    let index : index_of l.group ≡ r = own-index last r l (subscriber-is text first before opened are) h.at ∙ h.index in
    let raw : IsAnswer old.config l.group now l.on.items datagram is = subst (λ (x : Listening). IsAnswer old.config x.group now x.on.items datagram is) was_at (has.answer_is takes l) in (
      l.on.items,
      subst (λ (c : Config). (keys : List TokenKeys) (value : PlainGroup) → Stands (with_keys (setting_of c r) keys) value l.group → is ≡ answer (with_keys (setting_of c r) keys) value now l.on.items datagram) config_is
          (subst (λ (k : ℕ). (keys : List TokenKeys) (value : PlainGroup) → Stands (with_keys (setting_of old.config k) keys) value l.group → is ≡ answer (with_keys (setting_of old.config k) keys) value now l.on.items datagram) index raw)
          rd.keys rd.value h.stands,
    )

pub answer-told : (text : List ℕ) (first : Subscriber) (r : ℕ) → IsOpenSubscriber text first → r < length first.config.readgroup → (before : List SubscriberStep) → AreSubscriberSteps first before
    → (now : ℕ) (datagram left : List ℕ) (is : Result Taken Refusal) (new : Subscriber) → HasListened r now datagram left (subscriber_after first before) new is
    → TakesNumber r datagram (subscriber_after first before) → (on : List Bool) × (is ≡ answer (with_keys (setting_of first.config r) (reading first before r).keys) (reading first before r).value now on datagram)
answer-told text first r opened low before are now datagram left is new has takes =
    answer-same text first r opened low before are now datagram left is (subscriber_after first before) new (record { at = refl; config = refl }) has takes

-- of one that came to all read groups: what this one answered, and took of it
pub record TookTold (first : Subscriber) (r : ℕ) (before : List SubscriberStep) (now : ℕ) (datagram : List ℕ) (P : List ℕ → Type 0) : Type 0 where
  pub given : Result Taken Refusal
  pub taken : IsTaken (Came r now datagram given) r P
  pub tells : Tells (takes_at (subscriber_after first before) r datagram)
      ((on : List Bool) × (given ≡ answer (with_keys (setting_of first.config r) (reading first before r).keys) (reading first before r).value now on datagram)) (Unit {0})

pub took-told : (text : List ℕ) (first : Subscriber) (r : ℕ) → IsOpenSubscriber text first → r < length first.config.readgroup → (before : List SubscriberStep) → AreSubscriberSteps first before
    → (now : ℕ) (datagram : List ℕ) (answers : List (Option (Result Taken Refusal))) (new : Subscriber) (P : List ℕ → Type 0) → HaveTaken (length (subscriber_after first before).groups.items) now datagram answers (subscriber_after first before) new
    → IsTaken (Took now datagram answers) r P → TookTold first r before now datagram P
took-told text first r opened low before are now datagram answers new P has taken =
    let old = subscriber_after first before in
    let h = stands-at text first r before opened low are in
    let c = came-alone (length old.groups.items) now r datagram answers old new h.listening (slice_get_within old.groups.items r h.listening h.at) has in
    record {
      given = c.given;
      taken = as-came r now datagram (slice_index_or answers r None) c.given P c.answer_is taken;
      tells = told c (is_for c.mid r r datagram) (for-alone old c.mid r datagram c.before) (reach c.mid r r datagram h.listening (c.before.at ∙ h.at));
    }
  where
    Is : Result Taken Refusal → Type 0
    Is given = (on : List Bool) × (given ≡ answer (with_keys (setting_of first.config r) (reading first before r).keys) (reading first before r).value now on datagram)

    told : (c : CameAlone r now datagram answers (subscriber_after first before) new) (b : Bool) → b ≡ takes_at (subscriber_after first before) r datagram → Tells b (Reaches c.mid r r datagram) (Misses c.mid r r datagram)
        → Tells (takes_at (subscriber_after first before) r datagram) (Is c.given) (Unit {0})
    told c b same (inl hit) = inl (sym same ∙ hit.0, answer-same text first r opened low before are now datagram c.left c.given c.mid c.next c.before c.listened hit.1.1)
    told c b same (inr miss) = inr (sym same ∙ miss.0, tt)

module _ (text : List ℕ) (first : Subscriber) (r : ℕ) (opened : IsOpenSubscriber text first) (low : r < length first.config.readgroup) (P : List ℕ → Type 0) (config : Config) (pasts : ℕ → List GroupDeed) (makes : (datagram : List ℕ) → P datagram → IsMade config pasts datagram) where
  abbrev pub S : Setting
  S = setting_of first.config r

  -- the call's answer is that of the plain reading
  pub answer-is : (before : List SubscriberStep) → AreSubscriberSteps first before → AreOwnKeys before r S.setup.keys → (now : ℕ) (datagram left : List ℕ) (is : Result Taken Refusal) (new : Subscriber)
      → HasListened r now datagram left (subscriber_after first before) new is → TakesNumber r datagram (subscriber_after first before) → (on : List Bool) × (is ≡ answer S (plain S (events first before r)) now on datagram)
  answer-is before are own now datagram left is new has takes =
      let told = answer-told text first r opened low before are now datagram left is new has takes in
      (told.0, told.1 ∙ ap (λ (x : Reading). answer (with_keys S x.keys) x.value now told.0 datagram) (plain-reading first r before own))

  -- a datagram that the read group took
  pub took-made : (list : List Event) (group now : ℕ) (datagram : List ℕ) (is : Result Taken Refusal) (on : List Bool) (opens : Opened) → is ≡ answer S (plain S list) now on datagram → group ≡ r
      → IsTaken (Came group now datagram is) r P → verdict S.group S.setup (accepted S list) datagram ≡ Ok opens → IsMade config pasts datagram
  took-made list group now datagram is on opens told hit has e =
      let G = plain S list in
      let opens_in : verdict S.group S.setup G.accepted datagram ≡ Ok opens = ap (λ (pairs : Accepted). verdict S.group S.setup pairs datagram) (plain-accepted S list) ∙ e in
      let so = told ∙ ap (λ (v : Result Opened Refusal). answer_on S G now on v) opens_in in
      makes datagram (ok-taken so)
    where
      ok-taken : is ≡ answer_on S (plain S list) now on (Ok opens) → P datagram
      ok-taken so = taken-with group now r datagram is _ P so hit has

  came-if : (list : List Event) (group now : ℕ) (datagram : List ℕ) (on : List Bool) (b : Bool) {Hit Miss : Type 0} → Tells b Hit Miss
      → (Hit → (opens : Opened) → verdict S.group S.setup (accepted S list) datagram ≡ Ok opens → IsMade config pasts datagram) → CameAsMade S config pasts list
      → CameAsMade S config pasts (cons_option (some_if b (befalls.Got now on datagram)) list)
  came-if list group now datagram on true (inl hit) own all = (own hit.1, all)
  came-if list group now datagram on true (inr miss) own all = absurd (let e = miss.0 in cc)
  came-if list group now datagram on false t own all = all

  stopped-if : (list : List Event) (b : Bool) (reader : ℕ) (why : Why) → CameAsMade S config pasts list → CameAsMade S config pasts (cons_option (some_if b (befalls.Stopped reader why)) list)
  stopped-if list true reader why all = all
  stopped-if list false reader why all = all

  came-on : (before : List SubscriberStep) → AreSubscriberSteps first before → AreOwnKeys before r S.setup.keys → (call : SubscriberCall) (new : Subscriber) → IsSubscriberCall call (subscriber_after first before) new → IsTaken call r P
      → CameAsMade S config pasts (events first before r) → CameAsMade S config pasts (cons_option (event_by call (subscriber_after first before) r) (events first before r))
  came-on before are own (Came group now datagram is) new has taken all =
      let old = subscriber_after first before in
      let list = events first before r in
      let h = stands-at text first r before opened low are in
      came-if list group now datagram (readers_on old r) (is_for old group r datagram) (reach old group r datagram h.listening h.at)
      (λ hit opens e.
      let told = answer-is before are own now datagram has.0 is new (subst (λ (k : ℕ). HasListened k now datagram has.0 old new is) hit.0 has.1) hit.1 in
      took-made list group now datagram is told.0 opens told.1 hit.0 taken e) all
  came-on before are own (Took now datagram answers) new has taken all =
      let old = subscriber_after first before in
      let list = events first before r in
      let t = took-told text first r opened low before are now datagram answers new P has taken in
      came-if list r now datagram (readers_on old r) (takes_at old r datagram) t.tells
      (λ told opens e.
      took-made list r now datagram t.given told.0 opens (told.1 ∙ ap (λ (x : Reading). answer (with_keys S x.keys) x.value now told.0 datagram) (plain-reading first r before own)) refl t.taken e) all
  came-on before are own (Expired now) new has taken all = all
  came-on before are own (Switched group reader on) new has taken all =
      stopped-if (events first before r) ((group == r) && not on) reader Restarted all
  came-on before are own (Renewed group keys) new has taken all = all
  came-on before are own (Only group number) new has taken all = all
  came-on before are own Refused new has taken all = all

  pub came-made : (steps : List SubscriberStep) → AreSubscriberSteps first steps → AreOwnKeys steps r S.setup.keys → TakenAre steps r P → CameAsMade S config pasts (events first steps r)
  came-made [] are own taken = tt
  came-made (step ∷ before) are own taken = came-on before are.2 own.1 step.call step.after are.1 taken.0 (came-made before are.2 own.1 taken.1)

-- ---- the two

module _ (ring : RingLaw) (text other : List ℕ) (pl : PublisherLife) (sl : SubscriberLife) (readers : ReadGroupPart) (r i g w : ℕ) (are : ArePaired text other pl sl readers r i g w) where
  abbrev p : Play
  p = play_of pl sl readers r i g w

  abbrev its_few : ℕ → Type 0
  its_few most = HasSentFew most pl g w

  pub came : CameAsMade (setting_by (config_in pl) readers) (config_in pl) (past_in pl) (events_in sl r)
  came =
      alike-came i (setting_in sl r) (setting_by (config_in pl) readers) are.alike (config_in pl) (past_in pl) (events_in sl r)
      (came-made other sl.first r are.subscriber.opened are.read_there (HasOffered pl.steps) (config_in pl) (past_in pl)
      (λ datagram has. offered-made text pl.first are.publisher.opened pl.steps are.publisher.steps_are datagram has) sl.steps are.subscriber.steps_are are.keys are.took)

  pub is-play : (most : ℕ) → HasSentFew most pl g w → IsPlay most p
  is-play most few = record {
    sound = are.publisher.opened.is.good.sound;
    fixed = are.publisher.opened.is.good.fixed;
    there = slice_get-get_or (config_in pl).group g no_group are.there;
    matched = are.matched;
    pasts = λ index group at. is-past ring text pl index group are.publisher are.rings at;
    came = came;
    restarts = are-restarts sl.first r sl.steps;
    few = few;
  }

  pub came-from : PlayLaws → (most : ℕ) → most ≤ 65536 → HasSentFew most pl g w → ComesFromWriter p
  came-from laws most le few = laws.comes most p le (is-play most few)

  -- what is kept in memory is the play's
  pub member-is : member_in sl r i ≡ its_member p
  member-is =
      ap (λ (x : Reading). member_at x.value.members i) (plain-reading sl.first r sl.steps are.keys)
      ∙ alike-member i (setting_in sl r) (setting_by (config_in pl) readers) are.alike (seated (config_in pl) readers i are.matched.within) (events_in sl r)

  pub keeps-by : PlayLaws → HasSentFew 16385 pl g w → MemberIs (its_way p) (its_marks p) (member_in sl r i)
  keeps-by laws few = subst (MemberIs (its_way p) (its_marks p)) (sym member-is) (laws.keeps p (is-play 16385 few))

  pub whole-held : PlayLaws → MetaLaw → (row : List DataValue) → IsCounted pl → HasSentFew 16385 pl g w → (member_in sl r i).kept.row ≡ Some row → HoldsNamed pl g w (member_in sl r i).kept.number row
  whole-held laws law row counted few e =
      let own : (its_member p).kept.row ≡ Some row = ap (λ (m : MemberValue). m.kept.row) (sym member-is) ∙ e in
      let h = laws.holds p row (is-play 16385 few) own in
      subst (λ (m : MemberValue). HoldsNamed pl g w m.kept.number row) (sym member-is)
      (named-sent text pl g w are.publisher counted are.there are.matched.reads.within (its_meta p) (meta-law law (config_in pl) readers i (group_at (config_in pl) g) w are.matched) (its_member p).kept.number row h.place h.sent h.number_is h.logged.named)

  -- as the reader in memory tells it
  pub memory-holds : PlayLaws → MetaLaw → (reader : Reader) (row : List DataValue) → IsCounted pl → HasSentFew 16385 pl g w → IsReaderAt r i (subscriber_in sl) reader
      → (let kept = kept_by (seat_at (setting_in sl r).seats i).meta.fields reader in kept.row ≡ Some row → HoldsNamed pl g w kept.number row)
  memory-holds laws law reader row counted few has =
      let same = keeps-member other sl.first r i sl.steps are.subscriber.opened are.read_there are.subscriber.steps_are reader has in
      subst (λ (k : Kept). k.row ≡ Some row → HoldsNamed pl g w k.number row) (sym same) (whole-held laws law row counted few)

-- ---- of one configuration

some-ok : {A B : Type 0} (x y : A) → Path (Result A B) (Ok x) (Ok y) → x ≡ y
some-ok x y e = cc

pub same-config : (text : List ℕ) (publisher : Publisher) (subscriber : Subscriber) → IsOpenPublisher text publisher → IsOpenSubscriber text subscriber → subscriber.config ≡ publisher.config
same-config text publisher subscriber one other = some-ok subscriber.config publisher.config (sym other.config_is ∙ one.config_is)

pub one-text : (text : List ℕ) (pl : PublisherLife) (sl : SubscriberLife) (r i g w : ℕ) → ArePairedByOne text pl sl r i g w → ArePaired text text pl sl (read_group_at (config_in pl) r) r i g w
one-text text pl sl r i g w are =
    let same : sl.first.config ≡ config_in pl = same-config text pl.first sl.first are.publisher.opened are.subscriber.opened in
    record {
      publisher = are.publisher;
      subscriber = are.subscriber;
      there = are.there;
      read_there = are.read_there;
      alike = alike-same i (setting_in sl r) (setting_of (config_in pl) r) (ap (λ (c : Config). setting_of c r) same)
          (seated (config_in pl) (read_group_at (config_in pl) r) i are.matched.within);
      matched = are.matched;
      rings = are.rings;
      keys = are.keys;
      took = are.took;
    }
