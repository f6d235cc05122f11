-- A reader that was reset holds what its read group took since.
use Rattle.std.proofs.Common.{◌≡◌, refl, sym, ap, ◌∙◌, subst, ℕ, ◌<◌, Bool, true, false, List, [], ◌∷◌, ◌++◌, length, inl, inr, Some, eq-eqb}
use Rattle.std.specs.Prelude.{◌==◌, ◌&&◌, not, slice_get, Ok}
use Rattle.std.specs.List.{cons_option}
use Rattle.std.proofs.lemmas.Option.{slice_get-get_or}
use Rattle.dataset_meta.specs.DataValues.{DataValue}
use Rattle.dataset_reader.specs.Kept.{Kept}
use Rattle.dataset_reader.specs.Reader.{kept_by}
use Rattle.dataset_reader.specs.declared.reader.Reader.{Reader}
use Rattle.pubsub_model.specs.declared.reading.Why.TheVariants.{Restarted}
use Rattle.message_guard.specs.Acceptance.{Accepted}
use Rattle.ps_config.specs.declared.parts.Config.{Config}
use Rattle.ps_config.specs.declared.parts.GroupPart.{GroupPart}
use Rattle.ps_config.specs.declared.parts.ReadGroupPart.{ReadGroupPart}
use Rattle.reader_group.specs.Agreeing.{MemberIs}
use Rattle.reader_group.specs.Arrivals.{Mark, Way, accepted, arrivals_in}
use Rattle.reader_group.specs.Members.{no_seat, seat_at}
use Rattle.reader_group.specs.Opening.{Opened, verdict}
use Rattle.reader_group.specs.Plain as befalls
use Rattle.reader_group.specs.Plain.{Event, Setting, answer, member_at, plain, with_keys}
use Rattle.reader_group.specs.Settings.{setting_by, setting_of}
use Rattle.reader_group.proofs.Answered.{StepKeeps}
use Rattle.writer_group.specs.Parts.{group_at, no_group}
use Rattle.writer_group.specs.Payloads.{meta_at}
use Rattle.writer_group.specs.Turns.{GroupDeed, writer_past}
use Rattle.session_laws.specs.Below.{RingLaw, TurnLaws}
use Rattle.session_laws.specs.Pasts.{IsMade, IsPast, settings_at}
use Rattle.session_laws.specs.Plays.{Play, its_member, its_setting, its_way}
use Rattle.device.specs.declared.subscriber.Subscriber.{Subscriber}
use Rattle.device.specs.Readings.{IsReaderAt}
use Rattle.device.specs.Sides.{HasListened}
use Rattle.device_laws.specs.Alike.{ReadsAlike}
use Rattle.device_laws.specs.Devices.{HoldsWhole, IsCounted, member_in, play_of}
use Rattle.device_laws.specs.Placed.{AreAllNear, ComesPlaced}
use Rattle.device_laws.specs.Publishing.{HasOffered, PublisherLife, config_in}
use Rattle.device_laws.specs.Since.{ArePairedSince, ComesAnsweredSince}
use Rattle.device_laws.specs.Subscribing.{AreOwnKeys, AreSubscriberSteps, Came, Expired, IsOpenSubscriber, IsSubscriberCall, IsTaken, Only, Reading, Refused, Renewed, SubscriberCall, SubscriberLife, SubscriberStep, Switched, TakenAre, Took, event_by, events, events_in, is_for, readers_on, setting_in, some_if, subscriber_after, subscriber_in, takes_at}
use Rattle.device_laws.specs.Turning.{past_in}
use Rattle.device_laws.proofs.Alike.{alike-accepted, alike-member, alike-verdict, seated}
use Rattle.device_laws.proofs.AnyLength.{held-since}
use Rattle.device_laws.proofs.Heard.{keeps-member, plain-reading, stands-at}
use Rattle.device_laws.proofs.Offered.{offered-made}
use Rattle.device_laws.proofs.Pairs.{answer-is, are-restarts, took-made, took-told}
use Rattle.device_laws.proofs.PlacedItems.{CameSince, reset-list, since-list}
use Rattle.device_laws.proofs.PlacedReads.{placed-read}
use Rattle.device_laws.proofs.Publishes.{is-past}
use Rattle.device_laws.proofs.Reaching.{Tells, reach}
use Rattle.device_laws.proofs.Rows.{has-rows}
use Rattle.device_laws.proofs.WholeRows.{whole-sent}

-- ---- what befell a read group since some calls

module _ (text : List ℕ) (first : Subscriber) (r i : ℕ) (opened : IsOpenSubscriber text first) (low : r < length first.config.readgroup) (P : List ℕ → Type 0) (config : Config) (pasts : ℕ → List GroupDeed)
    (makes : (datagram : List ℕ) → P datagram → IsMade config pasts datagram) (theirs : Setting) (alike : ReadsAlike i (setting_of first.config r) theirs) (mid : List SubscriberStep) where
  abbrev ours : Setting
  ours = setting_of first.config r

  abbrev until : List Event
  until = events first mid r

  -- these befell it since then
  pub record EventsSince (list : List Event) : Type 0 where
    pub more : List Event
    pub is : list ≡ more ++ until
    pub came : CameSince theirs config pasts more until

  got-if : (list : List Event) (now : ℕ) (on : List Bool) (datagram : List ℕ) (b : Bool) {Hit Miss : Type 0} → Tells b Hit Miss
      → (Hit → (opens : Opened) → verdict ours.group ours.setup (accepted ours list) datagram ≡ Ok opens → IsMade config pasts datagram) → EventsSince list → EventsSince (cons_option (some_if b (befalls.Got now on datagram)) list)
  got-if list now on datagram true (inl hit) own h = record {
    more = befalls.Got now on datagram ∷ h.more;
    is = ap (λ (l : List Event). befalls.Got now on datagram ∷ l) h.is;
    came = (
      λ opens e.
          own hit.1 opens
          (alike-verdict i ours theirs alike (accepted ours list) datagram
          ∙ ap (λ (pairs : Accepted). verdict theirs.group theirs.setup pairs datagram) (alike-accepted i ours theirs alike list ∙ ap (λ (l : List Event). accepted theirs l) h.is)
          ∙ e),
      h.came,
    );
  }
  got-if list now on datagram true (inr miss) own h = absurd (let e = miss.0 in cc)
  got-if list now on datagram false t own h = h

  stopped-if : (list : List Event) (b : Bool) (reader : ℕ) → EventsSince list → EventsSince (cons_option (some_if b (befalls.Stopped reader Restarted)) list)
  stopped-if list true reader h = record { more = befalls.Stopped reader Restarted ∷ h.more; is = ap (λ (l : List Event). befalls.Stopped reader Restarted ∷ l) h.is; came = h.came }
  stopped-if list false reader h = h

  since-on : (before : List SubscriberStep) → AreSubscriberSteps first before → AreOwnKeys before r ours.setup.keys → (call : SubscriberCall) (new : Subscriber) → IsSubscriberCall call (subscriber_after first before) new → IsTaken call r P
      → EventsSince (events first before r) → EventsSince (cons_option (event_by call (subscriber_after first before) r) (events first before r))
  since-on before are own (Came group now datagram is) new has taken h =
      let old = subscriber_after first before in
      let list = events first before r in
      let at = stands-at text first r before opened low are in
      got-if list now (readers_on old r) datagram (is_for old group r datagram) (reach old group r datagram at.listening at.at)
      (λ hit opens e.
      let told = answer-is text first r opened low P config pasts makes before are own now datagram has.0 is new (subst (λ (k : ℕ). HasListened k now datagram has.0 old new is) hit.0 has.1) hit.1 in
      took-made text first r opened low P config pasts makes list group now datagram is told.0 opens told.1 hit.0 taken e) h
  since-on before are own (Took now datagram answers) new has taken h =
      let old = subscriber_after first before in
      let list = events first before r in
      let t = took-told text first r opened low before are now datagram answers new P has taken in
      got-if list now (readers_on old r) datagram (takes_at old r datagram) t.tells
      (λ told opens e.
      took-made text first r opened low P config pasts makes list r now datagram t.given told.0 opens
      (told.1 ∙ ap (λ (x : Reading). answer (with_keys ours x.keys) x.value now told.0 datagram) (plain-reading first r before own)) refl t.taken e) h
  since-on before are own (Expired now) new has taken h =
      record { more = befalls.Expired now ∷ h.more; is = ap (λ (l : List Event). befalls.Expired now ∷ l) h.is; came = h.came }
  since-on before are own (Switched group reader on) new has taken h = stopped-if (events first before r) ((group == r) && not on) reader h
  since-on before are own (Renewed group keys) new has taken h = h
  since-on before are own (Only group number) new has taken h = h
  since-on before are own Refused new has taken h = h

  pub events-since : (more : List SubscriberStep) → AreSubscriberSteps first (more ++ mid) → AreOwnKeys (more ++ mid) r ours.setup.keys → TakenAre more r P → EventsSince (events first (more ++ mid) r)
  events-since [] are own taken = record { more = []; is = refl; came = tt }
  events-since (step ∷ more) are own taken = since-on (more ++ mid) are.2 own.1 step.call step.after are.1 taken.0 (events-since more are.2 own.1 taken.1)

-- ---- the two

module _ (ring : RingLaw) (laws : TurnLaws) (text other : List ℕ) (pl : PublisherLife) (sl : SubscriberLife) (readers : ReadGroupPart) (r i g w : ℕ) (before : List SubscriberStep) (are : ArePairedSince text other pl sl readers r i g w before) where
  abbrev p : Play
  p = play_of pl sl readers r i g w

  abbrev config : Config
  config = config_in pl

  abbrev part : GroupPart
  part = group_at config g

  abbrev way : Way
  way = its_way p

  abbrev mid : List SubscriberStep
  mid = record { call = Switched r i false; after = are.reset } ∷ before

  reset-event : events sl.first mid r ≡ befalls.Stopped i Restarted ∷ events sl.first before r
  reset-event = ap (λ (b : Bool). cons_option (some_if (b && true) (befalls.Stopped i Restarted)) (events sl.first before r)) (eq-eqb r r refl)

  made : (datagram : List ℕ) → HasOffered pl.steps datagram → IsMade config (past_in pl) datagram
  made datagram has = offered-made text pl.first are.publisher.opened pl.steps are.publisher.steps_are datagram has

  pub since-there : (earlier : List Mark) → ComesPlaced (its_setting p) way (events sl.first before r) earlier → (list : List Mark) × ComesAnsweredSince p list
  since-there earlier placed =
      let steps = subst (AreSubscriberSteps sl.first) are.steps_are are.subscriber.steps_are in
      let keys = subst (λ (s : List SubscriberStep). AreOwnKeys s r (setting_in sl r).setup.keys) are.steps_are are.keys in
      let more = events-since other sl.first r i are.subscriber.opened are.read_there (HasOffered pl.steps) config (past_in pl) made (setting_by config readers) are.alike mid are.since steps keys are.took in
      let sound = are.publisher.opened.is.good.sound in
      let there = slice_get-get_or config.group g no_group are.there in
      let pasts : (index : ℕ) (group : GroupPart) → slice_get config.group index ≡ Some group → IsPast config group (past_in pl index) = λ index group at. is-past ring text pl index group are.publisher are.rings at in
      let reset = reset-list laws config part readers i w are.matched g (past_in pl) sound there pasts way refl (events sl.first before r) earlier placed in
      let h =
      since-list laws config part readers i w are.matched g (past_in pl) sound there pasts way refl more.more (befalls.Stopped i Restarted ∷ events sl.first before r)
      (subst (CameSince (setting_by config readers) config (past_in pl) more.more) reset-event more.came) reset in
      let all : more.more ++ befalls.Stopped i Restarted ∷ events sl.first before r ≡ events_in sl r =
      ap (λ (l : List Event). more.more ++ l) (sym reset-event) ∙ sym more.is ∙ ap (λ (s : List SubscriberStep). events sl.first s r) (sym are.steps_are) in
      (h.list, record { placed = subst (λ (l : List Event). ComesPlaced (its_setting p) way l h.list) all h.placed; items = h.sent.items })

  member-is : member_in sl r i ≡ its_member p
  member-is =
      ap (λ (x : Reading). member_at x.value.members i) (plain-reading sl.first r sl.steps are.keys)
      ∙ alike-member i (setting_in sl r) (setting_by config readers) are.alike (seated config readers i are.matched.within) (events_in sl r)

  pub since-keeps : StepKeeps → (list : List Mark) → ComesAnsweredSince p list → AreAllNear p list → MemberIs way list (member_in sl r i)
  since-keeps step list comes near =
      let seat = slice_get-get_or (its_setting p).seats i no_seat (seated config readers i are.matched.within) in
      let at = placed-read step (its_setting p) way seat (events_in sl r) list (are-restarts sl.first r sl.steps) comes.placed (record { items = near.items; chunks = near.chunks }) in
      subst (MemberIs way list) (sym member-is) (record { keeps = at.keeps; joins = at.joins; seen = at.seen; late = at.late; ready = at.ready })

  pub since-holds : StepKeeps → IsCounted pl → (list : List Mark) → ComesAnsweredSince p list → AreAllNear p list → (reader : Reader) (row : List DataValue) → IsReaderAt r i (subscriber_in sl) reader
      → (let kept = kept_by (seat_at (setting_in sl r).seats i).meta.fields reader in kept.row ≡ Some row → HoldsWhole pl g w kept.number row)
  since-holds step counted list comes near reader row has =
      let kept = (member_in sl r i).kept in
      let seat = way.seat in
      let same = keeps-member other sl.first r i sl.steps are.subscriber.opened are.read_there are.subscriber.steps_are reader has in
      let rows = has-rows text pl.first g w are.publisher.opened are.there are.matched.reads.within pl.steps are.publisher.steps_are in
      subst (λ (k : Kept). k.row ≡ Some row → HoldsWhole pl g w k.number row) (sym same)
      (λ e.
      let sent = held-since seat.meta (settings_at part w) (writer_past w (past_in pl g)) (meta_at part config.dataset w) rows (arrivals_in list) seat.part.numbering kept row comes.items (since-keeps step list comes near).keeps e in
      whole-sent text pl g w are.publisher counted are.there are.matched.reads.within seat.meta (laws.meta config readers i part w are.matched) kept.number row sent.place sent.sent sent.number_is)
