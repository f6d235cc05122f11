-- A life in which a read group takes nothing but what was sent: what it took was made by the key group's sender, and the reader has its records. So was what came signed
-- under a key that the group had then, where the link delivers nothing else that is.
use Rattle.std.proofs.Common.{◌≡◌, refl, sym, ap, ◌∙◌, subst, arith, ℕ, ◌<◌, Bool, true, false, List, [], ◌∷◌, ◌++◌, length, map, Option, Some, Ok, All, Contains, append_assoc, eq-eqb, eqb-true}
use Rattle.std.specs.Prelude.{◌==◌, fold, if◌then◌else◌, slice_get}
use Rattle.std.specs.Option.{option_map_or}
use Rattle.std.proofs.lemmas.List.Elements.{All-contains_itself, Contains-append_right}
use Rattle.std.proofs.lemmas.List.Sums.{fold-append}
use Rattle.std.proofs.lemmas.Option.{slice_get-get_or}
use Rattle.ua_base.specs.Journal.{Entry, Sent, SendFailed, Got, Empty, Long, ReceiveFailed}
use Rattle.group_keys.specs.declared.key_set.KeySet.{KeySet}
use Rattle.message_guard.specs.Modes.{is_secured}
use Rattle.message_guard.specs.Protection.{keys_in}
use Rattle.ps_config.specs.declared.parts.ReadGroupPart.{ReadGroupPart}
use Rattle.ps_config.specs.Headers as configured
use Rattle.ps_config.specs.Rings.{key_set}
use Rattle.ps_config.specs.Sound.{IsKeyed}
use Rattle.reader_group.specs.Agreeing.{AreRestarts, ChunksNear, IsWayOf, MemberIs, SendsRise}
use Rattle.reader_group.specs.Arrivals.{Mark, Way, arrivals_in, marks}
use Rattle.reader_group.specs.Opening.{Opened}
use Rattle.reader_group.specs.Plain.{Setting, PlainGroup, Event, member_at, plain, verdict_in, with_keys}
use Rattle.reader_group.specs.Settings.{group_at as read_group_at, keygroup_at, setting_of, setup_by}
use Rattle.reader_group.specs.Signed.{TakesSignedAlone}
use Rattle.reader_group.proofs.Made.{ring-keys}
use Rattle.writer_group.specs.Parts.{group_at, no_group}
use Rattle.writer_group.specs.Turns.{GroupDeed}
use Rattle.session_model.specs.Deeds.{component_at, group_past}
use Rattle.session_model.specs.Events.{got_on, reader_indexes, readers_on, receives}
use Rattle.session_model.specs.Lives.{Lived, Renewed, Stepped, account_in, befalls, reading_after, steps_in}
use Rattle.session_model.specs.Readings.{Reading, read_on, reads_with, rekeyed_if, setting_in}
use Rattle.session_model.specs.Steps.{Plan, Step, Enable, Disable, Append, Tick, Pump, moment_of}
use Rattle.session_laws.specs.Below.{Laws}
use Rattle.session_laws.specs.Pasts.{IsMade}
use Rattle.session_laws.specs.Plays.{IsAnswerBy, ItemsAre}
use Rattle.session_laws.specs.Readers.{IsMadeFor, Making}
use Rattle.session_laws.proofs.Versions.Senders.{group-keyed}
use Rattle.turn_laws.specs.Anew.{answered_in}
use Rattle.turn_laws.specs.Lives.{ComesFromSenderIn, HasItsRecordsIn, IsHonestIn, IsHonestOn, IsMadeBySenderIn, IsSignedLife, SignedAreMadeIn, TakenAreMadeIn, TakesIn, TakesWhatWasSentIn, TokensNameKeys, life_way, marks_in, sets_in_life}
use Rattle.turn_laws.specs.Makers.{SignedWereMade}
use Rattle.turn_laws.specs.Sent.{NamesPlaces, place_near, sends_in}
use Rattle.turn_laws.proofs.Befalling.{got-if, stopped-keeps}
use Rattle.turn_laws.proofs.Holding.{made_with}
use Rattle.turn_laws.proofs.LifeKeys.{earlier-sets, new-sets}
use Rattle.turn_laws.proofs.LifeMade.{life-made, step-stays}
use Rattle.turn_laws.proofs.LifeReading.{IsRead, IsReadWith, TakenWereMadeOn, came-by, goes-made, goes-read, goes-taken, read-none, signed-by}
use Rattle.turn_laws.proofs.LifeTurns.{life-knows, life-turns}
use Rattle.turn_laws.proofs.Naming.{near-names, near-numbers}
use Rattle.turn_laws.proofs.Rings.{AreRingTurns, KnowsSenders, secured-so}
use Rattle.turn_laws.proofs.Sessions.{seat-there}
use Rattle.turn_laws.proofs.Sharing.{life-rise}
use Rattle.turn_laws.proofs.Signed.{SignedLaw, events-contents, held, made-for}

-- ---- what a read group takes with fewer steps, and over a link that delivers nothing else that is signed

sent-before : (p : Plan) (r : ℕ) (lived : Lived) (before : List Lived) → TakesWhatWasSentIn p r (lived ∷ before) → TakesWhatWasSentIn p r before
sent-before p r lived before h = λ later earlier first behind datagram e takes. h (lived ∷ later) earlier first behind datagram (ap (λ (l : List Lived). lived ∷ l) e) takes

honest-at : (p : Plan) (r : ℕ) (later before : List Lived) → IsHonestIn p r (later ++ before) → IsHonestIn p r before
honest-at p r [] before honest = honest
honest-at p r (Stepped step ∷ later) before honest = honest-at p r later before honest.1
honest-at p r (Renewed keygroup sets ∷ later) before honest = honest-at p r later before honest

in-middle : (first behind : List Entry) (entry : Entry) → Contains (first ++ entry ∷ behind) entry
in-middle first behind entry = Contains-append_right first (entry ∷ behind) entry (0, omega arith, refl)

pub honest-takes-in : TakesSignedAlone → (p : Plan) (r : ℕ) (life : List Lived) → is_secured (setting_of p.config r).setup.mode ≡ true → IsHonestIn p r life → TakesWhatWasSentIn p r life
honest-takes-in signed p r life secured honest = λ later before first behind datagram e takes.
    let reading = (account_in p (Stepped (Pump first) ∷ before)).readings r in
    let setting = setting_in p.config r reading in
    let here = honest-at p r later (Stepped (Pump (first ++ Got datagram ∷ behind)) ∷ before) (subst (IsHonestIn p r) e honest) in
    here.0 datagram (in-middle first behind (Got datagram)) (signed setting.group setting.setup reading.value.accepted datagram takes.opened takes.opens secured)

-- ---- what a step brings

module _ (p : Plan) (r : ℕ) (pasts : ℕ → List GroupDeed) where
  -- with the keys that the group has, each that it took was made
  abbrev AreTaken : List Lived → List Event → Type 0
  AreTaken before events =
      let reading = (account_in p before).readings r in TakenWereMadeOn (setting_in p.config r reading) p.config pasts reading.value events

  -- and each that came signed
  abbrev AreSigned : List Lived → List Event → Type 0
  AreSigned before events = SignedWereMade (setting_in p.config r ((account_in p before).readings r)) p.config pasts events

  -- what was sent was made
  abbrev AllMade : List Entry → Type 0
  AllMade entries = (datagram : List ℕ) → Contains entries (Sent datagram) → IsMade p.config pasts datagram

  abbrev brought : Step → List Lived → List Event
  brought step before = befalls p.config (steps_in before) step r

  before-made : (step : Step) (before : List Lived) → AllMade (account_in p (Stepped step ∷ before)).journal → AllMade (account_in p before).journal
  before-made step before sent = λ datagram has. sent datagram (step-stays p step before (Sent datagram) has)

  -- ---- each cut by hand is a restart

  step-restarts : (step : Step) (before : List Lived) → AreRestarts (brought step before)
  step-restarts (Enable id) before = tt
  step-restarts (Disable id) before = stopped-keeps AreRestarts (λ i earlier h. (refl, h)) (component_at p.config id) r (reader_indexes p.config r) [] tt
  step-restarts (Append set field) before = tt
  step-restarts (Tick ms closing samples done) before = tt
  step-restarts (Pump entries) before =
      got-if AreRestarts (receives p.config (steps_in before) r) (moment_of (steps_in before)) (readers_on p.config (steps_in before) r) entries [] (λ datagram has earlier h. h) tt

  -- ---- what came signed, over a link that delivers nothing else that is

  step-signed : (step : Step) (before : List Lived) → IsHonestOn (account_in p before) r step → AllMade (account_in p before).journal → AreSigned before (brought step before)
  step-signed (Enable id) before honest sent = tt
  step-signed (Disable id) before honest sent = stopped-keeps (AreSigned before) (λ i earlier h. h) (component_at p.config id) r (reader_indexes p.config r) [] tt
  step-signed (Append set field) before honest sent = tt
  step-signed (Tick ms closing samples done) before honest sent = tt
  step-signed (Pump entries) before honest sent =
      got-if (AreSigned before) (receives p.config (steps_in before) r) (moment_of (steps_in before)) (readers_on p.config (steps_in before) r) entries []
      (λ datagram has earlier h. ((λ signed. sent datagram (honest datagram has signed)), h)) tt

  -- ---- what it took

  module _ (before : List Lived) (sent : AllMade (account_in p before).journal) where
    abbrev got : List Event → Entry → List Event
    got = got_on (moment_of (steps_in before)) (readers_on p.config (steps_in before) r)

    abbrev its_reading : Reading
    its_reading = (account_in p before).readings r

    abbrev AreSentBy : List Entry → Type 0
    AreSentBy entries =
        (first behind : List Entry) (datagram : List ℕ) → entries ≡ first ++ Got datagram ∷ behind → TakesIn p r before first datagram → Contains (account_in p before).journal (Sent datagram)

    one-taken : (entries first rest : List Entry) (entry : Entry) → receives p.config (steps_in before) r ≡ true → entries ≡ first ++ entry ∷ rest → AreSentBy entries → AreTaken before (fold got [] first)
        → AreTaken before (got (fold got [] first) entry)
    one-taken entries first rest (Got datagram) operational e h taken =
        let opened_so : (opened : Opened) → verdict_in (setting_in p.config r its_reading) (read_on (setting_in p.config r its_reading) its_reading.value (fold got [] first)) datagram ≡ Ok opened → IsMade p.config pasts datagram =
        λ opened is.
        sent datagram
        (h first rest datagram e
        (record {
          operational = operational;
          opened = opened;
          opens = subst (λ (b : Bool). verdict_in (setting_in p.config r its_reading) (read_on (setting_in p.config r its_reading) its_reading.value (if b then fold got [] first else [])) datagram ≡ Ok opened) (sym operational) is;
        })) in
        (opened_so, taken)
    one-taken entries first rest (Sent datagram) operational e h taken = taken
    one-taken entries first rest SendFailed operational e h taken = taken
    one-taken entries first rest Empty operational e h taken = taken
    one-taken entries first rest (Long len) operational e h taken = taken
    one-taken entries first rest ReceiveFailed operational e h taken = taken

    got-taken : (entries first rest : List Entry) → receives p.config (steps_in before) r ≡ true → entries ≡ first ++ rest → AreSentBy entries → AreTaken before (fold got [] first) → AreTaken before (fold got (fold got [] first) rest)
    got-taken entries first [] operational e h taken = taken
    got-taken entries first (entry ∷ rest) operational e h taken =
        let more : fold got [] (first ++ entry ∷ []) ≡ got (fold got [] first) entry = fold-append got [] first (entry ∷ []) in
        subst (λ (befell : List Event). AreTaken before (fold got befell rest)) more
        (got-taken entries (first ++ entry ∷ []) rest operational (e ∙ sym (append_assoc first (entry ∷ []) rest)) h
        (subst (AreTaken before) (sym more) (one-taken entries first rest entry operational e h taken)))

    pump-taken : (entries : List Entry) (b : Bool) → receives p.config (steps_in before) r ≡ b → AreSentBy entries → AreTaken before (if b then fold got [] entries else [])
    pump-taken entries true operational h = got-taken entries [] entries operational refl h tt
    pump-taken entries false off h = tt

  step-taken : (step : Step) (before : List Lived) → TakesWhatWasSentIn p r (Stepped step ∷ before) → AllMade (account_in p before).journal → AreTaken before (brought step before)
  step-taken (Enable id) before takes sent = tt
  step-taken (Disable id) before takes sent = stopped-keeps (AreTaken before) (λ i earlier h. h) (component_at p.config id) r (reader_indexes p.config r) [] tt
  step-taken (Append set field) before takes sent = tt
  step-taken (Tick ms closing samples done) before takes sent = tt
  step-taken (Pump entries) before takes sent =
      pump-taken before sent entries (receives p.config (steps_in before) r) refl
      (λ first behind datagram e is. takes [] before first behind datagram (ap (λ (l : List Entry). Stepped (Pump l) ∷ before) e) is)

-- ---- the reading of a life

module _ (p : Plan) (r k : ℕ) (secured : is_secured (setting_of p.config r).setup.mode ≡ true) (reads : (read_group_at p.config r).keygroup ≡ Some k) (all : List KeySet) (named : TokensNameKeys all) (pasts : ℕ → List GroupDeed)
    (way : Way) where
  abbrev base : Setting
  base = setting_of p.config r

  abbrev IsSoFar : Reading → List Mark → Type 0
  IsSoFar reading list = IsReadWith base secured all named p.config pasts way reading list

  -- the keys that the group has at first
  first-keys : base.setup.keys ≡ map keys_in (map key_set (keygroup_at p.config k).key)
  first-keys = ap (λ (o : Option ℕ). (setup_by p.config (read_group_at p.config r) o).keys) reads ∙ sym (ring-keys (keygroup_at p.config k).key)

  -- a ring for its key group
  same-group : (keygroup : ℕ) → reads_with (read_group_at p.config r) keygroup ≡ true → (keygroup == k) ≡ true
  same-group keygroup e =
      let other : k ≡ keygroup = eqb-true k keygroup (sym (ap (λ (o : Option ℕ). option_map_or (λ (other : ℕ). other == keygroup) o false) reads) ∙ e) in
      eq-eqb keygroup k (sym other)

  rekeyed : (b : Bool) (keygroup : ℕ) (sets earlier : List KeySet) (reading : Reading) (list : List Mark) → (b ≡ true → (keygroup == k) ≡ true) → All (Contains all) (if keygroup == k then sets ++ earlier else earlier) → IsSoFar reading list
      → IsSoFar (rekeyed_if b (map keys_in sets) reading) list
  rekeyed true keygroup sets earlier reading list is ones h = record { sets = sets; among = new-sets (Contains all) (keygroup == k) sets earlier (is refl) ones; keys = refl; read = h.read }
  rekeyed false keygroup sets earlier reading list is ones h = h

  -- where a step leaves it
  gone : (step : Step) (before : List Lived) → TakesWhatWasSentIn p r (Stepped step ∷ before) → AllMade p r pasts (account_in p before).journal → IsSoFar ((account_in p before).readings r) (marks_in p r way before)
      → IsSoFar (reading_after p.config (steps_in before) step (account_in p before) r) (marks_in p r way (Stepped step ∷ before))
  gone step before takes sent h = record {
    sets = h.sets;
    among = h.among;
    keys = h.keys;
    read = goes-read base secured all named p.config pasts way ((account_in p before).readings r) (marks_in p r way before) (befalls p.config (steps_in before) step r) (step-taken p r pasts step before takes sent)
        (step-restarts p r pasts step before) h;
  }

  pub life-read : (life : List Lived) → TakesWhatWasSentIn p r life → AllMade p r pasts (account_in p life).journal → All (Contains all) (sets_in_life p.config k life) → IsSoFar ((account_in p life).readings r) (marks_in p r way life)
  life-read [] takes sent ones = record { sets = map key_set (keygroup_at p.config k).key; among = ones; keys = first-keys; read = read-none base secured all named p.config pasts way (plain base []) refl }
  life-read (Stepped (Enable id) ∷ before) takes sent ones = life-read before (sent-before p r (Stepped (Enable id)) before takes) (before-made p r pasts (Enable id) before sent) ones
  life-read (Stepped (Disable id) ∷ before) takes sent ones =
      let sent_before = before-made p r pasts (Disable id) before sent in gone (Disable id) before takes sent_before (life-read before (sent-before p r (Stepped (Disable id)) before takes) sent_before ones)
  life-read (Stepped (Append set field) ∷ before) takes sent ones = life-read before (sent-before p r (Stepped (Append set field)) before takes) (before-made p r pasts (Append set field) before sent) ones
  life-read (Stepped (Tick ms closing samples done) ∷ before) takes sent ones =
      let sent_before = before-made p r pasts (Tick ms closing samples done) before sent in
      gone (Tick ms closing samples done) before takes sent_before (life-read before (sent-before p r (Stepped (Tick ms closing samples done)) before takes) sent_before ones)
  life-read (Stepped (Pump entries) ∷ before) takes sent ones =
      let sent_before = before-made p r pasts (Pump entries) before sent in gone (Pump entries) before takes sent_before (life-read before (sent-before p r (Stepped (Pump entries)) before takes) sent_before ones)
  life-read (Renewed keygroup sets ∷ before) takes sent ones =
      let earlier = sets_in_life p.config k before in
      rekeyed (reads_with (read_group_at p.config r) keygroup) keygroup sets earlier ((account_in p before).readings r) (marks_in p r way before) (λ is. same-group keygroup is) ones
      (life-read before (sent-before p r (Renewed keygroup sets) before takes) sent (earlier-sets (Contains all) (keygroup == k) sets earlier ones))

  module _ (m : Making) (made_for : (datagram : List ℕ) → IsMade p.config pasts datagram → IsMadeFor m (with_keys base (map keys_in all)) way datagram) where
    pub life-taken : (life : List Lived) → TakesWhatWasSentIn p r life → AllMade p r pasts (account_in p life).journal → All (Contains all) (sets_in_life p.config k life) → TakenAreMadeIn m p r way life
    life-taken [] takes sent ones = tt
    life-taken (Stepped step ∷ before) takes sent ones =
        let sent_before = before-made p r pasts step before sent in
        let takes_before = sent-before p r (Stepped step) before takes in (
          goes-taken base secured all named p.config pasts way m made_for ((account_in p before).readings r) (marks_in p r way before) (befalls p.config (steps_in before) step r) (step-taken p r pasts step before takes sent_before)
              (life-read before takes_before sent_before ones),
          life-taken before takes_before sent_before ones,
        )
    life-taken (Renewed keygroup sets ∷ before) takes sent ones =
        life-taken before (sent-before p r (Renewed keygroup sets) before takes) sent (earlier-sets (Contains all) (keygroup == k) sets (sets_in_life p.config k before) ones)

    pub life-signed : (life : List Lived) → TakesWhatWasSentIn p r life → IsHonestIn p r life → AllMade p r pasts (account_in p life).journal → All (Contains all) (sets_in_life p.config k life) → SignedAreMadeIn m p r way life
    life-signed [] takes honest sent ones = tt
    life-signed (Stepped step ∷ before) takes honest sent ones =
        let sent_before = before-made p r pasts step before sent in
        let takes_before = sent-before p r (Stepped step) before takes in (
          goes-made base secured all named p.config pasts way m made_for ((account_in p before).readings r) (marks_in p r way before) (befalls p.config (steps_in before) step r) (step-signed p r pasts step before honest.0 sent_before)
              (life-read before takes_before sent_before ones),
          life-signed before takes_before honest.1 sent_before ones,
        )
    life-signed (Renewed keygroup sets ∷ before) takes honest sent ones =
        life-signed before (sent-before p r (Renewed keygroup sets) before takes) honest sent (earlier-sets (Contains all) (keygroup == k) sets (sets_in_life p.config k before) ones)

-- ---- the laws

module _ (laws : Laws) (most : ℕ) (p : Plan) (r i g w k : ℕ) (life : List Lived) (is : IsSignedLife most p r i g w k life) where
  abbrev readers : ReadGroupPart
  readers = read_group_at p.config r

  abbrev sent : ℕ → List (ℕ × ℕ)
  sent = sends_in p.config k g w (account_in p life).deeds

  abbrev sets : List KeySet
  sets = sets_in_life p.config k life

  abbrev past : ℕ → List GroupDeed
  past index = group_past p.config index (account_in p life).deeds

  at : slice_get p.config.group g ≡ Some (group_at p.config g)
  at = slice_get-get_or p.config.group g no_group is.under.there

  reads : readers.keygroup ≡ Some k
  reads = is.matched.groups.keygroup ∙ is.under.keyed

  there : k < length p.config.keygroup
  there = (subst (IsKeyed p.config (configured.is_secured (group_at p.config g).security)) is.under.keyed (group-keyed p.config g is.plan.good.sound is.under.there)).there

  secured : is_secured (setting_of p.config r).setup.mode ≡ true
  secured = secured-so p.config g k (group_at p.config g) readers i w is.plan.good.sound at is.under.keyed is.matched

  rises : SendsRise sent
  rises = life-rise p k g w life is.plan is.under

  names : NamesPlaces (place_near sent) sent
  names = near-names sent rises

  turns : AreRingTurns p.config k (account_in p life).deeds
  turns = life-turns laws.ring laws.words most p is.plan life k g is.lengths there readers reads is.named is.steps_are is.turns

  known : KnowsSenders p.config (record (setup_by p.config readers readers.keygroup) { keys = map keys_in sets }) k g (account_in p life).deeds
  known = life-knows laws.ring laws.words most p is.plan life k g is.lengths there readers reads is.named is.steps_are is.turns

  abbrev bytes : ℕ → List ℕ
  bytes = (held laws.turns p.config k g w readers i (place_near sent) (map keys_in sets) is.matched is.under.keyed is.plan.good.sound at (account_in p life).deeds turns known names).bytes

  abbrev making : Making
  making = made_with sent bytes

  was-made-for : (datagram : List ℕ) → IsMade p.config past datagram → IsMadeFor making (with_keys (setting_of p.config r) (map keys_in sets)) (life_way p r i g w k life) datagram
  was-made-for =
      made-for laws.turns p.config k g w readers i (place_near sent) (map keys_in sets) is.matched is.under.keyed is.plan.good.sound at (account_in p life).deeds turns known names is.numbered

  was-made : (datagram : List ℕ) → Contains (account_in p life).journal (Sent datagram) → IsMade p.config past datagram
  was-made datagram has = life-made p life datagram is.run has

  -- the reading of what it took and what befell it, with the keys of all rings together

  abbrev way1 : Way
  way1 = life_way p r i g w k life

  abbrev joined : Setting
  joined = with_keys (setting_of p.config r) (map keys_in sets)

  read : IsRead (setting_of p.config r) secured sets is.named p.config past way1 ((account_in p life).readings r).value (marks_in p r way1 life)
  read = (life-read p r k secured reads sets is.named past way1 life is.takes was-made (All-contains_itself sets)).read

  pub life-made-by-sender : IsMadeBySenderIn p r i g w k life
  life-made-by-sender = record {
    named = reads;
    bytes = bytes;
    rise = rises;
    made = life-taken p r k secured reads sets is.named past way1 making was-made-for life is.takes was-made (All-contains_itself sets);
    signed = λ honest. life-signed p r k secured reads sets is.named past way1 making was-made-for life is.takes honest was-made (All-contains_itself sets);
  }

  pub life-member : SignedLaw → HasItsRecordsIn p r i g w k life
  life-member law = λ near.
      let way_of : IsWayOf joined way1 read.events = record {
        seat = seat-there p r i is.matched.within;
        numbers = λ token number own. near-numbers sent token number own;
        restarts = read.restarts;
      } in
      let signed = signed-by (setting_of p.config r) secured sets is.named p.config past way1 making was-made-for read.events read.made in
      let own : MemberIs way1 (marks joined way1 read.events) (member_at (plain joined read.events).members i) =
      law making joined way1 read.events secured is.numbered rises signed way_of (subst ChunksNear (sym read.list_is) near) in
      subst (λ (group : PlainGroup). MemberIs way1 (marks_in p r way1 life) (member_at group.members i)) read.value_is
      (subst (λ (list : List Mark). MemberIs way1 list (member_at (plain joined read.events).members i)) read.list_is own)

  pub life-comes : ComesFromSenderIn p r i g w k life
  life-comes =
      subst (λ (list : List Mark). ItemsAre (IsAnswerBy way1.seat.part.numbering way1.seat.meta (answered_in p g w life)) (arrivals_in list)) read.list_is
      (events-contents laws.turns p.config k g w readers i (place_near sent) (map keys_in sets) is.matched is.under.keyed is.plan.good.sound at (account_in p life).deeds turns known names read.events (came-by joined p.config past read.events read.made)).items
