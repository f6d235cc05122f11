-- What a read group takes with the keys of one ring it takes with those of all rings together, where tokens name keys: so its reading in a life is a plain reading
-- of what it took and what befell it.
use Rattle.std.proofs.Common.{◌≡◌, refl, sym, ap, ◌∙◌, subst, ℕ, Bool, true, false, List, [], ◌∷◌, map, Result, Ok, Err, All, Contains}
use Rattle.std.specs.Prelude.{◌==◌, ⊤, slice_index_or}
use Rattle.pubsub_model.specs.declared.reading.Why.TheVariants.{Timeout}
use Rattle.group_keys.specs.declared.key_set.KeySet.{KeySet}
use Rattle.message_guard.specs.declared.keys.TokenKeys.{TokenKeys}
use Rattle.message_guard.specs.Acceptance.{Accepted}
use Rattle.message_guard.specs.Modes.{is_secured}
use Rattle.message_guard.specs.Protection.{keys_in, keys_with}
use Rattle.ps_config.specs.declared.parts.Config.{Config}
use Rattle.reader_group.specs.declared.refusal.Refusal.{Refusal}
use Rattle.reader_group.specs.Agreeing.{AreRestarts}
use Rattle.reader_group.specs.Arrivals.{Mark, Way, accepted, arrivals_in, cut_on, marks, runs_out, taken_in}
use Rattle.reader_group.specs.Opening.{Opened, verdict}
use Rattle.reader_group.specs.Plain.{Setting, PlainGroup, Event, Got, Expired, Stopped, plain, step, taken_on, verdict_in, with_keys}
use Rattle.reader_group.proofs.Accepting.{plain-accepted}
use Rattle.writer_group.specs.Turns.{GroupDeed}
use Rattle.session_model.specs.Readings.{Reading, read_on}
use Rattle.session_laws.specs.Pasts.{CameAsMade, IsMade}
use Rattle.session_laws.specs.Readers.{IsMadeFor, Making, SignedAreMade}
use Rattle.session_laws.proofs.HeldRows.KnownTokens.{known-token}
use Rattle.turn_laws.specs.Lives.{TakenAreMadeOn, TokensNameKeys, marks_on}
use Rattle.turn_laws.specs.Makers.{SignedWereMade}
use Rattle.turn_laws.proofs.Keyed.{other-keys}
use Rattle.turn_laws.proofs.LifeKeys.{found-more}

-- each datagram of these events that the read group took, which stood there with the keys of the setting, was made by a group
abbrev pub TakenWereMadeOn : Setting → Config → (ℕ → List GroupDeed) → PlainGroup → List Event → Type 0
TakenWereMadeOn setting config pasts value [] = ⊤
TakenWereMadeOn setting config pasts value (Got moment on datagram ∷ before) =
    ((opened : Opened) → verdict_in setting (read_on setting value before) datagram ≡ Ok opened → IsMade config pasts datagram) × TakenWereMadeOn setting config pasts value before
TakenWereMadeOn setting config pasts value (Expired moment ∷ before) = TakenWereMadeOn setting config pasts value before
TakenWereMadeOn setting config pasts value (Stopped reader why ∷ before) = TakenWereMadeOn setting config pasts value before

-- each datagram of these events was made by a group
abbrev pub WereMade : Config → (ℕ → List GroupDeed) → List Event → Type 0
WereMade config pasts [] = ⊤
WereMade config pasts (Got moment on datagram ∷ before) = IsMade config pasts datagram × WereMade config pasts before
WereMade config pasts (Expired moment ∷ before) = WereMade config pasts before
WereMade config pasts (Stopped reader why ∷ before) = WereMade config pasts before

pub came-by : (setting : Setting) (config : Config) (pasts : ℕ → List GroupDeed) (events : List Event) → WereMade config pasts events → CameAsMade setting config pasts events
came-by setting config pasts [] were = tt
came-by setting config pasts (Got moment on datagram ∷ before) were = ((λ opened e. were.0), came-by setting config pasts before were.1)
came-by setting config pasts (Expired moment ∷ before) were = came-by setting config pasts before were
came-by setting config pasts (Stopped reader why ∷ before) were = came-by setting config pasts before were

module _ (base : Setting) (secured : is_secured base.setup.mode ≡ true) (all : List KeySet) (named : TokensNameKeys all) (config : Config) (pasts : ℕ → List GroupDeed) (way : Way) where
  -- with the keys of all rings together
  abbrev joined : Setting
  joined = with_keys base (map keys_in all)

  -- a reading and a list that are those of some events, with the keys of all rings together, in which each datagram was made by a group
  pub record IsRead (value : PlainGroup) (list : List Mark) : Type 0 where
    pub events : List Event
    pub value_is : plain joined events ≡ value
    pub list_is : marks joined way events ≡ list
    pub made : WereMade config pasts events
    pub restarts : AreRestarts events

  pub read-none : (value : PlainGroup) → plain joined [] ≡ value → IsRead value []
  read-none value is = record { events = []; value_is = is; list_is = refl; made = tt; restarts = tt }

  -- ---- with the keys of some of them

  module _ (sets : List KeySet) (among : All (Contains all) sets) where
    abbrev own : Setting
    own = with_keys base (map keys_in sets)

    joins : (pairs : Accepted) (datagram : List ℕ) (opened : Opened) → verdict own.group own.setup pairs datagram ≡ Ok opened → verdict joined.group joined.setup pairs datagram ≡ Ok opened
    joins pairs datagram opened e =
        let known = known-token own.group own.setup pairs datagram opened e secured in
        let same : keys_with (map keys_in sets) opened.pass.token ≡ keys_with (map keys_in all) opened.pass.token = known.known ∙ sym (found-more sets all opened.pass.token known.signer named among known.known) in
        other-keys base.group base.setup.mode base.setup.first_block (map keys_in sets) (map keys_in all) pairs datagram opened e same

    got-read : (moment : ℕ) (on : List Bool) (datagram : List ℕ) (value : PlainGroup) (list : List Mark) (answer : Result Opened Refusal)
        → ((opened : Opened) → verdict own.group own.setup value.accepted datagram ≡ Ok opened → IsMade config pasts datagram) → verdict own.group own.setup value.accepted datagram ≡ answer → IsRead value list
        → IsRead (taken_on own value moment on answer) (taken_in own way moment (slice_index_or on way.index false) value.accepted list answer)
    got-read moment on datagram value list (Err refusal) so e h = h
    got-read moment on datagram value list (Ok opened) so e h =
        let enabled = slice_index_or on way.index false in
        let both : verdict joined.group joined.setup value.accepted datagram ≡ Ok opened = joins value.accepted datagram opened e in
        let pairs_are : accepted joined h.events ≡ value.accepted = sym (plain-accepted joined h.events) ∙ ap (λ (v : PlainGroup). v.accepted) h.value_is in
        record {
          events = Got moment on datagram ∷ h.events;
          value_is = ap (λ (v : PlainGroup). taken_on joined v moment on (verdict_in joined v datagram)) h.value_is ∙ ap (taken_on joined value moment on) both;
          list_is = ap (λ (pairs : Accepted). taken_in joined way moment enabled pairs (marks joined way h.events) (verdict joined.group joined.setup pairs datagram)) pairs_are
              ∙ ap (λ (l : List Mark). taken_in joined way moment enabled value.accepted l (verdict joined.group joined.setup value.accepted datagram)) h.list_is
              ∙ ap (taken_in joined way moment enabled value.accepted list) both;
          made = (so opened e, h.made);
          restarts = h.restarts;
        }

    read-all : (events : List Event) (value : PlainGroup) (list : List Mark) → TakenWereMadeOn own config pasts value events → AreRestarts events → IsRead value list → IsRead (read_on own value events) (marks_on own way value list events)
    read-all [] value list so restarts h = h
    read-all (Got moment on datagram ∷ before) value list so restarts h =
        let now = read_on own value before in
        got-read moment on datagram now (marks_on own way value list before) (verdict_in own now datagram) so.0 refl (read-all before value list so.1 restarts h)
    read-all (Expired moment ∷ before) value list so restarts h =
        let earlier = read-all before value list so restarts h in
        record {
          events = Expired moment ∷ earlier.events;
          value_is = ap (λ (v : PlainGroup). step joined v (Expired moment)) earlier.value_is;
          list_is = ap (λ (l : List Mark). cut_on (runs_out way moment (arrivals_in l)) Timeout l) earlier.list_is;
          made = earlier.made;
          restarts = earlier.restarts;
        }
    read-all (Stopped reader why ∷ before) value list so restarts h =
        let earlier = read-all before value list so restarts.1 h in
        record {
          events = Stopped reader why ∷ earlier.events;
          value_is = ap (λ (v : PlainGroup). step joined v (Stopped reader why)) earlier.value_is;
          list_is = ap (cut_on (reader == way.index) why) earlier.list_is;
          made = earlier.made;
          restarts = (restarts.0, earlier.restarts);
        }

  -- ---- a reading, whose keys are those of some of them

  pub record IsReadWith (reading : Reading) (list : List Mark) : Type 0 where
    pub sets : List KeySet
    pub among : All (Contains all) sets
    pub keys : reading.keys ≡ map keys_in sets
    pub read : IsRead reading.value list

  pub goes-read : (reading : Reading) (list : List Mark) (events : List Event) → TakenWereMadeOn (with_keys base reading.keys) config pasts reading.value events → AreRestarts events → IsReadWith reading list
      → IsRead (read_on (with_keys base reading.keys) reading.value events) (marks_on (with_keys base reading.keys) way reading.value list events)
  goes-read reading list events so restarts h =
      subst (λ (keys : List TokenKeys). TakenWereMadeOn (with_keys base keys) config pasts reading.value events → IsRead (read_on (with_keys base keys) reading.value events) (marks_on (with_keys base keys) way reading.value list events)) (sym h.keys)
      (λ own_so. read-all h.sets h.among events reading.value list own_so restarts h.read) so

  -- ---- what the sender made

  module _ (m : Making) (made_for : (datagram : List ℕ) → IsMade config pasts datagram → IsMadeFor m joined way datagram) where
    pub signed-by : (events : List Event) → WereMade config pasts events → SignedAreMade m joined way events
    signed-by [] were = tt
    signed-by (Got moment on datagram ∷ before) were = ((λ signed. made_for datagram were.0), signed-by before were.1)
    signed-by (Expired moment ∷ before) were = signed-by before were
    signed-by (Stopped reader why ∷ before) were = signed-by before were

    -- what the group took with the keys of some of them
    all-taken : (sets : List KeySet) (among : All (Contains all) sets) (events : List Event) (value : PlainGroup) → TakenWereMadeOn (own sets among) config pasts value events → TakenAreMadeOn m (own sets among) way value events
    all-taken sets among [] value so = tt
    all-taken sets among (Got moment on datagram ∷ before) value so =
        ((λ opened e pairs other is. made_for datagram (so.0 opened e) pairs other (joins sets among pairs datagram other is)), all-taken sets among before value so.1)
    all-taken sets among (Expired moment ∷ before) value so = all-taken sets among before value so
    all-taken sets among (Stopped reader why ∷ before) value so = all-taken sets among before value so

    -- and what came signed under them
    all-made : (sets : List KeySet) (among : All (Contains all) sets) (events : List Event) → SignedWereMade (own sets among) config pasts events → SignedAreMade m (own sets among) way events
    all-made sets among [] so = tt
    all-made sets among (Got moment on datagram ∷ before) so =
        ((λ by_own pairs opened e. made_for datagram (so.0 by_own) pairs opened (joins sets among pairs datagram opened e)), all-made sets among before so.1)
    all-made sets among (Expired moment ∷ before) so = all-made sets among before so
    all-made sets among (Stopped reader why ∷ before) so = all-made sets among before so

    pub goes-taken : (reading : Reading) (list : List Mark) (events : List Event) → TakenWereMadeOn (with_keys base reading.keys) config pasts reading.value events → IsReadWith reading list
        → TakenAreMadeOn m (with_keys base reading.keys) way reading.value events
    goes-taken reading list events so h =
        subst (λ (keys : List TokenKeys). TakenWereMadeOn (with_keys base keys) config pasts reading.value events → TakenAreMadeOn m (with_keys base keys) way reading.value events) (sym h.keys)
        (λ own_so. all-taken h.sets h.among events reading.value own_so) so

    pub goes-made : (reading : Reading) (list : List Mark) (events : List Event) → SignedWereMade (with_keys base reading.keys) config pasts events → IsReadWith reading list → SignedAreMade m (with_keys base reading.keys) way events
    goes-made reading list events so h =
        subst (λ (keys : List TokenKeys). SignedWereMade (with_keys base keys) config pasts events → SignedAreMade m (with_keys base keys) way events) (sym h.keys) (λ own_so. all-made h.sets h.among events own_so) so
