-- Publishers that go on after a restart: their writers' first numbers, and all that was stored.
use Rattle.std.specs.Prelude.{◌≡◌, ◌≢◌, ℕ, zero, suc, ◌%◌, ◌/◌, ◌^◌, ◌<◌, ◌⊎◌, ◌==◌, List, length, slice_set, Option, Some, if◌then◌else◌}
use Rattle.std.specs.List.{HoldsAt}
use Rattle.stored_state.specs.declared.state.StoredState.{StoredState}
use Rattle.stored_state.specs.States.{IsState, written}
use Rattle.group_keys.specs.declared.key_set.KeySet.{KeySet}
use Rattle.group_keys.specs.KeySets.{current}
use Rattle.message_guard.specs.Senders.{SenderState}
use Rattle.ps_config.specs.Beginning.{config_beginning}
use Rattle.ps_config.specs.declared.parts.Config.{Config}
use Rattle.writer_group.specs.Parts.{group_at}
use Rattle.writer_group.specs.Standing.{GoesOnBegun, HasBegun, IsMadeBeginning, IsNeverDue, TellsDueFrom}
use Rattle.device.specs.declared.publisher.Publisher.{Publisher}
use Rattle.device.specs.declared.restoring.RestoreEnd.{RestoreEnd}
use Rattle.device.specs.declared.restoring.RestoreEnd.TheVariants.{Damaged, LaterToken, OtherConfig}
use Rattle.device.specs.declared.side.Side.{Side}
use Rattle.device.specs.declared.store.Saved.{Saved}
use Rattle.device.specs.Fingerprints.{fingerprint_of}
use Rattle.device.specs.Resuming.{IsBehind, IsEarlier, WouldRepeat}
use Rattle.device.specs.Sides.{HasWriter}
use Rattle.device.specs.Storing.{message_word, pair_in}

-- ---- a first number

-- the publishing interval of the group
abbrev pub interval_of : Config → Side → ℕ
interval_of config side = (group_at config side.index).interval

-- its group had no turn yet: it is due from its interval on
abbrev pub IsUnturned : Config → Side → Type 0
IsUnturned config side = TellsDueFrom side.group (interval_of config side)

-- it had one: it is due from another moment on, or never again
pub record IsDueElse (config : Config) (side : Side) : Type 0 where
  pub moment : ℕ
  pub differs : moment ≢ interval_of config side
  pub tells : TellsDueFrom side.group moment

abbrev pub IsTurned : Config → Side → Type 0
IsTurned config side = IsDueElse config side ⊎ IsNeverDue side.group

-- the writer with this index begins anew, with this number as that of its first data message
pub record HasSideBegun (writer number : ℕ) (old new : Side) : Type 0 where
  pub group : HasBegun writer number old.group new.group
  pub made : IsMadeBeginning writer number old.group new.group
  pub goes_on : GoesOnBegun writer number old.group new.group
  pub rest : new ≡ record old { group = new.group }

-- the same of the group with this index, which had no turn yet; the configuration has that first number, and nothing else changed
pub record HasBegunAt (group writer number : ℕ) (old new : Publisher) : Type 0 where
  pub within : group < length old.sides.items
  pub has : HoldsAt (HasWriter writer) old.sides.items group
  pub unturned : HoldsAt (IsUnturned old.config) old.sides.items group
  pub is : HoldsAt (λ was. HoldsAt (HasSideBegun writer number was) new.sides.items group) old.sides.items group
  pub others : HoldsAt (λ is. new.sides.items ≡ slice_set old.sides.items group is) new.sides.items group
  pub config : new.config ≡ config_beginning group writer number old.config
  pub rest : new ≡ record old { config = new.config; sides = new.sides }

-- where there is a group with this index, it has no writer with this index, or it had a turn
abbrev pub MayNotBegin : ℕ → ℕ → Publisher → Type 0
MayNotBegin group writer publisher =
    group < length publisher.sides.items → HoldsAt (λ side. HasWriter writer side → IsTurned publisher.config side) publisher.sides.items group

-- ---- what is restored

-- these bytes are those of the state, which is of the configuration
pub record IsStateOf (config : Config) (bytes : List ℕ) (state : StoredState) : Type 0 where
  pub is_state : IsState state
  pub bytes_are : bytes ≡ written state
  pub fingerprint : state.fingerprint ≡ fingerprint_of config

-- the writer begins at the number, unless it may not
abbrev pub BeginsOrStays : ℕ → ℕ → ℕ → Publisher → Publisher → Type 0
BeginsOrStays group writer number old new = HasBegunAt group writer number old new ⊎ (MayNotBegin group writer old × (new ≡ old))

-- the writer at this place of 64, 16 a group, at the number that the state has for it, of which 16 bits count
abbrev pub HasNumberBegun : ℕ → List ℕ → Publisher → Publisher → Type 0
HasNumberBegun place words old new = BeginsOrStays (place / 16) (place % 16) (message_word words (place / 16) (place % 16) % 2 ^ 16) old new

-- those at the first places, so many, do, one after another
abbrev pub HaveNumbersBegun : ℕ → List ℕ → Publisher → Publisher → Type 0
HaveNumbersBegun zero words old new = new ≡ old
HaveNumbersBegun (suc count) words old new = (mid : Publisher) × (HaveNumbersBegun count words old mid × HasNumberBegun count words mid new)

-- how many numbers are passed over: those of the pair under its token, and none under another
abbrev pub passed_over : ℕ × ℕ → ℕ → ℕ
passed_over pair token = if token == pair.0 then pair.1 else 0

-- the sender of the key group goes on behind the pair (IsBehind) with the last of its key sets whose moment has come, unless it used more numbers of its own
pub record HasGoneOn (now keygroup : ℕ) (pair : ℕ × ℕ) (old new : Publisher) (sender : SenderState) : Type 0 where
  pub there : keygroup < length old.config.keygroup
  pub set : KeySet
  pub current_is : current sender.sets now ≡ Some set
  pub is : IsBehind keygroup now (passed_over pair set.token) sender.sets old new
      ⊎ (HoldsAt (λ part. WouldRepeat part sender.sets now (passed_over pair set.token) sender) old.config.keygroup keygroup × (new ≡ old))

-- the senders of the first key groups, so many, do, one after another
abbrev pub HaveGoneOn : ℕ → ℕ → List ℕ → Publisher → Publisher → Type 0
HaveGoneOn now zero words old new = new ≡ old
HaveGoneOn now (suc count) words old new =
    (mid : Publisher) × (HaveGoneOn now count words old mid
    × HoldsAt (HasGoneOn now count (pair_in words count) mid new) mid.senders.items count)

-- the last key set of the key group's ring whose moment has come is of an earlier token than the pair
abbrev pub HasLaterToken : ℕ → ℕ → List ℕ → Publisher → Type 0
HasLaterToken now keygroup words publisher =
    HoldsAt (λ sender. IsEarlier now (pair_in words keygroup).0 sender.sets) publisher.senders.items keygroup

-- that of none is
abbrev pub HasNoLaterToken : ℕ → List ℕ → Publisher → Type 0
HasNoLaterToken now words publisher =
    (keygroup : ℕ) → keygroup < length publisher.senders.items
    → HoldsAt (λ sender. ¬ IsEarlier now (pair_in words keygroup).0 sender.sets) publisher.senders.items keygroup

-- a state that is in store, of which nothing is left that was reserved
abbrev pub restored : StoredState → Option Saved
restored state = Some (record { state = state; ahead = 1 })

-- the publisher goes on behind the state: first its writers, then its senders; the state is in store, and nothing else changed
pub record HasRestored (now : ℕ) (state : StoredState) (old new : Publisher) : Type 0 where
  pub no_later : HasNoLaterToken now state.words old
  pub begun : Publisher
  pub numbers : HaveNumbersBegun 64 state.words old begun
  pub gone : Publisher
  pub senders : HaveGoneOn now (length old.senders.items) state.words begun gone
  pub rest : new ≡ record gone { store = record { saved = restored state; covered = restored state } }

-- the same with the state that these bytes are of
pub record HasRestoredFrom (now : ℕ) (bytes : List ℕ) (old new : Publisher) : Type 0 where
  pub state : StoredState
  pub is_of : IsStateOf old.config bytes state
  pub restored : HasRestored now state old new

-- ---- what isn't restored

-- the bytes are of no state
abbrev pub AreDamaged : List ℕ → Type 0
AreDamaged bytes = (state : StoredState) → IsState state → bytes ≢ written state

-- they are of one of another configuration
pub record AreOfOther (config : Config) (bytes : List ℕ) : Type 0 where
  pub state : StoredState
  pub is_state : IsState state
  pub bytes_are : bytes ≡ written state
  pub other : state.fingerprint ≢ fingerprint_of config

-- the state has a later token of this key group, the first such, than its ring has at the moment
pub record AreOfLater (now keygroup : ℕ) (bytes : List ℕ) (publisher : Publisher) : Type 0 where
  pub state : StoredState
  pub is_of : IsStateOf publisher.config bytes state
  pub within : keygroup < length publisher.senders.items
  pub later : HasLaterToken now keygroup state.words publisher

abbrev pub MayNotRestore : ℕ → List ℕ → Publisher → RestoreEnd → Type 0
MayNotRestore now bytes publisher Damaged = AreDamaged bytes
MayNotRestore now bytes publisher OtherConfig = AreOfOther publisher.config bytes
MayNotRestore now bytes publisher (LaterToken keygroup) = AreOfLater now keygroup bytes publisher
