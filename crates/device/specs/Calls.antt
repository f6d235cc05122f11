-- The calls of a publisher, one after another, and what they make of its senders.
use Rattle.std.specs.Prelude.{◌≡◌, ◌≢◌, ℕ, ◌+◌, ◌<◌, ◌≤◌, ◌⊎◌, ⊤, List, [], ◌∷◌, length, All, Option, None, Some}
use Rattle.std.specs.List.{AllZip, HoldsAt}
use Rattle.group_keys.specs.declared.key_set.KeySet.{KeySet}
use Rattle.message_guard.specs.Senders.{SenderState, turned}
use Rattle.stored_state.specs.declared.state.StoredState.{StoredState}
use Rattle.writer_group.specs.Parts.{group_at}
use Rattle.device.specs.declared.asked.Next.{Next}
use Rattle.device.specs.declared.asked.Next.TheVariants.{Datagram}
use Rattle.device.specs.declared.publisher.Publisher.{Publisher}
use Rattle.device.specs.declared.store.Saved.{Saved as SavedState}
use Rattle.device.specs.declared.store.Store.{Store}
use Rattle.device.specs.Coming.{ComesTo, HasCome}
use Rattle.device.specs.Restarts.{HasRestored}
use Rattle.device.specs.Resuming.{IsBehind}
use Rattle.device.specs.Sides.{HasRenewed, IsNoLess, IsNoLower}
use Rattle.device.specs.Storing.{HasSaved, HasStored, IsReleased, pair_in, pair_of}

-- it comes to a moment, a key group is renewed, or goes on behind so many numbers; what is to be stored is saved, is in store, or is restored; or all senders stay, and the
-- store
pub data Call : Type 0 where
  Came : (now : ℕ) (next : Next) → Call
  Renewed : (keygroup : ℕ) (sets : List KeySet) → Call
  Resumed : (keygroup now used : ℕ) (sets : List KeySet) → Call
  Saved : (ahead : ℕ) (bytes : List ℕ) → Call
  Stored : Call
  Restored : (now : ℕ) (state : StoredState) → Call
  Other : Call

-- both stay
pub record KeepsNumbers (old new : Publisher) : Type 0 where
  pub senders : new.senders.items ≡ old.senders.items
  pub store : new.store ≡ old.store

-- it comes to the moment, and its store stays
pub record ComesStored (now : ℕ) (next : Next) (old new : Publisher) : Type 0 where
  pub comes : ComesTo now next old new
  pub store : new.store ≡ old.store

abbrev pub IsCalled : Call → Publisher → Publisher → Type 0
IsCalled (Came now next) old new = ComesStored now next old new
IsCalled (Renewed keygroup sets) old new = HasRenewed keygroup sets old new
IsCalled (Resumed keygroup now used sets) old new = IsBehind keygroup now used sets old new
IsCalled (Saved ahead bytes) old new = HasSaved ahead old new bytes
IsCalled Stored old new = HasStored old new
IsCalled (Restored now state) old new = HasRestored now state old new
IsCalled Other old new = KeepsNumbers old new

-- the first first
abbrev pub AreCalled : List Call → Publisher → Publisher → Type 0
AreCalled [] old new = new ≡ old
AreCalled (call ∷ calls) old new = (mid : Publisher) × (IsCalled call old mid × AreCalled calls mid new)

-- no sender's standing is lower than it was
abbrev pub FallBackNever : List SenderState → List SenderState → Type 0
FallBackNever old new = AllZip IsNoLess old new

-- ---- numbers that are given

-- as the sender turned to the moment and went on, a datagram took this token and number: the number follows those that were used, and is used then
pub record IsGiven (now : ℕ) (pair : ℕ × ℕ) (was is : SenderState) : Type 0 where
  pub turned_token : pair.0 ≡ (turned was now).keys.token
  pub token : pair.0 ≡ is.keys.token
  pub follows : (turned was now).used < pair.1
  pub used : pair.1 ≤ is.used

-- the call gave it to a datagram of the key group: none but that which comes to a moment gives any
abbrev pub Gives : ℕ → Call → Publisher → Publisher → ℕ × ℕ → Type 0
Gives keygroup (Came now next) old new pair = HoldsAt (λ was. HoldsAt (IsGiven now pair was) new.senders.items keygroup) old.senders.items keygroup
Gives keygroup (Renewed other sets) old new pair = ⊥
Gives keygroup (Resumed other now used sets) old new pair = ⊥
Gives keygroup (Saved ahead bytes) old new pair = ⊥
Gives keygroup Stored old new pair = ⊥
Gives keygroup (Restored now state) old new pair = ⊥
Gives keygroup Other old new pair = ⊥

-- two calls, the second behind these others, give a key group's datagrams no token and number in common
abbrev pub GiveOthers : ℕ → Call → List Call → Call → Type 0
GiveOthers keygroup first calls last =
    (one two three four : Publisher) (pair other : ℕ × ℕ) → Gives keygroup first one two pair → AreCalled calls two three → Gives keygroup last three four other → pair ≢ other

-- ---- the numbers of a turn

-- the group whose datagrams wait is secured with the keys of this key group
abbrev pub IsFromGroupOf : ℕ → Publisher → Type 0
IsFromGroupOf keygroup publisher = (group_at publisher.config publisher.from).keygroup ≡ Some keygroup

-- the token, and the number of the datagram at this place among those of a turn, by its sender before it turned to the moment
abbrev pub number_at : ℕ → ℕ → SenderState → ℕ × ℕ
number_at now place was = ((turned was now).keys.token, (turned was now).used + place + 1)

-- each datagram that was made as the publisher came to the moment took a number of its own, in their order
abbrev pub GivesEach : ℕ → ℕ → Publisher → Publisher → Type 0
GivesEach keygroup now old new =
    HasCome now Datagram old new → keygroup < length old.senders.items → IsFromGroupOf keygroup new → (place : ℕ) → place < new.made
    → HoldsAt (λ was. Gives keygroup (Came now Datagram) old new (number_at now place was)) old.senders.items keygroup

-- ---- a life that goes on after another

-- where nothing was saved, nothing is in store
abbrev pub IsStore : Store → Type 0
IsStore store = store.saved ≡ None → store.covered ≡ None

-- what is saved has no lower pair than what is in store, and none lower than a sender's standing
pub record SavesNoLower (keygroup : ℕ) (old : Publisher) (words : List ℕ) : Type 0 where
  pub covered : IsNoLower (pair_of old.store.covered keygroup) (pair_in words keygroup)
  pub used : HoldsAt (λ sender. IsNoLower (sender.keys.token, sender.used) (pair_in words keygroup)) old.senders.items keygroup

-- the call neither tells that what was saved is in store, nor restores
abbrev pub LeavesCovered : Call → Type 0
LeavesCovered Stored = ⊥
LeavesCovered (Restored now state) = ⊥
LeavesCovered call = ⊤

-- the state is in store
abbrev pub IsInStore : StoredState → Option SavedState → Type 0
IsInStore state None = ⊥
IsInStore state (Some saved) = saved.state ≡ state

-- it was saved some calls before, none of which told that what was saved is in store
pub record IsSavedBefore (state : StoredState) (publisher : Publisher) : Type 0 where
  pub ahead : ℕ
  pub bytes : List ℕ
  pub earlier : Publisher
  pub next : Publisher
  pub saved : HasSaved ahead earlier next bytes
  pub same : saved.state ≡ state
  pub calls : List Call
  pub called : AreCalled calls next publisher
  pub untold : All LeavesCovered calls

-- it is saved after some calls more
pub record IsSavedLater (state : StoredState) (publisher : Publisher) : Type 0 where
  pub calls : List Call
  pub later : Publisher
  pub called : AreCalled calls publisher later
  pub ahead : ℕ
  pub bytes : List ℕ
  pub last : Publisher
  pub saved : HasSaved ahead later last bytes
  pub same : saved.state ≡ state

-- where the program stops then, or after some calls more, it may find the state in its store: it is what is in store as far as the publisher was told, or was saved after that
abbrev pub MayBeFound : StoredState → Publisher → Type 0
MayBeFound state publisher = IsInStore state publisher.store.covered ⊎ (IsSavedBefore state publisher ⊎ IsSavedLater state publisher)

-- the call gave a pair to a datagram of the key group, which may be sent after these calls; where a life goes on after a state that may be found in the store then, the call
-- after these other calls of it gives no datagram of the key group that pair
abbrev pub RestoredGiveOthers : ℕ → Call → List Call → List Call → Call → Type 0
RestoredGiveOthers keygroup first calls others last =
    (now : ℕ) (state : StoredState) (one two three begun four five six : Publisher) (pair other : ℕ × ℕ)
    → IsStore one.store → IsCalled first one two → Gives keygroup first one two pair → AreCalled calls two three
    → IsReleased keygroup three → MayBeFound state three
    → HasRestored now state begun four → AreCalled others four five → Gives keygroup last five six other → pair ≢ other
