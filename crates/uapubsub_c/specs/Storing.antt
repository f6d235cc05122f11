-- What C stores of a publisher, and how a publisher goes on after it.
use Rattle.std.specs.Prelude.{◌≡◌, ℕ, ◌<◌, List, length, Result, Ok, Err}
use Rattle.stored_state.specs.declared.state.TheConstants.{STATE_BYTES}
use Rattle.device.specs.declared.publisher.Publisher.{Publisher}
use Rattle.device.specs.Restarts.{AreDamaged, AreOfLater, AreOfOther, HasRestoredFrom}
use Rattle.device.specs.Storing.{AreAhead, FallsShort, HasSaved, HasStored}
use Rattle.uapubsub_c.specs.Answers.{Answers, Does}
use Rattle.uapubsub_c.specs.Laying.{IsLaidOut}
use Rattle.uapubsub_c.specs.declared.status.Status.{Status}
use Rattle.uapubsub_c.specs.declared.status.Status.TheVariants.{Damaged, LaterToken, Nothing, OtherConfig, Room}

-- ---- saving

-- the publisher's state is saved, and its bytes are laid at the front of the buffer
pub record SavesInto (ahead : ℕ) (buffer left : List ℕ) (count : ℕ) (old new : Publisher) : Type 0 where
  pub bytes : List ℕ
  pub saved : HasSaved ahead old new bytes
  pub laid : IsLaidOut bytes buffer left count

-- the buffer is shorter than a state, and nothing changed
pub record LacksRoom (buffer : List ℕ) (old new : Publisher) : Type 0 where
  pub same : new ≡ old
  pub short : length buffer < STATE_BYTES

abbrev pub Saves : ℕ → List ℕ → List ℕ → ℕ → Publisher → Result Unit Status → Publisher → Type 0
Saves ahead buffer left count old (Ok value) new = SavesInto ahead buffer left count old new
Saves ahead buffer left count old (Err Room) new = LacksRoom buffer old new
Saves ahead buffer left count old (Err other) new = ⊥

-- there is no other answer
abbrev pub IsNoStatus : Publisher → Status → Type 0
IsNoStatus publisher status = ⊥

abbrev pub Stores : Publisher → Result Unit Status → Publisher → Type 0
Stores old answer new = Does HasStored IsNoStatus old answer new

-- enough is in store
abbrev pub HasEnough : Publisher → Status → Type 0
HasEnough publisher Nothing = AreAhead publisher
HasEnough publisher other = ⊥

abbrev pub TellsMustStore : Publisher → Result Unit Status → Type 0
TellsMustStore publisher answer = Answers (λ value. FallsShort publisher) (HasEnough publisher) answer

-- ---- going on after bytes

-- the state has a later token of some key group than its ring has at the moment
pub record AreOfLaterToken (now : ℕ) (bytes : List ℕ) (publisher : Publisher) : Type 0 where
  pub keygroup : ℕ
  pub is : AreOfLater now keygroup bytes publisher

-- why the publisher doesn't go on after them
abbrev pub IsUnrestored : ℕ → List ℕ → Publisher → Status → Type 0
IsUnrestored now bytes publisher Damaged = AreDamaged bytes
IsUnrestored now bytes publisher OtherConfig = AreOfOther publisher.config bytes
IsUnrestored now bytes publisher LaterToken = AreOfLaterToken now bytes publisher
IsUnrestored now bytes publisher other = ⊥

abbrev pub Restores : ℕ → List ℕ → Publisher → Result Unit Status → Publisher → Type 0
Restores now bytes old answer new = Does (HasRestoredFrom now bytes) (IsUnrestored now bytes) old answer new
