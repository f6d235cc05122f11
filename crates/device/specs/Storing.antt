-- What a publisher saves, and what of it is in store.
use Rattle.std.specs.Prelude.{◌≡◌, ℕ, ◌+◌, ◌*◌, ◌-◌, ◌%◌, ◌^◌, ◌<◌, ◌≤◌, ◌⊎◌, ⊤, List, length, min, nat_lt, slice_index_or, Option, Some, None, if◌then◌else◌}
use Rattle.std.specs.List.{HoldsAt}
use Rattle.stored_state.specs.declared.state.StoredState.{StoredState}
use Rattle.stored_state.specs.States.{IsState, written}
use Rattle.message_guard.specs.Senders.{SenderState}
use Rattle.writer_group.specs.Parts.{group_at}
use Rattle.writer_group.specs.Standing.{TellsNextNumber, writer_count}
use Rattle.device.specs.declared.publisher.Publisher.{Publisher}
use Rattle.device.specs.declared.side.Side.{Side}
use Rattle.device.specs.declared.store.Saved.{Saved}
use Rattle.device.specs.declared.store.Store.{Store}
use Rattle.device.specs.Fingerprints.{fingerprint_of}
use Rattle.device.specs.Sides.{IsNoLower, IsPublisher}

-- ---- numbers of a state

-- the token of the key group with this index, and the last number to go on behind
abbrev pub pair_in : List ℕ → ℕ → ℕ × ℕ
pair_in words keygroup = (slice_index_or words keygroup 0, slice_index_or words (4 + keygroup) 0)

-- where the next message number of the writer with this index in the group with this index stands: behind the pairs of 4 key groups, 16 writers a group
abbrev pub message_place : ℕ → ℕ → ℕ
message_place group writer = 8 + 16 * group + writer

abbrev pub message_word : List ℕ → ℕ → ℕ → ℕ
message_word words group writer = slice_index_or words (message_place group writer) 0

-- ---- what is saved

abbrev pub last_number : ℕ
last_number = 4294967295

-- a number so far ahead, or the last that there is
abbrev pub ahead_of : ℕ → ℕ → ℕ
ahead_of ahead used = min (used + ahead) last_number

-- of two tokens with a number each, the one of the later token, or of the same with the greater number
abbrev pub later_of : ℕ × ℕ → ℕ × ℕ → ℕ × ℕ
later_of one other =
    if nat_lt one.0 other.0 then other
    else (if nat_lt other.0 one.0 then one
    else (if nat_lt one.1 other.1 then other else one))

-- the pair of the key group that is in store, if one is: a first one is token 0 with number 0
abbrev pub pair_of : Option Saved → ℕ → ℕ × ℕ
pair_of None keygroup = (0, 0)
pair_of (Some saved) keygroup = pair_in saved.state.words keygroup

-- the pair that is saved of a sender: its token, with a number so far ahead of the last one used, unless what is in store is later
abbrev pub saved_pair : ℕ → Store → ℕ → SenderState → ℕ × ℕ
saved_pair ahead store keygroup sender = later_of (sender.keys.token, ahead_of ahead sender.used) (pair_of store.covered keygroup)

-- the pairs of all key groups are saved so
abbrev pub ArePairsSaved : ℕ → Publisher → List ℕ → Type 0
ArePairsSaved ahead publisher words =
    (keygroup : ℕ) → keygroup < length publisher.senders.items
    → HoldsAt (λ sender. pair_in words keygroup ≡ saved_pair ahead publisher.store keygroup sender) publisher.senders.items keygroup

-- message numbers so far ahead: half of those that count as newer at most, of 16 bits
abbrev pub message_ahead : ℕ → ℕ → ℕ
message_ahead ahead number = (number + min ahead 8192) % 2 ^ 16

-- the message number that is saved of a writer: so far ahead of that of its next data message
pub record IsMessageSaved (ahead group writer : ℕ) (side : Side) (word : ℕ) : Type 0 where
  pub next : ℕ
  pub tells : TellsNextNumber side.group writer next
  pub is : word ≡ message_ahead ahead next

-- those of all writers are saved so
abbrev pub AreMessagesSaved : ℕ → Publisher → List ℕ → Type 0
AreMessagesSaved ahead publisher words =
    (group writer : ℕ) → group < length publisher.sides.items
    → HoldsAt (λ side. writer < writer_count side.group → IsMessageSaved ahead group writer side (message_word words group writer)) publisher.sides.items group

-- ---- the numbers of a state that is saved, by their places

-- the pair is the one that is saved of the key group with this index, if there is one
abbrev pub IsPairAt : ℕ → Publisher → ℕ → ℕ × ℕ → Type 0
IsPairAt ahead publisher keygroup pair =
    keygroup < length publisher.senders.items → HoldsAt (λ sender. pair ≡ saved_pair ahead publisher.store keygroup sender) publisher.senders.items keygroup

-- the word is the message number that is saved of the writer with this index in the group with this index, if there is one
abbrev pub IsMessageAt : ℕ → Publisher → ℕ → ℕ → ℕ → Type 0
IsMessageAt ahead publisher group writer word =
    group < length publisher.sides.items
    → HoldsAt (λ side. writer < writer_count side.group → IsMessageSaved ahead group writer side word) publisher.sides.items group

-- the word at the place: a token, a number, or a message number
pub record IsWordAt (ahead : ℕ) (publisher : Publisher) (place word : ℕ) : Type 0 where
  pub token : place < 4 → (pair : ℕ × ℕ) × (IsPairAt ahead publisher place pair × (word ≡ pair.0))
  pub number : (keygroup : ℕ) → keygroup < 4 → place ≡ 4 + keygroup → (pair : ℕ × ℕ) × (IsPairAt ahead publisher keygroup pair × (word ≡ pair.1))
  pub message : (group writer : ℕ) → writer < 16 → place ≡ message_place group writer → IsMessageAt ahead publisher group writer word

-- each of a state's words is
abbrev pub AreWords : ℕ → Publisher → List ℕ → Type 0
AreWords ahead publisher words = (place : ℕ) → place < 72 → IsWordAt ahead publisher place (slice_index_or words place 0)

-- of a publisher these bytes are those of a state with the fingerprint of the configuration, the pairs and the message numbers; it is what was saved last, and nothing else changed
pub record HasSaved (ahead : ℕ) (old new : Publisher) (bytes : List ℕ) : Type 0 where
  pub publisher : IsPublisher old
  pub state : StoredState
  pub is_state : IsState state
  pub bytes_are : bytes ≡ written state
  pub fingerprint : state.fingerprint ≡ fingerprint_of old.config
  pub pairs : ArePairsSaved ahead old state.words
  pub messages : AreMessagesSaved ahead old state.words
  pub rest : new ≡ record old { store = record old.store { saved = Some (record { state = state; ahead = ahead }) } }

-- what was saved last is in store, and nothing else changed
abbrev pub HasStored : Publisher → Publisher → Type 0
HasStored old new = new ≡ record old { store = record old.store { covered = old.store.saved } }

-- a publisher of which nothing was saved
abbrev pub none_stored : Store
none_stored = record { saved = None; covered = None }

-- ---- what is in store

-- the token and the number used last of the key group's sender are in store
abbrev pub IsCovered : ℕ → SenderState → Option Saved → Type 0
IsCovered keygroup sender None = ⊥
IsCovered keygroup sender (Some saved) = IsNoLower (sender.keys.token, sender.used) (pair_in saved.state.words keygroup)

-- half of so many numbers that were reserved is left behind a standing, where the pair is of the same token, unless they were all
abbrev pub IsHalfLeft : ℕ × ℕ → ℕ × ℕ → ℕ → Type 0
IsHalfLeft standing pair ahead = standing.0 ≡ pair.0 → (pair.1 ≡ last_number) ⊎ (ahead ≤ 2 * (pair.1 - standing.1))

-- the standing of the key group's sender is in store, and half of what was reserved is left
abbrev pub IsAheadIn : Option Saved → ℕ → SenderState → Type 0
IsAheadIn None keygroup sender = ⊥
IsAheadIn (Some saved) keygroup sender =
    IsNoLower (sender.keys.token, sender.used) (pair_in saved.state.words keygroup)
    × IsHalfLeft (sender.keys.token, sender.used) (pair_in saved.state.words keygroup) saved.ahead

-- all senders have as much
abbrev pub AreAhead : Publisher → Type 0
AreAhead publisher =
    (keygroup : ℕ) → keygroup < length publisher.senders.items
    → HoldsAt (IsAheadIn publisher.store.covered keygroup) publisher.senders.items keygroup

-- the sender with this index has less
pub record FallsShort (publisher : Publisher) : Type 0 where
  pub keygroup : ℕ
  pub within : keygroup < length publisher.senders.items
  pub short : HoldsAt (λ sender. ¬ IsAheadIn publisher.store.covered keygroup sender) publisher.senders.items keygroup

-- a datagram of a group of this key group may be sent: nothing was ever saved, or all numbers that the key group used are in store
abbrev pub IsReleased : ℕ → Publisher → Type 0
IsReleased keygroup publisher =
    (publisher.store.saved ≡ None) ⊎ HoldsAt (λ sender. IsCovered keygroup sender publisher.store.covered) publisher.senders.items keygroup

-- the same of a group that may have no key group
abbrev pub IsReleasedFor : Option ℕ → Publisher → Type 0
IsReleasedFor None publisher = ⊤
IsReleasedFor (Some keygroup) publisher = IsReleased keygroup publisher

-- the datagram that waits may be sent
abbrev pub MayHandOver : Publisher → Type 0
MayHandOver publisher = IsReleasedFor (group_at publisher.config publisher.from).keygroup publisher
