-- The datagrams of a turn, delivered to a read group in order.
use Rattle.std.specs.Prelude.{◌≡◌, ◌≢◌, ℕ, ◌<◌, ◌≤◌, Bool, true, false, List, [], ◌∷◌, All, length, map, fold, slice_index_or, Option, Some, None, option_map, ⊤}
use Rattle.pubsub_model.specs.declared.reading.Why.TheVariants.{NewToken}
use Rattle.message_guard.specs.Acceptance.{Accepted, highest, numbers_of}
use Rattle.message_guard.specs.declared.mode.Mode.{Mode}
use Rattle.message_guard.specs.Senders.{SenderState}
use Rattle.frame_codec.specs.Frames.{Frame}
use Rattle.config_tables.specs.declared.words.Layout.TheVariants as layouts
use Rattle.ps_config.specs.declared.parts.Config.{Config}
use Rattle.ps_config.specs.declared.parts.GroupPart.{GroupPart}
use Rattle.ps_config.specs.declared.parts.ReadGroupPart.{ReadGroupPart}
use Rattle.writer_group.specs.Payloads.{meta_at, payloads_of}
use Rattle.writer_group.specs.Sealing.{advanced_by}
use Rattle.writer_group.specs.Sharing.{after_turn}
use Rattle.writer_group.specs.Turns.{GroupDeed, TurnInput, envelope_of, frame_by, frames_in, turn_datagrams}
use Rattle.reader_group.specs.Members.{Seat, MemberValue, seat_at}
use Rattle.reader_group.specs.Opening.{Opened}
use Rattle.reader_group.specs.Plain.{Event, Got, Fed, PlainGroup, Setting, cut_if, is_raised, member_at, receipt_of, step, unfed}
use Rattle.reader_group.specs.Settings.{setting_by}
use Rattle.group_laws.specs.Matching.{IsGroupTurn, IsMatched, ReadsFrames, ReadsWriter}
use Rattle.group_laws.specs.TurnOpened.{turn_opened}
use Rattle.group_laws.specs.TurnReading.{Received, frame_answered, fed_all, IsBehind, IsFixedTurn, IsReadAs, IsReadInSlot, IsSampled}

-- when a datagram comes, and which readers are enabled then
pub record Delivery : Type 0 where
  pub moment : ℕ
  pub on : List Bool

-- the events of datagrams that come, each by one of the deliveries
abbrev pub delivered : List Delivery → List (List ℕ) → List Event
delivered [] datagrams = []
delivered (delivery ∷ deliveries) [] = []
delivered (delivery ∷ deliveries) (datagram ∷ datagrams) = Got delivery.moment delivery.on datagram ∷ delivered deliveries datagrams

-- what is opened of datagrams that come by these deliveries, with their receipts
abbrev pub received : Setting → List Delivery → List Opened → List Received
received setting [] opened = []
received setting (delivery ∷ deliveries) [] = []
received setting (delivery ∷ deliveries) (first ∷ opened) =
    record { receipt = receipt_of setting delivery.moment first; opened = first } ∷ received setting deliveries opened

-- the first of the opened datagrams raises the token
abbrev pub is_first_raised : Setting → Accepted → List Opened → Bool
is_first_raised setting accepted [] = false
is_first_raised setting accepted (first ∷ opened) = is_raised setting accepted first

-- the reader with this index is enabled at each delivery
abbrev pub AreEnabled : ℕ → List Delivery → Type 0
AreEnabled reader deliveries = All (λ delivery. slice_index_or delivery.on reader false ≡ true) deliveries

-- the reader with this index is enabled at no delivery
abbrev pub AreDisabled : ℕ → List Delivery → Type 0
AreDisabled reader deliveries = All (λ delivery. slice_index_or delivery.on reader false ≡ false) deliveries

-- no higher token than the sender's was accepted, and under it no number above its last one
pub record IsSenderAhead (accepted : Accepted) (s : SenderState) : Type 0 where
  pub token : highest accepted ≤ s.keys.token
  pub numbers : All (λ number. number ≤ s.used) (numbers_of accepted s.keys.token)

-- a sender, if there is one, is ahead of a read group that accepted these
abbrev pub IsSenderAheadIf : Accepted → Option SenderState → Type 0
IsSenderAheadIf accepted None = ⊤
IsSenderAheadIf accepted (Some s) = IsSenderAhead accepted s

-- ---- a turn and a reader

-- a turn of a group after some deeds, and a reader of a read group, with what the read group went through before and when the turn's datagrams come to it
pub record Course : Type 0 where
  pub config : Config
  pub group : GroupPart
  pub past : List GroupDeed
  pub input : TurnInput
  pub readers : ReadGroupPart
  pub before : PlainGroup
  pub reader : ℕ
  pub deliveries : List Delivery

abbrev pub its_setting : Course → Setting
its_setting c = setting_by c.config c.readers

abbrev pub its_seat : Course → Seat
its_seat c = seat_at (its_setting c).seats c.reader

abbrev pub its_datagrams : Course → List (List ℕ)
its_datagrams c = turn_datagrams c.config c.group c.past c.input

abbrev pub its_opened : Course → List Opened
its_opened c = turn_opened c.config c.group c.past c.input

abbrev pub all_received : Course → List Received
all_received c = received (its_setting c) c.deliveries (its_opened c)

-- the reader as it is given the first datagram: cut, where that raises the token
abbrev pub member_before : Course → MemberValue
member_before c = cut_if (is_first_raised (its_setting c) c.before.accepted (its_opened c)) NewToken (member_at c.before.members c.reader)

-- the read group after all datagrams of the turn, in order
abbrev pub group_after : Course → PlainGroup
group_after c = fold (step (its_setting c)) c.before (delivered c.deliveries (its_datagrams c))

-- the reader after all datagrams of the turn
abbrev pub member_after : Course → MemberValue
member_after c = member_at (group_after c).members c.reader

-- the sender after the turn
abbrev pub sender_after : Course → Option SenderState
sender_after c =
    option_map (λ s. after_turn s (envelope_of c.config c.group c.past) (payloads_of c.config c.group (frames_in c.group c.past c.input))) c.input.sender

-- a matched read group gets each datagram of the turn once, in order, and accepted nothing that the sender is still to send
pub record IsTakenInOrder (c : Course) : Type 0 where
  pub turn : IsGroupTurn c.config c.group c.past c.input
  pub matched : IsMatched c.config c.group c.readers
  pub each : length c.deliveries ≡ length (its_datagrams c)
  pub ahead : IsSenderAheadIf c.before.accepted c.input.sender

-- a matched read group takes the turn in order, and its reader is enabled meanwhile
pub record IsInOrder (c : Course) : Type 0 where
  pub taken : IsTakenInOrder c
  pub within : c.reader < length (its_setting c).seats
  pub enabled : AreEnabled c.reader c.deliveries

-- what the reader is given of all datagrams
abbrev pub all_fed : Course → Fed
all_fed c = fed_all (its_seat c) (unfed (member_before c)) (all_received c)

-- after the turn the reader is as one that was given this frame, or nothing
pub record IsDelivered (c : Course) (frame : Option Frame) : Type 0 where
  pub member : (all_fed c).member ≡ member_after c
  pub read : IsReadAs (its_seat c) (map (λ r. r.receipt) (all_received c)) (unfed (member_before c)) frame (all_fed c)

-- after the turn the reader is as one that was given this frame out of its slot; where there is none the slot is a bad part
pub record IsDeliveredInSlot (c : Course) (frame : Option Frame) : Type 0 where
  pub member : (all_fed c).member ≡ member_after c
  pub read : IsReadInSlot (its_seat c) (map (λ r. r.receipt) (all_received c)) (unfed (member_before c)) frame (all_fed c)

-- ---- how a turn comes to a reader

-- the frame that a writer of the group answers at the turn, if it answers, cut to the fields of the reader
abbrev pub answer_for : Course → ℕ → Option Frame
answer_for c writer = frame_answered c.group c.past c.input writer (its_seat c)

-- the reader reads this writer of a dynamic group, with a meta that its frames can be read with; where the writer's frame is cut, the reader joins no chunks
-- of a message that isn't older
pub record ComesInFrames (c : Course) (writer : ℕ) : Type 0 where
  pub order : IsInOrder c
  pub dynamic : c.group.layout ≡ layouts.Dynamic
  pub reads : ReadsWriter c.group writer (its_seat c).part
  pub frames : ReadsFrames c.group c.input.told.metas writer (its_seat c).meta
  pub sampled : IsSampled c.group c.past c.input writer
  pub behind : IsBehind c.config.publisher.id c.group (member_before c).joining (frame_by c.group c.past c.input writer)

-- the reader reads this writer of a fixed group, with the meta that the writer's data set has in the configuration
pub record ComesInSlots (c : Course) (writer : ℕ) : Type 0 where
  pub order : IsInOrder c
  pub fixed : c.group.layout ≡ layouts.Fixed
  pub reads : ReadsWriter c.group writer (its_seat c).part
  pub meta : (its_seat c).meta ≡ meta_at c.group c.config.dataset writer
  pub turn : IsFixedTurn c.config c.group c.past c.input

-- the group is dynamic, and has no writer of the id that the reader reads
pub record ComesFromOthers (c : Course) : Type 0 where
  pub order : IsInOrder c
  pub dynamic : c.group.layout ≡ layouts.Dynamic
  pub some : 1 ≤ (its_seat c).part.writer
  pub others : All (λ writer. writer.id ≢ (its_seat c).part.writer) c.group.writer

-- the reader is disabled at each delivery
pub record ComesToDisabled (c : Course) : Type 0 where
  pub taken : IsTakenInOrder c
  pub within : c.reader < length (its_setting c).seats
  pub disabled : AreDisabled c.reader c.deliveries

-- what a sender became: it is ahead of whichever read group it was ahead of
abbrev pub StaysAhead : SenderState → SenderState → Type 0
StaysAhead before after = (accepted : Accepted) → IsSenderAhead accepted before → IsSenderAhead accepted after

-- however many numbers of this mode a sender gives, it is ahead of whichever read group it was ahead of
abbrev pub StaysAheadBy : Mode → SenderState → Type 0
StaysAheadBy mode s = (count : ℕ) → StaysAhead s (advanced_by mode s count)

-- after the turn the reader is as one that was given the writer's frame, or nothing
abbrev pub GetsAnswer : Course → ℕ → Type 0
GetsAnswer c writer = IsDelivered c (answer_for c writer)

-- after the turn the reader is as one that was given the writer's frame out of its slot; where there is none the slot is a bad part
abbrev pub GetsSlot : Course → ℕ → Type 0
GetsSlot c writer = IsDeliveredInSlot c (answer_for c writer)

-- after the turn the sender, if there is one, is ahead of the read group
abbrev pub IsAheadAfter : Course → Type 0
IsAheadAfter c = IsSenderAheadIf (group_after c).accepted (sender_after c)
