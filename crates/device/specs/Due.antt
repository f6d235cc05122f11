-- The next moment at which a publisher has something to do, and that at which a reader times out.
use Rattle.std.specs.Prelude.{◌≡◌, ℕ, ◌^◌, ◌<◌, ◌≤◌, ◌⊎◌, Bool, true, false, List, length, find, min, nat_lt, All, Option, Some, None}
use Rattle.std.specs.List.{Any, HoldsAt}
use Rattle.group_keys.specs.declared.key_set.KeySet.{KeySet}
use Rattle.message_guard.specs.Senders.{SenderState}
use Rattle.ps_config.specs.declared.parts.Config.{Config}
use Rattle.receive_timer.specs.Told.{is_due}
use Rattle.reader_group.specs.Groups.{Stands, reader_count}
use Rattle.reader_group.specs.Members.{seat_at}
use Rattle.reader_group.specs.Plain.{PlainGroup, Setting, member_at}
use Rattle.reader_group.specs.declared.group.ReaderGroup.{ReaderGroup}
use Rattle.writer_group.specs.Standing.{TellsDue}
use Rattle.writer_group.specs.declared.sampled.Sampled.{Sampled}
use Rattle.device.specs.declared.listening.Listening.{Listening}
use Rattle.device.specs.declared.publisher.Publisher.{Publisher}
use Rattle.device.specs.declared.side.Side.{Side}
use Rattle.device.specs.Coming.{HasNewToken}
use Rattle.device.specs.Sides.{MayNotTurn, MayTurn, sender_for}

-- ---- the first of many moments

-- it is the first moment of 64 bits from `now` on at which something is due
pub record IsFirst (now : ℕ) (Calm Due : ℕ → Type 0) (moment : ℕ) : Type 0 where
  pub from_now : now ≤ moment
  pub within : moment < 2 ^ 64
  pub calm : (t : ℕ) → now ≤ t → t < moment → Calm t
  pub due : Due moment

-- from `now` on nothing is at any such moment
abbrev pub IsNever : ℕ → (ℕ → Type 0) → Type 0
IsNever now Calm = (t : ℕ) → now ≤ t → t < 2 ^ 64 → Calm t

-- the first moment is told, or that there is none
abbrev pub TellsFirst : ℕ → (ℕ → Type 0) → (ℕ → Type 0) → Option ℕ → Type 0
TellsFirst now Calm Due None = IsNever now Calm
TellsFirst now Calm Due (Some moment) = IsFirst now Calm Due moment

-- the earlier of two that may be none
abbrev pub earlier : Option ℕ → Option ℕ → Option ℕ
earlier None other = other
earlier (Some one) None = Some one
earlier (Some one) (Some other) = Some (min one other)

-- ---- groups

-- at the moment the group isn't due, or it may have no turn
abbrev pub SitsOut : Config → List Sampled → List SenderState → ℕ → Side → Type 0
SitsOut config rows senders t side = TellsDue side.group t false ⊎ MayNotTurn config rows (sender_for config senders side.index) side

-- the group is due at the moment, and may have its turn
pub record HasTurnDue (config : Config) (rows : List Sampled) (senders : List SenderState) (t : ℕ) (side : Side) : Type 0 where
  pub due : TellsDue side.group t true
  pub may : MayTurn config rows (sender_for config senders side.index) side

-- ---- key groups

-- the first set of a higher token
abbrev pub first_above : List KeySet → ℕ → Option KeySet
first_above sets token = find (λ set. nat_lt token set.token) sets

-- the sender has the same token at the moment
abbrev pub KeepsToken : ℕ → SenderState → Type 0
KeepsToken t sender = ¬ HasNewToken t sender

-- ---- a publisher

-- at the moment no group is due that may have its turn, and each sender keeps its token
pub record IsCalm (publisher : Publisher) (t : ℕ) : Type 0 where
  pub groups : All (SitsOut publisher.config publisher.rows.items publisher.senders.items t) publisher.sides.items
  pub keys : All (KeepsToken t) publisher.senders.items

-- a group is due that may have its turn, or a sender has a new token
abbrev pub IsDue : Publisher → ℕ → Type 0
IsDue publisher t =
    Any (HasTurnDue publisher.config publisher.rows.items publisher.senders.items t) publisher.sides.items
    ⊎ Any (HasNewToken t) publisher.senders.items

-- ---- groups that are spent

-- whether the group with this index can have no turn
abbrev pub TellsSpent : Publisher → Bool → Side → Type 0
TellsSpent publisher true side = MayNotTurn publisher.config publisher.rows.items (sender_for publisher.config publisher.senders.items side.index) side
TellsSpent publisher false side = MayTurn publisher.config publisher.rows.items (sender_for publisher.config publisher.senders.items side.index) side

pub record IsSpentAt (group : ℕ) (publisher : Publisher) (spent : Bool) : Type 0 where
  pub within : group < length publisher.sides.items
  pub is : HoldsAt (TellsSpent publisher spent) publisher.sides.items group

-- ---- a subscriber's timeouts

-- the timer of the reader with this index hasn't run out at the moment
abbrev pub IsInTime : ℕ → ℕ → ReaderGroup → Type 0
IsInTime t reader group =
    (setting : Setting) (plain : PlainGroup) → Stands setting plain group
    → is_due (seat_at setting.seats reader).part.timeout (member_at plain.members reader).told t ≡ false

-- it has
abbrev pub TimesOut : ℕ → ℕ → ReaderGroup → Type 0
TimesOut t reader group =
    (setting : Setting) (plain : PlainGroup) → Stands setting plain group
    → is_due (seat_at setting.seats reader).part.timeout (member_at plain.members reader).told t ≡ true

-- the timer of no reader of the read group has
abbrev pub AreInTime : ℕ → Listening → Type 0
AreInTime t listening = (reader : ℕ) → reader < reader_count listening.group → IsInTime t reader listening.group

-- that of some reader has
pub record HasTimeout (t : ℕ) (listening : Listening) : Type 0 where
  pub reader : ℕ
  pub within : reader < reader_count listening.group
  pub late : TimesOut t reader listening.group
