-- What holds of a session between its calls, whatever it lived through: the conditions of the calls below.
use Rattle.std.specs.Prelude.{◌≡◌, ◌≢◌, ℕ, ◌<◌, List, length, All, vec_len}
use Rattle.std.specs.List.{HoldsAt}
use Rattle.dataset_meta.specs.Metas.{MetaData}
use Rattle.message_guard.specs.Senders.{SenderState, IsSender}
use Rattle.ps_config.specs.declared.parts.Config.{Config}
use Rattle.writer_group.specs.declared.group.Group.{Group}
use Rattle.writer_group.specs.Standing.{AreLogged, IsMadeFor, IsReserved, MayGoOn, metas_for, index_of}
use Rattle.reader_group.specs.declared.group.ReaderGroup.{ReaderGroup}
use Rattle.reader_group.specs.Groups.{IsMadeOf, index_of as read_index_of}
use Rattle.session_model.specs.Counts.{longest_datagram}
use Rattle.session_model.specs.Sets.{meta_in}
use Rattle.writer_group.specs.Parts.{group_at}
use Rattle.session_parts.specs.declared.publisher.Publisher.{Publisher}
use Rattle.session_parts.specs.declared.subscriber.Subscriber.{Subscriber}
use Rattle.session_parts.specs.declared.receiving.Receiving.{Receiving}

-- ---- the publisher

-- the group with this index
pub record IsGroupOf (config : Config) (g : ℕ) (group : Group) : Type 0 where
  pub index : index_of group ≡ g
  pub made : IsMadeFor config (group_at config g) group

pub record AreGroups (config : Config) (groups : List Group) : Type 0 where
  pub count : length groups ≡ length config.group
  pub each : (g : ℕ) → g < length config.group → HoldsAt (IsGroupOf config g) groups g

-- each group may go on with these metas for so many turns
abbrev pub MayAllGoOn : Config → List MetaData → ℕ → List Group → Type 0
MayAllGoOn config metas turns groups =
    (g : ℕ) → g < length config.group → HoldsAt (MayGoOn (metas_for (group_at config g) metas) (group_at config g) turns) groups g

-- the log of each writer of each group keeps so many data frames
abbrev pub AreAllLogged : ℕ → List Group → Type 0
AreAllLogged most groups = All (AreLogged most) groups

-- it keeps as many as before
abbrev pub AreStillLogged : List Group → List Group → Type 0
AreStillLogged old new = (most : ℕ) → AreAllLogged most old → AreAllLogged most new

pub record AreSenders (config : Config) (senders : List SenderState) : Type 0 where
  pub count : length senders ≡ length config.keygroup
  pub each : All IsSender senders

pub record HoldPublisher (config : Config) (publisher : Publisher) : Type 0 where
  pub groups : AreGroups config publisher.groups.items
  pub senders : AreSenders config publisher.senders.items
  pub reserved : IsReserved publisher.out
  pub sends : vec_len publisher.sends ≡ length config.group

-- ---- the subscriber

pub record MayReceive (config : Config) (r : ℕ) (group : ReaderGroup) : Type 0 where
  pub index : read_index_of group ≡ r
  pub made : IsMadeOf config group

pub record AreReadGroups (config : Config) (groups : List ReaderGroup) : Type 0 where
  pub count : length groups ≡ length config.readgroup
  pub each : (r : ℕ) → r < length config.readgroup → HoldsAt (MayReceive config r) groups r

pub record HoldSubscriber (config : Config) (subscriber : Subscriber) : Type 0 where
  pub groups : AreReadGroups config subscriber.groups.items
  pub tallies : vec_len subscriber.tallies ≡ length config.readgroup

-- room for the longest datagram, twice
pub record HasBuffers (receiving : Receiving) : Type 0 where
  pub buffer : vec_len receiving.buffer ≡ longest_datagram
  pub copy : vec_len receiving.copy ≡ longest_datagram

-- the metas of the other data sets are as they were
abbrev pub AreSameButSet : ℕ → List MetaData → List MetaData → Type 0
AreSameButSet set metas others = (k : ℕ) → k ≢ set → meta_in others k ≡ meta_in metas k
