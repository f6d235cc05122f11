-- A turn that `Group::tick` had.
use Rattle.std.specs.Prelude.{ℕ, ◌<◌, ◌≤◌, Bool, List, length, Contains, Option, IfSome}
use Rattle.dataset_meta.specs.Metas.{MetaData, IsMeta}
use Rattle.message_guard.specs.Senders.{SenderState}
use Rattle.ps_config.specs.declared.parts.Config.{Config}
use Rattle.ps_config.specs.declared.parts.GroupPart.{GroupPart}
use Rattle.writer_group.specs.declared.datagrams.Datagrams.{Datagrams}
use Rattle.writer_group.specs.declared.group.Group.{Group}
use Rattle.writer_group.specs.declared.sampled.Sampled.{Sampled}
use Rattle.writer_group.specs.Limits.{most_datagrams}
use Rattle.writer_group.specs.Payloads.{meta_at}
use Rattle.writer_group.specs.Standing.{HasTicked, IsGood, MayTick, datagrams_in, input_of}
use Rattle.writer_group.specs.Turns.{GroupDeed, TurnInput}
use Rattle.reader_group.specs.Settings.{keygroup_at}
use Rattle.group_laws.specs.Matching.{IsGroupTurn, IsSenderOf}
use Rattle.group_laws.specs.TurnReading.{IsFixedTurn, IsSampled}

-- a call of `Group::tick` after some deeds: what it is given, the group before and after, and the datagrams
pub record Tick : Type 0 where
  pub config : Config
  pub part : GroupPart
  pub past : List GroupDeed
  pub now : ℕ
  pub closing : Bool
  pub metas : List MetaData
  pub rows : List Sampled
  pub on : List Bool
  pub sender : Option SenderState
  pub group : Group
  pub after : Group
  pub out : Datagrams

abbrev pub tick_input : Tick → TurnInput
tick_input t = input_of t.now t.closing t.metas t.rows t.on t.sender

-- the call's conditions were met, and what it ensures after these deeds holds
pub record WasTick (t : Tick) : Type 0 where
  pub good : IsGood t.config
  pub asked : MayTick t.config t.metas t.rows t.on t.sender t.group t.part
  pub ensured : HasTicked t.config t.part t.past (tick_input t) t.after t.out

-- the group is one of the configuration, its sender is one of its key group, and the call made no more datagrams than it may
pub record WasGroupTick (t : Tick) : Type 0 where
  pub tick : WasTick t
  pub part_is : Contains t.config.group t.part
  pub keyed : IfSome t.sender (λ s. IfSome t.part.keygroup (λ index. IsSenderOf (keygroup_at t.config index) s))
  pub few : length (datagrams_in t.out) ≤ most_datagrams

-- the meta of each of the group's writers is one
abbrev pub AreWriterMetas : Tick → Type 0
AreWriterMetas t = (writer : ℕ) → writer < length t.part.writer → IsMeta (meta_at t.part t.metas writer).fields

-- the turn of the call
abbrev pub IsTurnOfGroup : Tick → Type 0
IsTurnOfGroup t = IsGroupTurn t.config t.part t.past (tick_input t)

abbrev pub IsTurnOfFixed : Tick → Type 0
IsTurnOfFixed t = IsFixedTurn t.config t.part t.past (tick_input t)

-- what the writer with this index answers at the call is a frame of its data set, where its meta is one
abbrev pub IsSampledAt : Tick → ℕ → Type 0
IsSampledAt t writer = IsMeta (meta_at t.part t.metas writer).fields → IsSampled t.part t.past (tick_input t) writer
