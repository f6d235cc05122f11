-- A session on one thread, with what its calls are given.
use Rattle.std.specs.Prelude.{◌≡◌, ◌<◌, false, List, length, All, IsSome}
use Rattle.dataset_meta.specs.Metas.{MetaData}
use Rattle.version_cell.specs.Known.{Known}
use Rattle.version_cell.specs.Cells.{CellData}
use Rattle.version_cell.specs.Sets.{ArePassesOf, cell_at, pass_at}
use Rattle.ps_config.specs.declared.parts.Config.{Config}
use Rattle.ps_config.specs.Configs.{is_long}
use Rattle.ps_config.specs.Sound.{readers}
use Rattle.pubsub_states.specs.declared.component.Component.TheVariants.{Reader}
use Rattle.pubsub_states.specs.Components.{IsAmong, counts_of}
use Rattle.reader_group.specs.Settings.{group_at, keygroup_at}
use Rattle.pubsub_engine.specs.Holding.{AreTargetsOf, IsBankOf, IsRunning, IsSession, left_of, plan_of}
use Rattle.test_sessions.specs.declared.device.Device.{Device}

-- the configuration has a key group, whose keys are short, and a read group with a reader
pub record IsSmall (config : Config) : Type 0 where
  pub keyed : 0 < length config.keygroup
  pub short : is_long (keygroup_at config 0).policy ≡ false
  pub grouped : 0 < length config.readgroup
  pub read : 0 < length (group_at config 0).reader
  pub listed : 0 < length (readers config)
  pub among : IsAmong (counts_of config) (Reader 0 0)

-- one cell, of this meta
pub record IsBank (meta : MetaData) (bank : List CellData) : Type 0 where
  pub one : length bank ≡ 1
  pub meta_is : (cell_at bank 0).meta ≡ meta

-- the passes of an author of the bank
pub record IsHand (bank : List CellData) (passes : List Known) : Type 0 where
  pub own : ArePassesOf bank passes
  pub numbered : IsSome (pass_at passes 0).author

-- its session may have as many ticks as it says, and then the closing one
pub record IsDevice (device : Device) : Type 0 where
  pub session_is : IsSession device.session
  pub small : IsSmall (plan_of device.session).config
  pub bank_is : IsBankOf device.session device.bank
  pub targets_are : AreTargetsOf device.session device.targets
  pub running : IsRunning device.session
  pub left : device.ticks < (left_of device.session).ticks
  pub cell_is : IsBank device.meta.now device.bank
  pub hands_are : All (IsHand device.bank) device.hands.items
