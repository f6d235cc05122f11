-- A device: what its bank, its threads and its turns are made of.
use Rattle.std.specs.Prelude.{◌≡◌, ℕ, ◌<◌, ◌≤◌, true, List, length, All, IsSome}
use Rattle.std.specs.List.{HoldsAt}
use Rattle.dataset_meta.specs.Metas.{MetaData}
use Rattle.message_guard.specs.Senders.{IsSender}
use Rattle.version_cell.specs.Known.{Known}
use Rattle.version_cell.specs.Cells.{CellData, IsCell}
use Rattle.version_cell.specs.Sets.{ArePassesOf, cell_at, pass_at}
use Rattle.ps_config.specs.declared.parts.Config.{Config}
use Rattle.ps_config.specs.declared.parts.GroupPart.{GroupPart}
use Rattle.ps_config.specs.Headers.{is_secured}
use Rattle.writer_group.specs.declared.group.Group.{Group}
use Rattle.writer_group.specs.Standing.{IsGood, IsMadeFor, IsReserved, MayGoOn, index_of, metas_for}
use Rattle.example_publisher.specs.declared.device.Device.{Device}
use Rattle.example_publisher.specs.declared.filling.Worker.{Worker}
use Rattle.example_publisher.specs.declared.making.Plant.{Plant}

-- one cell, of this meta
pub record IsBank (meta : MetaData) (bank : List CellData) : Type 0 where
  pub cells : All IsCell bank
  pub one : length bank ≡ 1
  pub meta_is : (cell_at bank 0).meta ≡ meta

-- the passes of an author of the bank
pub record IsHand (bank : List CellData) (passes : List Known) : Type 0 where
  pub own : ArePassesOf bank passes
  pub numbered : IsSome (pass_at passes 0).author

-- a thread with such passes
abbrev pub IsWorker : List CellData → Worker → Type 0
IsWorker bank worker = IsHand bank worker.passes

abbrev pub AreWorkers : List CellData → List Worker → Type 0
AreWorkers bank workers = All (IsWorker bank) workers

-- the only group may have so many turns more, is secured, and has a truth value for each writer
pub record IsGroupOf (config : Config) (turns switches : ℕ) (group : Group) (part : GroupPart) : Type 0 where
  pub made : IsMadeFor config part group
  pub goes_on : MayGoOn (metas_for part config.dataset) part turns group
  pub secured : is_secured part.security ≡ true
  pub on : switches ≡ length part.writer

-- what it is made of, with a group that may have as many turns more as it says, and with numbers that were reserved before they were used
pub record IsDevice (bank : List CellData) (device : Device) : Type 0 where
  pub good : IsGood device.config.now
  pub first : index_of device.group ≡ 0
  pub there : 0 < length device.config.now.group
  pub one_set : length device.config.now.dataset ≡ 1
  pub bank_is : HoldsAt (λ meta. IsBank meta bank) device.config.now.dataset 0
  pub group_is : HoldsAt (IsGroupOf device.config.now device.left (length device.on.items) device.group) device.config.now.group 0
  pub sender_is : IsSender device.sender
  pub reserved : device.sender.used ≤ device.numbers.reserved
  pub own : ArePassesOf bank device.passes
  pub out_is : IsReserved device.out

pub record IsPlant (plant : Plant) : Type 0 where
  pub bank_is : IsBank plant.meta.now plant.bank
  pub workers_are : AreWorkers plant.bank plant.workers.items
  pub device_is : IsDevice plant.bank plant.device
