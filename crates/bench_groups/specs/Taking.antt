-- What a run of datagrams needs, of the first read group of a configuration.
use Rattle.std.specs.Prelude.{◌≡◌, ◌≤◌, Bool, List, length}
use Rattle.ps_config.specs.declared.parts.Config.{Config}
use Rattle.reader_group.specs.declared.group.ReaderGroup.{ReaderGroup}
use Rattle.reader_group.specs.Groups.{IsMadeOf, index_of}
use Rattle.reader_group.specs.Settings.{group_at}

-- the group is the configuration's first, and there is a truth value for each of its readers
pub record MayTake (config : Config) (on : List Bool) (group : ReaderGroup) : Type 0 where
  pub made : IsMadeOf config group
  pub first : index_of group ≡ 0
  pub on_are : length on ≡ length (group_at config 0).reader
  pub few : length on ≤ 16
