-- What a text of lanes tells: how many datagrams were sent, and the log of each writer.
use Rattle.std.specs.Prelude.{◌≡◌, ℕ, ◌<◌, List, length, slice_index}
use Rattle.ps_config.specs.declared.parts.Config.{Config}
use Rattle.ps_config.specs.declared.parts.GroupPart.{GroupPart}
use Rattle.report_laws.specs.Numbers.{IsNumber, LogHasNumbers}
use Rattle.writer_group.specs.Parts.{group_at}
use Rattle.cmd_lanes.specs.Sends.{Counts}
use Rattle.cmd_lanes.specs.Texts.{Logs}

-- ---- numbers of 64 bits

abbrev pub LogsHaveNumbers : GroupPart → (ℕ → List (ℕ × ℕ)) → Type 0
LogsHaveNumbers part logs = (w : ℕ) → w < length part.writer → LogHasNumbers (logs w)

pub record GroupHasNumbers (config : Config) (counts : Counts) (logs : Logs) (g : ℕ) : Type 0 where
  pub sent : IsNumber (slice_index counts.sent g)
  pub writers : LogsHaveNumbers (group_at config g) (logs g)

abbrev pub GroupsHaveNumbers : Config → Counts → Logs → Type 0
GroupsHaveNumbers config counts logs = (g : ℕ) → g < length config.group → GroupHasNumbers config counts logs g

pub record HaveNumbers (config : Config) (counts : Counts) (logs : Logs) : Type 0 where
  pub groups : GroupsHaveNumbers config counts logs
  pub all : IsNumber counts.all
  pub failed : IsNumber counts.failed

-- ---- the same

-- as many datagrams of the group were sent, and each of its writers has the same log
pub record IsGroupAlike (config : Config) (one other : Counts) (logs others : Logs) (g : ℕ) : Type 0 where
  pub sent : slice_index one.sent g ≡ slice_index other.sent g
  pub writers : (w : ℕ) → w < length (group_at config g).writer → logs g w ≡ others g w

-- and as many of all groups, and as many couldn't be
pub record AreToldAlike (config : Config) (one other : Counts) (logs others : Logs) : Type 0 where
  pub groups : (g : ℕ) → g < length config.group → IsGroupAlike config one other logs others g
  pub all : one.all ≡ other.all
  pub failed : one.failed ≡ other.failed
