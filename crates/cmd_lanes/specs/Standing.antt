-- Lanes that have had their turns, and the logs of their writers.
use Rattle.std.specs.Prelude.{◌≡◌, ℕ, ◌+◌, ◌<◌, List, true, length, slice_index, slice_index_or}
use Rattle.pubsub_model.specs.Cadence.{log_of}
use Rattle.dataset_writer.specs.Turns.{model_settings}
use Rattle.ps_config.specs.declared.parts.Config.{Config}
use Rattle.ps_config.specs.declared.parts.GroupPart.{GroupPart}
use Rattle.writer_group.specs.declared.group.Group.{Group}
use Rattle.writer_group.specs.Parts.{group_at}
use Rattle.writer_group.specs.Payloads.{writer_at}
use Rattle.writer_group.specs.Turns.{GroupDeed, settings_of, writer_past}
use Rattle.session_model.specs.Answers.{counted}
use Rattle.session_model.specs.Deeds.{Deed, group_past}
use Rattle.lane_groups.specs.declared.lane.Lane.{Lane}
use Rattle.lane_groups.specs.declared.running.Ran.{Ran}
use Rattle.lane_groups.specs.Lanes.{IsGroupIn, IsLane, IsLoggedIn, IsMadeIn, Stands, has_group}
use Rattle.cmd_lanes.specs.Sends.{Counts}

-- the group with this index stands in one of these lanes
pub record IsHad (lanes : List Lane) (g : ℕ) : Type 0 where
  pub lane : ℕ
  pub within : lane < length lanes
  pub there : (none : Lane) → has_group (slice_index_or lanes lane none) g ≡ true

-- lanes of the configuration, with each of its groups
pub record HaveGroups (config : Config) (lanes : List Lane) : Type 0 where
  pub each : (lane : ℕ) (none : Lane) → lane < length lanes → IsLane config (slice_index_or lanes lane none)
  pub had : (g : ℕ) → g < length config.group → IsHad lanes g

-- they stand where these deeds leave them
abbrev pub StandAll : Config → List Deed → List Lane → Type 0
StandAll config deeds lanes = (lane : ℕ) (none : Lane) → lane < length lanes → Stands config deeds (slice_index_or lanes lane none)

-- this is the group with this index in one of these lanes
pub record IsGroupOf (lanes : List Lane) (g : ℕ) (group : Group) : Type 0 where
  pub lane : ℕ
  pub within : lane < length lanes
  pub stands : (none : Lane) → IsGroupIn (slice_index_or lanes lane none) g group
  pub made : (none : Lane) → IsMadeIn (slice_index_or lanes lane none) g group
  pub logs : (none : Lane) → IsLoggedIn (slice_index_or lanes lane none) g group

-- the log of a writer of a group with this past
abbrev pub log_in : GroupPart → List GroupDeed → ℕ → List (ℕ × ℕ)
log_in part past w = log_of (model_settings (settings_of (writer_at part w))) (writer_past w past)

-- the logs that these deeds leave
abbrev pub logs_by : Config → List Deed → ℕ → ℕ → List (ℕ × ℕ)
logs_by config deeds g = log_in (group_at config g) (group_past config g deeds)

-- the sum over all groups, of which there are four at most
abbrev pub all_of : List ℕ → ℕ
all_of sent = slice_index sent 0 + slice_index sent 1 + slice_index sent 2 + slice_index sent 3

abbrev pub counts_of : Ran → Counts
counts_of ran = record { sent = ran.sent; all = counted (all_of ran.sent); failed = ran.failed }
