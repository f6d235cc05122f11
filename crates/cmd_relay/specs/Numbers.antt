-- What is printed of a gateway: numbers of 64 bits, and rows of their data sets.
use Rattle.std.specs.Prelude.{ℕ, ◌<◌, List, length, IfSome}
use Rattle.dataset_meta.specs.Rows.{IsRow}
use Rattle.ps_config.specs.declared.parts.Config.{Config}
use Rattle.report_laws.specs.Numbers.{IsNumber, LogHasNumbers}
use Rattle.writer_group.specs.Parts.{group_at}
use Rattle.session_model.specs.Deeds.{log_at}
use Rattle.session_model.specs.Events.{reader_at}
use Rattle.session_model.specs.Steps.{Step}
use Rattle.session_laws.specs.Reading.{IsMatchedIn}
use Rattle.gateway_core.specs.declared.collected.StoreVersion.{StoreVersion}
use Rattle.gateway_core.specs.Lived.{plan_again}
use Rattle.cmd_relay.specs.Telling.{seat_in}
use Rattle.cmd_relay.specs.Texts.{version_held}

-- the number and the version that are printed of a reader which is matched to this writer, and its row
pub record RelayedHasNumbers (second : Config) (steps : List Step) (kept : ℕ → List StoreVersion) (r i g w : ℕ) : Type 0 where
  pub number : IfSome (reader_at second r i steps).kept.number IsNumber
  pub version : IfSome (version_held second steps kept r i g w) IsNumber
  pub row : IfSome (reader_at second r i steps).kept.row (IsRow (seat_in second r i).meta)

-- place and store of each data frame of a writer, and the same of each matched reader
pub record GatewayHasNumbers (second : Config) (steps : List Step) (kept : ℕ → List StoreVersion) : Type 0 where
  pub logs : (g w : ℕ) → w < length (group_at second g).writer → LogHasNumbers (log_at (plan_again second) g w steps)
  pub readers : (r i g w : ℕ) → g < length second.group → IsMatchedIn second r i g w → RelayedHasNumbers second steps kept r i g w
