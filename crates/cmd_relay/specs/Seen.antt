-- What is seen of a gateway's numbers by walking through it.
use Rattle.std.specs.Prelude.{ℕ, List, All, IfSome}
use Rattle.dataset_meta.specs.Rows.{IsRow}
use Rattle.ps_config.specs.declared.parts.Config.{Config}
use Rattle.report_laws.specs.Numbers.{IsNumber, LogHasNumbers}
use Rattle.session_model.specs.Deeds.{log_at}
use Rattle.session_model.specs.Events.{reader_at}
use Rattle.session_model.specs.Steps.{Step}
use Rattle.gateway_core.specs.declared.collected.StoreVersion.{StoreVersion}
use Rattle.gateway_core.specs.Lived.{plan_again, version_in}
use Rattle.cmd_relay.specs.Telling.{seat_in}

-- the version that is told of the store of an entry has 64 bits
abbrev pub HasVersion : List StoreVersion → ℕ × ℕ → Type 0
HasVersion kept entry = IfSome (version_in kept entry.1) IsNumber

-- the log of a writer, and the versions that are told of its stores; `kept` has those of the source of its data set
pub record LogIsSeen (second : Config) (steps : List Step) (kept : List StoreVersion) (g w : ℕ) : Type 0 where
  pub log : LogHasNumbers (log_at (plan_again second) g w steps)
  pub versions : All (HasVersion kept) (log_at (plan_again second) g w steps)

-- what a reader holds
pub record ReaderIsSeen (second : Config) (steps : List Step) (r i : ℕ) : Type 0 where
  pub number : IfSome (reader_at second r i steps).kept.number IsNumber
  pub row : IfSome (reader_at second r i steps).kept.row (IsRow (seat_in second r i).meta)
