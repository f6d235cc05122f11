-- Closed sessions that a report tells.
use Rattle.ps_config.specs.declared.parts.Config.{Config}
use Rattle.ps_report.specs.declared.closed.Closed.{Closed}
use Rattle.ps_report.specs.Conditions.{IsClosedOf}
use Rattle.report_laws.specs.Numbers.{HasNumbers}
use Rattle.report_laws.specs.ReaderNames.{NamesReaders}

-- a closed session of the configuration, whose readers are named, with numbers of 64 bits
pub record IsReported (config : Config) (closed : Closed) : Type 0 where
  pub names : NamesReaders config
  pub numbers : HasNumbers closed
  pub closed_of : IsClosedOf config closed
