-- What is told where there is no configuration.
use Rattle.std.specs.Prelude.{ℕ, ◌==◌, List, [], ◌++◌, codes, find}
use Rattle.std.specs.Fmt.{decimal}
use Rattle.std.specs.Option.{option_map_or}
use Rattle.config_tables.specs.FaultNumbers.{number_of, fault_name, all_faults}
use Rattle.ps_config.specs.declared.read.ConfigEnd.{ConfigEnd}
use Rattle.ps_config.specs.declared.read.ConfigEnd.TheVariants.{Refused, Memory}

-- the name of the fault that has this number
abbrev pub name_numbered : ℕ → List ℕ
name_numbered code = option_map_or fault_name (find (λ fault. number_of fault == code) all_faults) []

-- `Cn NAME PATH`
abbrev pub refused_text : ℕ → List ℕ → List ℕ
refused_text code path = codes "C" ++ decimal code ++ codes " " ++ name_numbered code ++ codes " " ++ path

abbrev pub config_end : ConfigEnd → List ℕ
config_end (Refused code path) = refused_text code path
config_end Memory = codes "out of memory"
