-- What the ends of reading say of themselves.
use Rattle.std.specs.Prelude.{ℕ, List, ◌++◌, codes}
use Rattle.std.specs.Fmt.{decimal}
use Rattle.ps_script.specs.declared.read.ScriptEnd.{ScriptEnd}
use Rattle.ps_script.specs.declared.read.ScriptEnd.TheVariants.{Refused, Memory}
use Rattle.ps_script.specs.FaultNumbers.{fault_name}

-- the number of the line and the name of its fault
abbrev pub script_end : ScriptEnd → List ℕ
script_end (Refused line fault) = codes "line " ++ decimal line ++ codes ": " ++ fault_name fault
script_end Memory = codes "out of memory"
