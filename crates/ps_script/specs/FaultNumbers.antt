-- The numbers and the names of the faults.
use Rattle.std.specs.Prelude.{ℕ, List, [], ◌∷◌, codes}
use Rattle.ps_script.specs.declared.fault.ScriptFault.{ScriptFault}
use Rattle.ps_script.specs.declared.fault.ScriptFault.TheVariants as fault

abbrev pub number_of : ScriptFault → ℕ
number_of fault.BadText = 1
number_of fault.LongLine = 2
number_of fault.UnknownWord = 3
number_of fault.BadShape = 4
number_of fault.BadNumber = 5
number_of fault.UnknownName = 6
number_of fault.BadField = 7
number_of fault.BadValue = 8
number_of fault.BadState = 9
number_of fault.TooMany = 10
number_of fault.BadFate = 11
number_of fault.BadAppend = 12

abbrev pub fault_name : ScriptFault → List ℕ
fault_name fault.BadText = codes "BadText"
fault_name fault.LongLine = codes "LongLine"
fault_name fault.UnknownWord = codes "UnknownWord"
fault_name fault.BadShape = codes "BadShape"
fault_name fault.BadNumber = codes "BadNumber"
fault_name fault.UnknownName = codes "UnknownName"
fault_name fault.BadField = codes "BadField"
fault_name fault.BadValue = codes "BadValue"
fault_name fault.BadState = codes "BadState"
fault_name fault.TooMany = codes "TooMany"
fault_name fault.BadFate = codes "BadFate"
fault_name fault.BadAppend = codes "BadAppend"

-- all of them, by their numbers
abbrev pub all_faults : List ScriptFault
all_faults =
    fault.BadText ∷ fault.LongLine ∷ fault.UnknownWord ∷ fault.BadShape ∷ fault.BadNumber ∷ fault.UnknownName
    ∷ fault.BadField ∷ fault.BadValue ∷ fault.BadState ∷ fault.TooMany ∷ fault.BadFate ∷ fault.BadAppend ∷ []
