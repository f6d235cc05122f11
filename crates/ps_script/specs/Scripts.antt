-- Accepted script: what a text means, or the first line that has a fault, and of its faults the least.
use Rattle.std.specs.Prelude.{◌≡◌, ℕ, Bool, true, false, List, [], ◌∷◌, Option, Some, None, Result, Ok, Err, IfOk, IfErr, ⊤}
use Rattle.dataset_meta.specs.Metas.{MetaData}
use Rattle.ps_config.specs.declared.parts.Config.{Config}
use Rattle.ps_script.specs.declared.fault.ScriptFault.{ScriptFault}
use Rattle.ps_script.specs.declared.fault.ScriptFault.TheVariants.{BadAppend}
use Rattle.ps_script.specs.declared.script.Script.{Script}
use Rattle.ps_script.specs.declared.read.ScriptEnd.{ScriptEnd}
use Rattle.ps_script.specs.declared.read.ScriptEnd.TheVariants.{Refused, Memory}
use Rattle.ps_script.specs.Texts.{lines_of}
use Rattle.ps_script.specs.Values.{ValueReader}
use Rattle.ps_script.specs.Past.{Done, nothing_done, after}
use Rattle.ps_script.specs.Verbs.{verb_of}
use Rattle.ps_script.specs.Faults.{is_bad_append}
use Rattle.ps_script.specs.Refusals.{fault_of}
use Rattle.ps_script.specs.Acts.{next_number, acts_from}

-- refused at this line, or what the lines after it give
abbrev pub refused_or : ℕ → Option ScriptFault → Result Done (ℕ × ScriptFault) → Result Done (ℕ × ScriptFault)
refused_or number (Some fault) rest = Err (number, fault)
refused_or number None rest = rest

-- what all lines have done, or the number of the first line with a fault, and the least of its faults
abbrev pub judged_from : ValueReader → Config → Bool → Done → ℕ → List (List ℕ) → Result Done (ℕ × ScriptFault)
judged_from reader config takes_fates done number [] = Ok done
judged_from reader config takes_fates done number (line ∷ lines) =
    refused_or number (fault_of reader config takes_fates done line)
    (judged_from reader config takes_fates (after config done line) (next_number number) lines)

-- lines count from 1
unfoldable pub judged : ValueReader → Config → Bool → List ℕ → Result Done (ℕ × ScriptFault)
judged reader config takes_fates bytes = judged_from reader config takes_fates (nothing_done config) 1 (lines_of bytes)

-- the lines of the script, and its data sets with all fields that it appends
unfoldable pub script_with : ValueReader → Config → List ℕ → List MetaData → Script
script_with reader config bytes metas = record { lines = acts_from reader config metas 1 (lines_of bytes); metas = metas }

abbrev pub script_by : ValueReader → Config → List ℕ → Result Done (ℕ × ScriptFault) → Result Script (ℕ × ScriptFault)
script_by reader config bytes (Ok done) = Ok (script_with reader config bytes done.metas)
script_by reader config bytes (Err end) = Err end

-- accepted, or refused
abbrev pub script : ValueReader → Config → List ℕ → Bool → Result Script (ℕ × ScriptFault)
script reader config bytes takes_fates = script_by reader config bytes (judged reader config takes_fates bytes)

-- what an end says of what was judged
abbrev pub IsEndOf : {T : Type 0} → Result T (ℕ × ScriptFault) → ScriptEnd → Type 0
IsEndOf judgement Memory = ⊤
IsEndOf judgement (Refused line fault) = judgement ≡ Err (line, fault)

-- what an end other than a script says
abbrev pub IsEnd : Result Script (ℕ × ScriptFault) → ScriptEnd → Type 0
IsEnd judgement end = IsEndOf judgement end

-- a result that is a script is the one that the bytes are
abbrev pub IsScriptOf : Config → List ℕ → Bool → Result Script ScriptEnd → Type 0
IsScriptOf config bytes takes_fates result =
    (reader : ValueReader) → IfOk result (λ found. script reader config bytes takes_fates ≡ Ok found)

-- a result that is an end tells what refuses the bytes, unless memory ran out
abbrev pub IsRefusalOf : Config → List ℕ → Bool → Result Script ScriptEnd → Type 0
IsRefusalOf config bytes takes_fates result =
    (reader : ValueReader) → IfErr result (IsEnd (script reader config bytes takes_fates))

-- what a line gives: the first of its faults, or what is done then
abbrev pub Steps : ValueReader → Config → Bool → Done → Done → List ℕ → Option ScriptFault → Type 0
Steps reader config takes_fates done next line (Some fault) = fault_of reader config takes_fates done line ≡ Some fault
Steps reader config takes_fates done next line None =
    (fault_of reader config takes_fates done line ≡ None) × (next ≡ after config done line)

-- the same of a line without an early fault
abbrev pub Passes : Config → Done → Done → List ℕ → Option ScriptFault → Type 0
Passes config done next line (Some fault) = (fault ≡ BadAppend) × (is_bad_append config done line (verb_of line) ≡ true)
Passes config done next line None =
    (is_bad_append config done line (verb_of line) ≡ false) × (next ≡ after config done line)
