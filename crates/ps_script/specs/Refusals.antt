-- What refuses a line.
use Rattle.std.specs.Prelude.{Bool, ℕ, List, [], ◌∷◌, ◌++◌, find, Option}
use Rattle.ps_config.specs.declared.parts.Config.{Config}
use Rattle.ps_script.specs.declared.fault.ScriptFault.{ScriptFault}
use Rattle.ps_script.specs.declared.fault.ScriptFault.TheVariants as fault
use Rattle.ps_script.specs.Verbs.{verb_of}
use Rattle.ps_script.specs.Values.{ValueReader}
use Rattle.ps_script.specs.Past.{Done}
use Rattle.ps_script.specs.Faults.{is_bad_text, is_long, has_unknown_word, is_bad_shape, has_bad_number, has_unknown_name, is_bad_field, is_bad_value, is_bad_state, is_past_limit, is_bad_fate, is_bad_append}

-- the fault stands at this line, after what the lines before have done
unfoldable pub stands : ValueReader → ScriptFault → Config → Bool → Done → List ℕ → Bool
stands reader fault.BadText config takes_fates done line = is_bad_text line
stands reader fault.LongLine config takes_fates done line = is_long line
stands reader fault.UnknownWord config takes_fates done line = has_unknown_word line
stands reader fault.BadShape config takes_fates done line = is_bad_shape line
stands reader fault.BadNumber config takes_fates done line = has_bad_number line
stands reader fault.UnknownName config takes_fates done line = has_unknown_name config done line
stands reader fault.BadField config takes_fates done line = is_bad_field done line (verb_of line)
stands reader fault.BadValue config takes_fates done line = is_bad_value reader done line (verb_of line)
stands reader fault.BadState config takes_fates done line = is_bad_state config done line (verb_of line)
stands reader fault.TooMany config takes_fates done line = is_past_limit done (verb_of line)
stands reader fault.BadFate config takes_fates done line = is_bad_fate takes_fates done line (verb_of line)
stands reader fault.BadAppend config takes_fates done line = is_bad_append config done line (verb_of line)

-- the faults in the order in which they are judged, up to the last
unfoldable pub early_faults : List ScriptFault
early_faults =
    fault.BadText ∷ fault.LongLine ∷ fault.UnknownWord ∷ fault.BadShape ∷ fault.BadNumber ∷ fault.UnknownName
    ∷ fault.BadField ∷ fault.BadValue ∷ fault.BadState ∷ fault.TooMany ∷ fault.BadFate ∷ []

-- all of them: the last is judged with the data set grown
abbrev pub faults : List ScriptFault
faults = early_faults ++ fault.BadAppend ∷ []

-- the first of these faults that stands at the line
abbrev pub first_of : ValueReader → List ScriptFault → Config → Bool → Done → List ℕ → Option ScriptFault
first_of reader faults config takes_fates done line = find (λ fault. stands reader fault config takes_fates done line) faults

abbrev pub fault_of : ValueReader → Config → Bool → Done → List ℕ → Option ScriptFault
fault_of reader config takes_fates done line = first_of reader faults config takes_fates done line
