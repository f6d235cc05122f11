-- What a refusal says: the first line that has a fault, and the first of its faults in their order.
use Rattle.std.specs.Prelude.{◌≡◌, ℕ, Bool, true, false, List, ◌∷◌, ◌++◌, length}
use Rattle.std.specs.List.{fold, AllByRecursion}
use Rattle.ps_config.specs.declared.parts.Config.{Config}
use Rattle.ps_script.specs.declared.fault.ScriptFault.{ScriptFault}
use Rattle.ps_script.specs.Texts.{lines_of}
use Rattle.ps_script.specs.Values.{ValueReader}
use Rattle.ps_script.specs.Past.{Done, nothing_done, after}
use Rattle.ps_script.specs.Refusals.{stands, faults}
use Rattle.ps_script.specs.Acts.{next_number}

-- what lines have done, one after another
abbrev pub done_behind : Config → List (List ℕ) → Done
done_behind config lines = fold (after config) (nothing_done config) lines

-- the fault doesn't stand at the line after these
abbrev pub StandsNot : ValueReader → Config → Bool → List (List ℕ) → List ℕ → ScriptFault → Type 0
StandsNot reader config takes_fates before line fault =
    stands reader fault config takes_fates (done_behind config before) line ≡ false

-- none of the faults stands at the line after these
abbrev pub IsFaultless : ValueReader → Config → Bool → List (List ℕ) → List ℕ → Type 0
IsFaultless reader config takes_fates before line = AllByRecursion (StandsNot reader config takes_fates before line) faults

-- the fault stands at the line after these, and none of those that are before it in their order
pub record IsFirstFault (reader : ValueReader) (config : Config) (takes_fates : Bool) (before : List (List ℕ)) (line : List ℕ)
    (fault : ScriptFault) : Type 0 where
  pub front : List ScriptFault
  pub back : List ScriptFault
  pub order : faults ≡ front ++ fault ∷ back
  pub here : stands reader fault config takes_fates (done_behind config before) line ≡ true
  pub none_before : AllByRecursion (StandsNot reader config takes_fates before line) front

-- the line with this number, from 1, is the first at which a fault stands, and the fault is its first. The count of lines
-- stands at its type's end
pub record IsRefusedBy (reader : ValueReader) (config : Config) (takes_fates : Bool) (bytes : List ℕ) (number : ℕ)
    (fault : ScriptFault) : Type 0 where
  pub before : List (List ℕ)
  pub line : List ℕ
  pub behind : List (List ℕ)
  pub whole : lines_of bytes ≡ before ++ line ∷ behind
  pub number_is : number ≡ next_number (length before)
  pub first : IsFirstFault reader config takes_fates before line fault
  pub none_before : (front : List (List ℕ)) (other : List ℕ) (back : List (List ℕ))
      → before ≡ front ++ other ∷ back → IsFaultless reader config takes_fates front other

-- no fault stands at any line
abbrev pub IsAccepted : ValueReader → Config → Bool → List ℕ → Type 0
IsAccepted reader config takes_fates bytes =
    (before : List (List ℕ)) (line : List ℕ) (behind : List (List ℕ))
    → lines_of bytes ≡ before ++ line ∷ behind → IsFaultless reader config takes_fates before line
