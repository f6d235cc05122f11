-- The numbers and the names of the faults.
use Rattle.std.specs.Prelude.{ℕ, Bool, ◌==◌, List, [], ◌∷◌, codes}
use Rattle.config_tables.specs.declared.fault.Fault.{Fault}
use Rattle.config_tables.specs.declared.fault.Fault.TheVariants as fault

abbrev pub number_of : Fault → ℕ
number_of fault.BadToml = 1
number_of fault.UnknownKey = 2
number_of fault.MissingKey = 3
number_of fault.WrongType = 4
number_of fault.TooMany = 5
number_of fault.BadName = 6
number_of fault.DoubleName = 7
number_of fault.BadPublisher = 8
number_of fault.BadNumber = 9
number_of fault.BadChoice = 10
number_of fault.BadUuid = 11
number_of fault.BadHex = 12
number_of fault.BadField = 13
number_of fault.NoFields = 14
number_of fault.TooWide = 15
number_of fault.KeyOrder = 16
number_of fault.UnknownRef = 17
number_of fault.DoubleId = 18
number_of fault.KeyNeeded = 19
number_of fault.KeepAliveShort = 20
number_of fault.FixedOnlyKeys = 21
number_of fault.SlotClash = 22
number_of fault.SlotSmall = 23
number_of fault.SlotPast = 24
number_of fault.FrameLarge = 25

abbrev pub is_same : Fault → Fault → Bool
is_same a b = number_of a == number_of b

abbrev pub fault_name : Fault → List ℕ
fault_name fault.BadToml = codes "BadToml"
fault_name fault.UnknownKey = codes "UnknownKey"
fault_name fault.MissingKey = codes "MissingKey"
fault_name fault.WrongType = codes "WrongType"
fault_name fault.TooMany = codes "TooMany"
fault_name fault.BadName = codes "BadName"
fault_name fault.DoubleName = codes "DoubleName"
fault_name fault.BadPublisher = codes "BadPublisher"
fault_name fault.BadNumber = codes "BadNumber"
fault_name fault.BadChoice = codes "BadChoice"
fault_name fault.BadUuid = codes "BadUuid"
fault_name fault.BadHex = codes "BadHex"
fault_name fault.BadField = codes "BadField"
fault_name fault.NoFields = codes "NoFields"
fault_name fault.TooWide = codes "TooWide"
fault_name fault.KeyOrder = codes "KeyOrder"
fault_name fault.UnknownRef = codes "UnknownRef"
fault_name fault.DoubleId = codes "DoubleId"
fault_name fault.KeyNeeded = codes "KeyNeeded"
fault_name fault.KeepAliveShort = codes "KeepAliveShort"
fault_name fault.FixedOnlyKeys = codes "FixedOnlyKeys"
fault_name fault.SlotClash = codes "SlotClash"
fault_name fault.SlotSmall = codes "SlotSmall"
fault_name fault.SlotPast = codes "SlotPast"
fault_name fault.FrameLarge = codes "FrameLarge"

-- all of them, by their numbers
abbrev pub all_faults : List Fault
all_faults =
    fault.BadToml ∷ fault.UnknownKey ∷ fault.MissingKey ∷ fault.WrongType ∷ fault.TooMany ∷ fault.BadName
    ∷ fault.DoubleName ∷ fault.BadPublisher ∷ fault.BadNumber ∷ fault.BadChoice ∷ fault.BadUuid ∷ fault.BadHex
    ∷ fault.BadField ∷ fault.NoFields ∷ fault.TooWide ∷ fault.KeyOrder ∷ fault.UnknownRef ∷ fault.DoubleId
    ∷ fault.KeyNeeded ∷ fault.KeepAliveShort ∷ fault.FixedOnlyKeys ∷ fault.SlotClash ∷ fault.SlotSmall ∷ fault.SlotPast ∷ fault.FrameLarge ∷ []
