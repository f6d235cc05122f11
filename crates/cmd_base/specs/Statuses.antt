-- The statuses as numbers, and their texts on the error output.
use Rattle.std.specs.Prelude.{◌≡◌, ◌⊎◌, ℕ, List, [], ◌∷◌, ◌++◌, codes}
use Rattle.std.specs.Fmt.{decimal}
use Rattle.ps_config.specs.EndTexts.{name_numbered}
use Rattle.ps_script.specs.FaultNumbers.{number_of as script_number, fault_name as script_fault_name}
use Rattle.ps_script.specs.declared.fault.ScriptFault.{ScriptFault}
use Rattle.cmd_base.specs.declared.status.Status.{Status}
use Rattle.cmd_base.specs.declared.status.Status.TheVariants.{Done, BadWords, ConfigRefused, NoSource, ScriptRefused, NotInLanes, Unread, Unwritten, OutOfMemory, Unopened, Long}

-- ---- numbers

abbrev pub number_of : Status → ℕ
number_of Done = 0
number_of BadWords = 2
number_of (ConfigRefused code path) = 3
number_of (NoSource set) = 3
number_of (ScriptRefused line fault) = 4
number_of (NotInLanes line) = 4
number_of (Unread file) = 5
number_of Unwritten = 6
number_of OutOfMemory = 7
number_of Unopened = 8
number_of (Long file) = 9

abbrev pub IsDone : Status → Type 0
IsDone status = number_of status ≡ 0

abbrev pub IsConfigRefused : Status → Type 0
IsConfigRefused status = number_of status ≡ 3

abbrev pub IsScriptRefused : Status → Type 0
IsScriptRefused status = number_of status ≡ 4

abbrev pub IsUnread : Status → Type 0
IsUnread status = number_of status ≡ 5

abbrev pub IsUnwritten : Status → Type 0
IsUnwritten status = number_of status ≡ 6

-- the command's work was done, and its text was written or was to be
abbrev pub IsPerformed : Status → Type 0
IsPerformed status = IsDone status ⊎ IsUnwritten status

abbrev pub IsOutOfMemory : Status → Type 0
IsOutOfMemory status = number_of status ≡ 7

abbrev pub IsUnopened : Status → Type 0
IsUnopened status = number_of status ≡ 8

abbrev pub IsTooLong : Status → Type 0
IsTooLong status = number_of status ≡ 9

-- ---- texts

abbrev pub line_feed : List ℕ
line_feed = 10 ∷ []

-- `NAME PATH`
abbrev pub place_text : ℕ → List ℕ → List ℕ
place_text code path = name_numbered code ++ codes " " ++ path ++ line_feed

-- `config: Cn NAME PATH`
abbrev pub config_text : ℕ → List ℕ → List ℕ
config_text code path = codes "config: C" ++ decimal code ++ codes " " ++ place_text code path

-- `config: C26 NoSource dataset[I]`
abbrev pub source_text : ℕ → List ℕ
source_text set = codes "config: C26 NoSource dataset[" ++ decimal set ++ codes "]\n"

-- `n NAME`
abbrev pub fault_text : ScriptFault → List ℕ
fault_text fault = decimal (script_number fault) ++ codes " " ++ script_fault_name fault ++ line_feed

-- `script: line L Sn NAME`
abbrev pub script_text : ℕ → ScriptFault → List ℕ
script_text line fault = codes "script: line " ++ decimal line ++ codes " S" ++ fault_text fault

-- `script: line L S13 NotInLanes`
abbrev pub lanes_text : ℕ → List ℕ
lanes_text line = codes "script: line " ++ decimal line ++ codes " S13 NotInLanes\n"

-- the text of a status
unfoldable pub text_of : Status → List ℕ
text_of Done = []
text_of BadWords = codes "usage: uapubsub check --config FILE | play SCRIPT [--config FILE] | run SCRIPT [--config FILE] | load N | json SCRIPT [--config FILE] | keys FILE GROUP START COUNT MS | relay SCRIPT FILE SECOND | lanes SCRIPT [--config FILE]" ++ line_feed
text_of (ConfigRefused code path) = config_text code path
text_of (NoSource set) = source_text set
text_of (ScriptRefused line fault) = script_text line fault
text_of (NotInLanes line) = lanes_text line
text_of (Unread file) = codes "cannot read " ++ file.now ++ line_feed
text_of Unwritten = []
text_of OutOfMemory = codes "out of memory" ++ line_feed
text_of Unopened = codes "cannot open link" ++ line_feed
text_of (Long file) = codes "file too long: " ++ file.now ++ line_feed
