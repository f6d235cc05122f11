-- What a command does that takes a script, and what each status says of it. `IsText` says what it writes, `refusal` which line of an accepted script it doesn't
-- take, and `fates` whether the script may give datagrams fates.
use Rattle.std.specs.Prelude.{◌≡◌, ◌↔◌, ◌⊎◌, ⊤, Bool, ℕ, List, Option, Some, None, Result, Ok, Err, IsErr, IsSome}
use Rattle.ua_base.specs.Cause.{HasCause}
use Rattle.ua_base.specs.Files.{ToldFile, TellsFile}
use Rattle.ua_base.specs.Journal.{LinkState}
use Rattle.ua_base.specs.Links.{Opening}
use Rattle.ua_base.specs.Output.{appended, AppendsPrefix}
use Rattle.ps_config.specs.declared.parts.Config.{Config}
use Rattle.ps_config.specs.Reading.{configuration}
use Rattle.ps_report.specs.declared.closed.Closed.{Closed}
use Rattle.ps_report.specs.Reports.{report_text}
use Rattle.report_laws.specs.Reported.{IsReported}
use Rattle.ps_script.specs.declared.script.Script.{Script}
use Rattle.ps_script.specs.declared.fault.ScriptFault.{ScriptFault}
use Rattle.ps_script.specs.Scripts.{script as script_in}
use Rattle.ps_script.specs.Values.{ValueReader}
use Rattle.script_player.specs.Plays.{opening_of}
use Rattle.cmd_base.specs.declared.status.Status.{Status}
use Rattle.cmd_base.specs.declared.status.Status.TheVariants.{Done, ConfigRefused, ScriptRefused, NotInLanes, Unread, Unwritten, OutOfMemory, Unopened, Long}
use Rattle.cmd_base.specs.Configurations.{IsConfigured, IsJudged, IsToldConfig}
use Rattle.cmd_base.specs.Files.{IsLong, IsTold}
use Rattle.cmd_base.specs.Outside.{Outside, Wire, IsQuiet}
use Rattle.cmd_base.specs.Scripts.{IsJudgedScript}
use Rattle.cmd_base.specs.Statuses.{IsDone, IsConfigRefused, IsScriptRefused, IsUnread, IsUnwritten, IsOutOfMemory, IsUnopened, IsTooLong, IsPerformed}
use Rattle.cmd_base.specs.Links.{IsQuietOrOpened, UsesLink}

-- ---- what is taken, and what is written of it

-- what the text is, of the configuration, the script and what the link tells after it
abbrev pub Text : Type 1
Text = Config → Script → Option LinkState → List ℕ → Type 0

-- the first line that a command doesn't take, from 1
abbrev pub Refusal : Type 0
Refusal = Script → Option ℕ

-- a command that takes each accepted script
abbrev pub takes_all : Refusal
takes_all script = None

-- what a closed session is of the configuration, the script and what the link tells after it
abbrev pub Performance : Type 1
Performance = Config → Script → Option LinkState → Closed → Type 0

-- the text is the report of a session of the script, which the link tells of, and tells this session and no other
abbrev pub IsReportOf : Performance → Text
IsReportOf Performs config script told text =
    (closed : Closed) × Performs config script told closed × (text ≡ report_text config closed) × IsReported config closed

-- what the files of these names were accepted as, which the folder told before
pub record Accepts (fates : Bool) (tells : List ℕ → ToldFile) (script_name : List ℕ) (config_name : Option (List ℕ)) (config : Config) (script : Script) : Type 0 where
  pub configured : IsConfigured tells config_name config
  pub scripted : IsJudgedScript (tells script_name) config fates (Ok script)

-- the text is that of the accepted script, which the command takes, and the link was opened for it: with the configuration's port and the script's fates
pub record Writes (IsText : Text) (refusal : Refusal) (fates : Bool) (tells : List ℕ → ToldFile) (script_name : List ℕ) (config_name : Option (List ℕ)) (after : Wire) (text : List ℕ) : Type 0 where
  pub config : Config
  pub script : Script
  pub accepts : Accepts fates tells script_name config_name config script
  pub taken : refusal script ≡ None
  pub opened : after.opened_with ≡ Some (opening_of config script)
  pub is_text : IsText config script after.told text

-- ---- what each status says

-- the file of this name was read, or was to be: the configuration's, or, after a configuration that was accepted, the script's
abbrev pub Reads : (List ℕ → ToldFile) → List ℕ → Option (List ℕ) → List ℕ → Type 0
Reads tells script_name config_name name =
    (config_name ≡ Some name) ⊎ ((name ≡ script_name) × (config : Config) × IsConfigured tells config_name config)

-- a script was accepted that the command takes
pub record Takes (refusal : Refusal) (fates : Bool) (tells : List ℕ → ToldFile) (script_name : List ℕ) (config_name : Option (List ℕ)) : Type 0 where
  pub config : Config
  pub script : Script
  pub accepts : Accepts fates tells script_name config_name config script
  pub taken : refusal script ≡ None

-- a script was accepted whose line with this number is the first that the command doesn't take
pub record Refuses (refusal : Refusal) (fates : Bool) (tells : List ℕ → ToldFile) (script_name : List ℕ) (config_name : Option (List ℕ)) (line : ℕ) : Type 0 where
  pub config : Config
  pub script : Script
  pub accepts : Accepts fates tells script_name config_name config script
  pub refused : refusal script ≡ Some line

-- a status with which no script was accepted
abbrev pub EndsAccepting : Bool → (List ℕ → ToldFile) → List ℕ → Option (List ℕ) → Status → Type 0
EndsAccepting fates tells script_name config_name (ConfigRefused code path) =
    (name : List ℕ) × (config_name ≡ Some name) × IsJudged (tells name) (Err (code, path))
EndsAccepting fates tells script_name config_name (ScriptRefused line fault) =
    (config : Config) × IsConfigured tells config_name config × IsJudgedScript (tells script_name) config fates (Err (line, fault))
EndsAccepting fates tells script_name config_name (Unread file) = Reads tells script_name config_name file.now
EndsAccepting fates tells script_name config_name (Long file) = Reads tells script_name config_name file.now × TellsFile (tells file.now) IsLong
EndsAccepting fates tells script_name config_name OutOfMemory = ⊤
EndsAccepting fates tells script_name config_name _ = ⊥

-- a status without a text
abbrev pub EndsBefore : Refusal → Bool → (List ℕ → ToldFile) → List ℕ → Option (List ℕ) → Status → Type 0
EndsBefore refusal fates tells script_name config_name (NotInLanes line) = Refuses refusal fates tells script_name config_name line
EndsBefore refusal fates tells script_name config_name Unopened = Takes refusal fates tells script_name config_name
EndsBefore refusal fates tells script_name config_name status = EndsAccepting fates tells script_name config_name status

-- old, new: what the folder and the output tell before and after; after: what the link tells then
abbrev pub Says : Text → Refusal → Bool → Status → List ℕ → Option (List ℕ) → Outside → Outside → Wire → Type 0
Says IsText refusal fates Done script_name config_name old new after =
    (text : List ℕ) × Writes IsText refusal fates old.file script_name config_name after text × (new.written ≡ appended old.written text)
Says IsText refusal fates Unwritten script_name config_name old new after =
    (text : List ℕ) × Writes IsText refusal fates old.file script_name config_name after text × AppendsPrefix old.written new.written text
Says IsText refusal fates status script_name config_name old new after = EndsBefore refusal fates old.file script_name config_name status

-- the link was opened for the accepted script, which the command takes
pub record OpensFor (refusal : Refusal) (fates : Bool) (tells : List ℕ → ToldFile) (script_name : List ℕ) (config_name : Option (List ℕ)) (opened : Option Opening) : Type 0 where
  pub config : Config
  pub script : Script
  pub accepts : Accepts fates tells script_name config_name config script
  pub taken : refusal script ≡ None
  pub opened_is : opened ≡ Some (opening_of config script)

-- ---- how the command ends

-- the folder tells an accepted configuration, where one is named, and an accepted script, which the command takes
pub record AreTold (refusal : Refusal) (fates : Bool) (tells : List ℕ → ToldFile) (script_name : List ℕ) (config_name : Option (List ℕ)) : Type 0 where
  pub config : Config
  pub bytes : List ℕ
  pub reader : ValueReader
  pub script : Script
  pub configured : IsToldConfig tells config_name config
  pub told : IsTold (tells script_name) bytes
  pub scripted : script_in reader config bytes fates ≡ Ok script
  pub taken : refusal script ≡ None

-- a script is refused, or has a line that the command doesn't take
abbrev pub IsRefused : Refusal → Result Script (ℕ × ScriptFault) → Type 0
IsRefused refusal (Ok script) = IsSome (refusal script)
IsRefused refusal (Err fault) = ⊤

abbrev pub NamesLong : Status → List ℕ → Type 0
NamesLong (Long file) name = file.now ≡ name
NamesLong _ name = ⊥

-- How the command ends on the files of these names. old, new: what the folder and the output tell before and after; before, after: what the link tells
pub record SessionEnds (IsText : Text) (refusal : Refusal) (fates : Bool) (status : Status) (script_name : List ℕ) (config_name : Option (List ℕ)) (old new : Outside) (before after : Wire) : Type 0 where
  pub says : Says IsText refusal fates status script_name config_name old new after
  pub link : UsesLink (OpensFor refusal fates old.file script_name config_name) (IsUnopened status) (IsPerformed status) before after
  -- what the definitions refuse is refused, and nothing else
  pub config_refused : (name bytes : List ℕ) → config_name ≡ Some name → IsTold (old.file name) bytes
      → ¬ IsUnread status → ¬ IsOutOfMemory status → IsConfigRefused status ↔ IsErr (configuration bytes)
  pub script_refused : (reader : ValueReader) (config : Config) (bytes : List ℕ) → IsToldConfig old.file config_name config → IsTold (old.file script_name) bytes
      → ¬ IsUnread status → ¬ IsOutOfMemory status → IsScriptRefused status ↔ IsRefused refusal (script_in reader config bytes fates)
  pub config_long : (name bytes : List ℕ) → config_name ≡ Some name → old.file name ≡ Some (Some bytes)
      → ¬ IsUnread status → ¬ IsOutOfMemory status → NamesLong status name ↔ IsLong bytes
  pub script_long : (config : Config) (bytes : List ℕ) → IsToldConfig old.file config_name config → old.file script_name ≡ Some (Some bytes)
      → ¬ IsUnread status → ¬ IsOutOfMemory status → IsTooLong status ↔ IsLong bytes
  -- what is accepted and taken is performed, where no read, no write and no opening fails: a send or a receive may
  pub complete : AreTold refusal fates old.file script_name config_name → IsQuiet old.read_faults new.read_faults → IsQuiet old.write_faults new.write_faults
      → IsQuietOrOpened before after → IsDone status ⊎ IsOutOfMemory status
  pub complete_but_for_opening : AreTold refusal fates old.file script_name config_name → IsQuiet old.read_faults new.read_faults
      → IsQuiet old.write_faults new.write_faults → IsDone status ⊎ IsOutOfMemory status ⊎ IsUnopened status
  -- a fault is answered only where the count of faults of its object rose, and no count falls
  pub reads : HasCause old.read_faults new.read_faults (IsUnread status)
  pub writes : HasCause old.write_faults new.write_faults (IsUnwritten status)
  pub files : (name : List ℕ) → new.file name ≡ old.file name
