-- What the command `check` does, and what each status says of it.
use Rattle.std.specs.Prelude.{◌≡◌, ◌↔◌, ◌⊎◌, ⊤, ℕ, List, ◌++◌, codes, Option, Some, Ok, Err, IsErr}
use Rattle.ua_base.specs.Cause.{HasCause}
use Rattle.ua_base.specs.Files.{ToldFile, TellsFile}
use Rattle.ua_base.specs.Output.{appended, AppendsPrefix}
use Rattle.ps_config.specs.declared.parts.Config.{Config}
use Rattle.ps_config.specs.Reading.{configuration}
use Rattle.cmd_base.specs.declared.status.Status.{Status}
use Rattle.cmd_base.specs.declared.status.Status.TheVariants.{Done, ConfigRefused, Unread, Unwritten, OutOfMemory, Long}
use Rattle.cmd_base.specs.Outside.{Outside, IsQuiet}
use Rattle.cmd_base.specs.Statuses.{line_feed, IsDone, IsConfigRefused, IsUnread, IsUnwritten, IsOutOfMemory, IsTooLong}
use Rattle.cmd_base.specs.Files.{IsLong, IsTold}
use Rattle.cmd_base.specs.Configurations.{IsJudged}

abbrev pub AcceptsConfig : ToldFile → Type 0
AcceptsConfig file = (config : Config) × IsJudged file (Ok config)

-- what is written of a configuration that is accepted
abbrev pub ok_text : List ℕ
ok_text = codes "ok" ++ line_feed

-- What each status says. file: what the folder tells of the file of this name; old, new: what the output tells before and after
abbrev pub Checks : Status → List ℕ → ToldFile → Option (List ℕ) → Option (List ℕ) → Type 0
Checks Done name file old new = AcceptsConfig file × (new ≡ appended old ok_text)
Checks Unwritten name file old new = AcceptsConfig file × AppendsPrefix old new ok_text
Checks (ConfigRefused code path) name file old new = IsJudged file (Err (code, path))
Checks (Long long) name file old new = (long.now ≡ name) × TellsFile file IsLong
Checks (Unread unread) name file old new = unread.now ≡ name
Checks OutOfMemory name file old new = ⊤
Checks _ name file old new = ⊥

-- How the command ends on the file of this name. old, new: what the folder and the output tell before and after
pub record CheckEnds (status : Status) (name : List ℕ) (old new : Outside) : Type 0 where
  pub checks : Checks status name (old.file name) old.written new.written
  -- the configuration is refused exactly where it is one that the definition refuses, and where it is accepted and no call fails, this is said
  pub refuses : (bytes : List ℕ) → IsTold (old.file name) bytes → ¬ IsUnread status → ¬ IsOutOfMemory status
      → IsConfigRefused status ↔ IsErr (configuration bytes)
  pub accepts : (bytes : List ℕ) (config : Config) → IsTold (old.file name) bytes → configuration bytes ≡ Ok config
      → IsQuiet old.read_faults new.read_faults → IsQuiet old.write_faults new.write_faults → IsDone status ⊎ IsOutOfMemory status
  pub long : (bytes : List ℕ) → old.file name ≡ Some (Some bytes) → ¬ IsUnread status → ¬ IsOutOfMemory status
      → IsTooLong status ↔ IsLong bytes
  -- a fault is answered only where the count of faults of its object rose, and no count falls
  pub reads : HasCause old.read_faults new.read_faults (IsUnread status)
  pub writes : HasCause old.write_faults new.write_faults (IsUnwritten status)
  pub files : (other : List ℕ) → new.file other ≡ old.file other
