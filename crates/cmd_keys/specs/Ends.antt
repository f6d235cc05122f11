-- What the command `keys` does, and what each status says of it.
use Rattle.std.specs.Prelude.{◌≡◌, ◌↔◌, ◌⊎◌, ℕ, List, Option, Some, Result, Ok, IsErr}
use Rattle.ua_base.specs.Cause.{HasCause}
use Rattle.ua_base.specs.Files.{ToldFile}
use Rattle.ua_base.specs.Output.{appended, AppendsPrefix}
use Rattle.key_service.specs.declared.service.Keys.{Keys}
use Rattle.ps_config.specs.declared.parts.Config.{Config}
use Rattle.ps_config.specs.Reading.{configuration}
use Rattle.cmd_base.specs.declared.status.Status.{Status}
use Rattle.cmd_base.specs.declared.status.Status.TheVariants.{Done, Unwritten}
use Rattle.cmd_base.specs.Outside.{Outside, IsQuiet}
use Rattle.cmd_base.specs.Statuses.{IsDone, IsConfigRefused, IsUnread, IsUnwritten, IsOutOfMemory, IsTooLong}
use Rattle.cmd_base.specs.Files.{IsLong, IsTold}
use Rattle.cmd_base.specs.Configurations.{IsJudged, EndsConfigFile}
use Rattle.cmd_keys.specs.declared.refusal.Refusal.{Refusal}
use Rattle.cmd_keys.specs.declared.words.Asked.{Asked}
use Rattle.cmd_keys.specs.Answers.{IsAnswer}
use Rattle.cmd_keys.specs.declared.trial.Exchange.{Exchange}
use Rattle.cmd_keys.specs.declared.trial.Refused.{Refused}
use Rattle.cmd_keys.specs.Trials.{IsExchange}
use Rattle.cmd_keys.specs.Texts.{exchange_text, keys_text}

-- the text tells what passed between the service of the configuration and the puller, and nothing else
abbrev pub TellsExchange : Config → Asked → List ℕ → Type 0
TellsExchange config asked text =
    (made : Result Exchange Refused) × IsExchange config asked made × (text ≡ exchange_text made)

-- the text tells what is answered of the configuration
abbrev pub TellsAnswer : Config → Asked → List ℕ → Type 0
TellsAnswer config asked text =
    (answer : Result Keys Refusal) × IsAnswer config asked answer × (text ≡ keys_text asked.start answer)

-- the text tells what passed so, and with it what is answered, of the configuration that the file was accepted as
pub record TellsKeys (file : ToldFile) (asked : Asked) (text : List ℕ) : Type 0 where
  pub config : Config
  pub judged : IsJudged file (Ok config)
  pub exchange : TellsExchange config asked text
  pub answer : TellsAnswer config asked text

-- What each status says. file: what the folder tells of the file of this name; old, new: what the output tells before and after
abbrev pub Says : Status → List ℕ → Asked → ToldFile → Option (List ℕ) → Option (List ℕ) → Type 0
Says Done name asked file old new = (text : List ℕ) × TellsKeys file asked text × (new ≡ appended old text)
Says Unwritten name asked file old new = (text : List ℕ) × TellsKeys file asked text × AppendsPrefix old new text
Says status name asked file old new = EndsConfigFile file name status

-- How the command ends on the file of this name. old, new: what the folder and the output tell before and after
pub record KeysEnds (status : Status) (name : List ℕ) (asked : Asked) (old new : Outside) : Type 0 where
  pub says : Says status name asked (old.file name) old.written new.written
  -- the configuration is refused exactly where it is one that the definition refuses, and of one that is accepted, where no call fails, the answer is told
  pub refuses : (bytes : List ℕ) → IsTold (old.file name) bytes → ¬ IsUnread status → ¬ IsOutOfMemory status
      → IsConfigRefused status ↔ IsErr (configuration bytes)
  pub accepts : (bytes : List ℕ) (config : Config) → IsTold (old.file name) bytes → configuration bytes ≡ Ok config
      → IsQuiet old.read_faults new.read_faults → IsQuiet old.write_faults new.write_faults → IsDone status ⊎ IsOutOfMemory status
  pub long : (bytes : List ℕ) → old.file name ≡ Some (Some bytes) → ¬ IsUnread status → ¬ IsOutOfMemory status
      → IsTooLong status ↔ IsLong bytes
  -- a fault is answered only where the count of faults of its object rose, and no count falls
  pub reads : HasCause old.read_faults new.read_faults (IsUnread status)
  pub writes : HasCause old.write_faults new.write_faults (IsUnwritten status)
  pub files : (other : List ℕ) → new.file other ≡ old.file other
