-- What a status of `check` says, where the folder tells the file.
use Rattle.std.proofs.Common.{◌≡◌, ◌↔◌, ◌⊎◌, inl, inr, ℕ, List, Option, Some, Ok, Err, refl, sym, ap, ◌∙◌, arith}
use Rattle.std.specs.Prelude.{IsErr, is_err}
use Rattle.std.proofs.lemmas.Bool.{false≢true}
use Rattle.ua_base.specs.Cause.{HasCause}
use Rattle.ua_base.specs.Files.{ToldFile}
use Rattle.ps_config.specs.declared.parts.Config.{Config}
use Rattle.ps_config.specs.Reading.{Judgement, configuration}
use Rattle.cmd_base.specs.declared.status.Status.{Status}
use Rattle.cmd_base.specs.declared.status.Status.TheVariants.{Done, BadWords, ConfigRefused, NoSource, ScriptRefused, NotInLanes, Unread, Unwritten, OutOfMemory, Unopened, Long}
use Rattle.cmd_base.specs.Outside.{Outside}
use Rattle.cmd_base.specs.Outputs.{EndsWriting}
use Rattle.cmd_base.specs.Statuses.{IsDone, IsConfigRefused, IsUnread, IsUnwritten, IsOutOfMemory, IsTooLong}
use Rattle.cmd_base.specs.Files.{IsLong, IsTold}
use Rattle.cmd_base.specs.Configurations.{EndsConfigFile}
use Rattle.cmd_base.proofs.Told.{judged_told, long_judged, long_is, long_short}
use Rattle.cmd_base.specs.Checks.{AcceptsConfig, Checks, CheckEnds, ok_text}

-- the last write ends the command
pub checks_written : (status : Status) (name : List ℕ) (file : ToldFile) (old new : Option (List ℕ)) → AcceptsConfig file → EndsWriting old new ok_text status
    → Checks status name file old new
checks_written Done name file old new accepts written = (accepts, written)
checks_written Unwritten name file old new accepts written = (accepts, written)
checks_written BadWords name file old new accepts written = absurd written
checks_written (ConfigRefused code path) name file old new accepts written = absurd written
checks_written (ScriptRefused line fault) name file old new accepts written = absurd written
checks_written (NoSource set) name file old new accepts written = absurd written
checks_written (NotInLanes line) name file old new accepts written = absurd written
checks_written (Unread unread) name file old new accepts written = absurd written
checks_written OutOfMemory name file old new accepts written = absurd written
checks_written Unopened name file old new accepts written = absurd written
checks_written (Long which) name file old new accepts written = absurd written

-- what ends the reading of the configuration ends the command
pub checks_ended : (status : Status) (name : List ℕ) (file : ToldFile) (out : Option (List ℕ)) → EndsConfigFile file name status → Checks status name file out out
checks_ended (ConfigRefused code path) name file out ends = ends
checks_ended (Unread unread) name file out ends = ends
checks_ended (Long which) name file out ends = ends
checks_ended OutOfMemory name file out ends = tt
checks_ended Done name file out ends = absurd ends
checks_ended BadWords name file out ends = absurd ends
checks_ended (ScriptRefused line fault) name file out ends = absurd ends
checks_ended (NoSource set) name file out ends = absurd ends
checks_ended (NotInLanes line) name file out ends = absurd ends
checks_ended Unwritten name file out ends = absurd ends
checks_ended Unopened name file out ends = absurd ends

pub not_written : (status : Status) (name : List ℕ) (file : ToldFile) → EndsConfigFile file name status → IsUnwritten status → ⊥
not_written (ConfigRefused code path) name file ends is = omega arith
not_written (Unread unread) name file ends is = omega arith
not_written (Long which) name file ends is = omega arith
not_written OutOfMemory name file ends is = omega arith
not_written Done name file ends is = absurd ends
not_written BadWords name file ends is = absurd ends
not_written (ScriptRefused line fault) name file ends is = absurd ends
not_written (NoSource set) name file ends is = absurd ends
not_written (NotInLanes line) name file ends is = absurd ends
not_written Unwritten name file ends is = absurd ends
not_written Unopened name file ends is = absurd ends

not_err : (judgement : Judgement) (config : Config) → judgement ≡ Ok config → IsErr judgement → ⊥
not_err judgement config e err = false≢true (sym (ap is_err e) ∙ err)

refuses : (status : Status) (name : List ℕ) (file : ToldFile) (old new : Option (List ℕ)) (bytes : List ℕ) → Checks status name file old new → IsTold file bytes
    → (IsUnread status → ⊥) → (IsOutOfMemory status → ⊥) → IsConfigRefused status ↔ IsErr (configuration bytes)
refuses Done name file old new bytes h is a b = ((λ three. absurd (omega arith)), (λ err. absurd (not_err (configuration bytes) h.0.0 (judged_told file bytes (Ok h.0.0) is.told h.0.1) err)))
refuses Unwritten name file old new bytes h is a b = ((λ three. absurd (omega arith)), (λ err. absurd (not_err (configuration bytes) h.0.0 (judged_told file bytes (Ok h.0.0) is.told h.0.1) err)))
refuses (ConfigRefused code path) name file old new bytes h is a b = ((λ three. ap is_err (judged_told file bytes (Err (code, path)) is.told h)), (λ err. refl))
refuses (Long which) name file old new bytes h is a b = absurd (long_short file bytes is h.1)
refuses (Unread unread) name file old new bytes h is a b = absurd (a refl)
refuses OutOfMemory name file old new bytes h is a b = absurd (b refl)
refuses BadWords name file old new bytes h is a b = absurd h
refuses (ScriptRefused line fault) name file old new bytes h is a b = absurd h
refuses (NoSource set) name file old new bytes h is a b = absurd h
refuses (NotInLanes line) name file old new bytes h is a b = absurd h
refuses Unopened name file old new bytes h is a b = absurd h

accepts : (status : Status) (name : List ℕ) (file : ToldFile) (old new : Option (List ℕ)) (bytes : List ℕ) (config : Config) → Checks status name file old new → IsTold file bytes
    → configuration bytes ≡ Ok config → (IsUnread status → ⊥) → (IsUnwritten status → ⊥) → IsDone status ⊎ IsOutOfMemory status
accepts Done name file old new bytes config h is ok a b = inl refl
accepts OutOfMemory name file old new bytes config h is ok a b = inr refl
accepts (Unread unread) name file old new bytes config h is ok a b = absurd (a refl)
accepts Unwritten name file old new bytes config h is ok a b = absurd (b refl)
accepts (ConfigRefused code path) name file old new bytes config h is ok a b = absurd (not_err (configuration bytes) config ok (ap is_err (judged_told file bytes (Err (code, path)) is.told h)))
accepts (Long which) name file old new bytes config h is ok a b = absurd (long_short file bytes is h.1)
accepts BadWords name file old new bytes config h is ok a b = absurd h
accepts (ScriptRefused line fault) name file old new bytes config h is ok a b = absurd h
accepts (NoSource set) name file old new bytes config h is ok a b = absurd h
accepts (NotInLanes line) name file old new bytes config h is ok a b = absurd h
accepts Unopened name file old new bytes config h is ok a b = absurd h

too_long : (status : Status) (name : List ℕ) (file : ToldFile) (old new : Option (List ℕ)) (bytes : List ℕ) → Checks status name file old new → file ≡ Some (Some bytes)
    → (IsUnread status → ⊥) → (IsOutOfMemory status → ⊥) → IsTooLong status ↔ IsLong bytes
too_long Done name file old new bytes h is a b = ((λ nine. absurd (omega arith)), (λ long. absurd (long_judged file bytes (Ok h.0.0) is h.0.1 long)))
too_long Unwritten name file old new bytes h is a b = ((λ nine. absurd (omega arith)), (λ long. absurd (long_judged file bytes (Ok h.0.0) is h.0.1 long)))
too_long (ConfigRefused code path) name file old new bytes h is a b = ((λ nine. absurd (omega arith)), (λ long. absurd (long_judged file bytes (Err (code, path)) is h long)))
too_long (Long which) name file old new bytes h is a b = ((λ nine. long_is file bytes is h.1), (λ long. refl))
too_long (Unread unread) name file old new bytes h is a b = absurd (a refl)
too_long OutOfMemory name file old new bytes h is a b = absurd (b refl)
too_long BadWords name file old new bytes h is a b = absurd h
too_long (ScriptRefused line fault) name file old new bytes h is a b = absurd h
too_long (NoSource set) name file old new bytes h is a b = absurd h
too_long (NotInLanes line) name file old new bytes h is a b = absurd h
too_long Unopened name file old new bytes h is a b = absurd h

-- all that is said of the end follows from what the status says, and from the counts
pub check_ends : (status : Status) (name : List ℕ) (old new : Outside) → Checks status name (old.file name) old.written new.written
    → HasCause old.read_faults new.read_faults (IsUnread status) → HasCause old.write_faults new.write_faults (IsUnwritten status)
    → ((other : List ℕ) → new.file other ≡ old.file other) → CheckEnds status name old new
check_ends status name old new h reads writes files = record {
  checks = h;
  refuses = λ bytes told. refuses status name (old.file name) old.written new.written bytes h told;
  accepts = λ bytes config told ok folder_quiet out_quiet.
      accepts status name (old.file name) old.written new.written bytes config h told ok (λ is. folder_quiet (reads.rose is)) (λ is. out_quiet (writes.rose is));
  long = λ bytes told. too_long status name (old.file name) old.written new.written bytes h told;
  reads = reads;
  writes = writes;
  files = files;
}
