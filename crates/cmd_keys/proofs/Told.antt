-- What a status of `keys` says, where the folder tells the file.
use Rattle.std.proofs.Common.{◌≡◌, ◌↔◌, ◌⊎◌, inl, inr, ℕ, ◌≤◌, List, Option, Some, Ok, Err, refl, sym, ap, ◌∙◌, subst, arith}
use Rattle.std.specs.Prelude.{IsErr, is_err}
use Rattle.std.proofs.lemmas.Bool.{false≢true}
use Rattle.ua_base.specs.Cause.{HasCause, Rose}
use Rattle.ua_base.specs.Files.{ToldFile}
use Rattle.ps_config.specs.declared.parts.Config.{Config}
use Rattle.ps_config.specs.Reading.{Judgement, configuration}
use Rattle.cmd_base.specs.declared.status.Status.{Status}
use Rattle.cmd_base.specs.declared.status.Status.TheVariants.{Done, BadWords, ConfigRefused, NoSource, ScriptRefused, NotInLanes, Unread, Unwritten, OutOfMemory, Unopened, Long}
use Rattle.cmd_base.specs.Outside.{Outside}
use Rattle.cmd_base.specs.Outputs.{EndsWriting}
use Rattle.cmd_base.specs.Statuses.{number_of, IsDone, IsConfigRefused, IsUnread, IsUnwritten, IsOutOfMemory, IsTooLong}
use Rattle.cmd_base.specs.Files.{IsLong, IsTold}
use Rattle.cmd_base.specs.Configurations.{EndsConfigFile, IsJudged}
use Rattle.cmd_base.proofs.Told.{judged_told, long_judged, long_is, long_short}
use Rattle.cmd_keys.specs.declared.words.Asked.{Asked}
use Rattle.cmd_keys.specs.Ends.{KeysEnds, Says, TellsAnswer, TellsExchange, TellsKeys}

-- the last write ends the command
pub says_written : (status : Status) (name : List ℕ) (asked : Asked) (file : ToldFile) (old new : Option (List ℕ)) (text : List ℕ) → TellsKeys file asked text → EndsWriting old new text status
    → Says status name asked file old new
says_written Done name asked file old new text tells written = (text, tells, written)
says_written Unwritten name asked file old new text tells written = (text, tells, written)
says_written BadWords name asked file old new text tells written = absurd written
says_written (ConfigRefused code path) name asked file old new text tells written = absurd written
says_written (ScriptRefused line fault) name asked file old new text tells written = absurd written
says_written (NoSource set) name asked file old new text tells written = absurd written
says_written (NotInLanes line) name asked file old new text tells written = absurd written
says_written (Unread unread) name asked file old new text tells written = absurd written
says_written OutOfMemory name asked file old new text tells written = absurd written
says_written Unopened name asked file old new text tells written = absurd written
says_written (Long which) name asked file old new text tells written = absurd written

-- what ends the reading of the configuration ends the command
pub says_ended : (status : Status) (name : List ℕ) (asked : Asked) (file : ToldFile) (out : Option (List ℕ)) → EndsConfigFile file name status → Says status name asked file out out
says_ended Done name asked file out ends = absurd ends
says_ended Unwritten name asked file out ends = absurd ends
says_ended BadWords name asked file out ends = ends
says_ended (ConfigRefused code path) name asked file out ends = ends
says_ended (ScriptRefused line fault) name asked file out ends = ends
says_ended (NoSource set) name asked file out ends = ends
says_ended (NotInLanes line) name asked file out ends = ends
says_ended (Unread unread) name asked file out ends = ends
says_ended OutOfMemory name asked file out ends = ends
says_ended Unopened name asked file out ends = ends
says_ended (Long which) name asked file out ends = ends

pub not_written : (status : Status) (name : List ℕ) (file : ToldFile) → EndsConfigFile file name status → IsUnwritten status → ⊥
not_written Unwritten name file ends is = ends
not_written Done name file ends is = omega arith
not_written BadWords name file ends is = omega arith
not_written (ConfigRefused code path) name file ends is = omega arith
not_written (ScriptRefused line fault) name file ends is = omega arith
not_written (NoSource set) name file ends is = omega arith
not_written (NotInLanes line) name file ends is = omega arith
not_written (Unread unread) name file ends is = omega arith
not_written OutOfMemory name file ends is = omega arith
not_written Unopened name file ends is = omega arith
not_written (Long which) name file ends is = omega arith

-- the command doesn't end as words without a shape do
pub no_usage : (status : Status) (name : List ℕ) (asked : Asked) (file : ToldFile) (old new : Option (List ℕ)) → Says status name asked file old new → number_of status ≡ 2 → ⊥
no_usage BadWords name asked file old new h two = h
no_usage Done name asked file old new h two = omega arith
no_usage (ConfigRefused code path) name asked file old new h two = omega arith
no_usage (ScriptRefused line fault) name asked file old new h two = omega arith
no_usage (NoSource set) name asked file old new h two = omega arith
no_usage (NotInLanes line) name asked file old new h two = omega arith
no_usage (Unread unread) name asked file old new h two = omega arith
no_usage Unwritten name asked file old new h two = omega arith
no_usage OutOfMemory name asked file old new h two = omega arith
no_usage Unopened name asked file old new h two = omega arith
no_usage (Long which) name asked file old new h two = omega arith

-- a text was written, or a part of it, and nothing else is answered
pub ends_writing : (status : Status) (old new : Option (List ℕ)) (text : List ℕ) → EndsWriting old new text status → IsDone status ⊎ IsUnwritten status
ends_writing Done old new text written = inl refl
ends_writing Unwritten old new text written = inr refl
ends_writing BadWords old new text written = absurd written
ends_writing (ConfigRefused code path) old new text written = absurd written
ends_writing (ScriptRefused line fault) old new text written = absurd written
ends_writing (NoSource set) old new text written = absurd written
ends_writing (NotInLanes line) old new text written = absurd written
ends_writing (Unread unread) old new text written = absurd written
ends_writing OutOfMemory old new text written = absurd written
ends_writing Unopened old new text written = absurd written
ends_writing (Long which) old new text written = absurd written

pub not_unread : (status : Status) → IsDone status ⊎ IsUnwritten status → IsUnread status → ⊥
not_unread status (inl done) is = omega (arith, done, is)
not_unread status (inr unwritten) is = omega (arith, unwritten, is)

not_err : (judgement : Judgement) (config : Config) → judgement ≡ Ok config → IsErr judgement → ⊥
not_err judgement config e err = false≢true (sym (ap is_err e) ∙ err)

-- a file that was accepted isn't refused
accepted : (file : ToldFile) (bytes : List ℕ) (config : Config) (n : ℕ) → IsTold file bytes → IsJudged file (Ok config) → (n ≡ 3 → ⊥) → (n ≡ 3) ↔ IsErr (configuration bytes)
accepted file bytes config n is judged other = ((λ three. absurd (other three)), (λ err. absurd (not_err (configuration bytes) config (judged_told file bytes (Ok config) is.told judged) err)))

refuses : (status : Status) (name : List ℕ) (asked : Asked) (file : ToldFile) (old new : Option (List ℕ)) (bytes : List ℕ) → Says status name asked file old new → IsTold file bytes
    → (IsUnread status → ⊥) → (IsOutOfMemory status → ⊥) → IsConfigRefused status ↔ IsErr (configuration bytes)
refuses Done name asked file old new bytes h is a b = accepted file bytes h.1.config 0 is h.1.judged (λ three. omega arith)
refuses Unwritten name asked file old new bytes h is a b = accepted file bytes h.1.config 6 is h.1.judged (λ three. omega arith)
refuses (ConfigRefused code path) name asked file old new bytes h is a b = ((λ three. ap is_err (judged_told file bytes (Err (code, path)) is.told h)), (λ err. refl))
refuses (Long which) name asked file old new bytes h is a b = absurd (long_short file bytes is h.1)
refuses (Unread unread) name asked file old new bytes h is a b = absurd (a refl)
refuses OutOfMemory name asked file old new bytes h is a b = absurd (b refl)
refuses BadWords name asked file old new bytes h is a b = absurd h
refuses (ScriptRefused line fault) name asked file old new bytes h is a b = absurd h
refuses (NoSource set) name asked file old new bytes h is a b = absurd h
refuses (NotInLanes line) name asked file old new bytes h is a b = absurd h
refuses Unopened name asked file old new bytes h is a b = absurd h

accepts : (status : Status) (name : List ℕ) (asked : Asked) (file : ToldFile) (old new : Option (List ℕ)) (bytes : List ℕ) (config : Config) → Says status name asked file old new → IsTold file bytes
    → configuration bytes ≡ Ok config → (IsUnread status → ⊥) → (IsUnwritten status → ⊥) → IsDone status ⊎ IsOutOfMemory status
accepts Done name asked file old new bytes config h is ok a b = inl refl
accepts OutOfMemory name asked file old new bytes config h is ok a b = inr refl
accepts (Unread unread) name asked file old new bytes config h is ok a b = absurd (a refl)
accepts Unwritten name asked file old new bytes config h is ok a b = absurd (b refl)
accepts (ConfigRefused code path) name asked file old new bytes config h is ok a b =
    absurd (not_err (configuration bytes) config ok (ap is_err (judged_told file bytes (Err (code, path)) is.told h)))
accepts (Long which) name asked file old new bytes config h is ok a b = absurd (long_short file bytes is h.1)
accepts BadWords name asked file old new bytes config h is ok a b = absurd h
accepts (ScriptRefused line fault) name asked file old new bytes config h is ok a b = absurd h
accepts (NoSource set) name asked file old new bytes config h is ok a b = absurd h
accepts (NotInLanes line) name asked file old new bytes config h is ok a b = absurd h
accepts Unopened name asked file old new bytes config h is ok a b = absurd h

too_long : (status : Status) (name : List ℕ) (asked : Asked) (file : ToldFile) (old new : Option (List ℕ)) (bytes : List ℕ) → Says status name asked file old new → file ≡ Some (Some bytes)
    → (IsUnread status → ⊥) → (IsOutOfMemory status → ⊥) → IsTooLong status ↔ IsLong bytes
too_long Done name asked file old new bytes h is a b = ((λ nine. absurd (omega arith)), (λ long. absurd (long_judged file bytes (Ok h.1.config) is h.1.judged long)))
too_long Unwritten name asked file old new bytes h is a b = ((λ nine. absurd (omega arith)), (λ long. absurd (long_judged file bytes (Ok h.1.config) is h.1.judged long)))
too_long (ConfigRefused code path) name asked file old new bytes h is a b = ((λ nine. absurd (omega arith)), (λ long. absurd (long_judged file bytes (Err (code, path)) is h long)))
too_long (Long which) name asked file old new bytes h is a b = ((λ nine. long_is file bytes is h.1), (λ long. refl))
too_long (Unread unread) name asked file old new bytes h is a b = absurd (a refl)
too_long OutOfMemory name asked file old new bytes h is a b = absurd (b refl)
too_long BadWords name asked file old new bytes h is a b = absurd h
too_long (ScriptRefused line fault) name asked file old new bytes h is a b = absurd h
too_long (NoSource set) name asked file old new bytes h is a b = absurd h
too_long (NotInLanes line) name asked file old new bytes h is a b = absurd h
too_long Unopened name asked file old new bytes h is a b = absurd h

-- all that is said of the end follows from what the status says, and from the counts
pub keys_end : (status : Status) (name : List ℕ) (asked : Asked) (old new : Outside) → Says status name asked (old.file name) old.written new.written
    → HasCause old.read_faults new.read_faults (IsUnread status) → HasCause old.write_faults new.write_faults (IsUnwritten status)
    → ((other : List ℕ) → new.file other ≡ old.file other) → KeysEnds status name asked old new
keys_end status name asked old new h reads writes files = record {
  says = h;
  refuses = λ bytes told. refuses status name asked (old.file name) old.written new.written bytes h told;
  accepts = λ bytes config told ok folder_quiet out_quiet.
      accepts status name asked (old.file name) old.written new.written bytes config h told ok (λ is. folder_quiet (reads.rose is)) (λ is. out_quiet (writes.rose is));
  long = λ bytes told. too_long status name asked (old.file name) old.written new.written bytes h told;
  reads = reads;
  writes = writes;
  files = files;
}

-- what is answered of a configuration that was accepted is told
pub tells_keys : (file : ToldFile) (asked : Asked) (config : Config) (text : List ℕ) → IsJudged file (Ok config) → TellsExchange config asked text → TellsAnswer config asked text
    → TellsKeys file asked text
tells_keys file asked config text judged exchange answer = record { config = config; judged = judged; exchange = exchange; answer = answer }

-- a text was to be written
pub ends_written : (status : Status) (name : List ℕ) (asked : Asked) (old new : Outside) (text : List ℕ) → TellsKeys (old.file name) asked text → EndsWriting old.written new.written text status
    → old.read_faults ≤ new.read_faults → HasCause old.write_faults new.write_faults (IsUnwritten status) → ((other : List ℕ) → new.file other ≡ old.file other) → KeysEnds status name asked old new
ends_written status name asked old new text tells written counted writes files =
    keys_end status name asked old new (says_written status name asked (old.file name) old.written new.written text tells written)
    (record { later = counted; rose = λ is. absurd (not_unread status (ends_writing status old.written new.written text written) is) }) writes files

-- there was nothing to write
pub ends_without : (status : Status) (name : List ℕ) (asked : Asked) (old new : Outside) → EndsConfigFile (old.file name) name status → old.read_faults ≤ new.read_faults
    → (IsUnread status → Rose old.read_faults new.read_faults) → new.written ≡ old.written → old.write_faults ≤ new.write_faults → ((other : List ℕ) → new.file other ≡ old.file other)
    → KeysEnds status name asked old new
ends_without status name asked old new ends counted unread silent kept files =
    keys_end status name asked old new
    (subst (λ (out : Option (List ℕ)). Says status name asked (old.file name) old.written out) (sym silent) (says_ended status name asked (old.file name) old.written ends))
    (record { later = counted; rose = unread }) (record { later = kept; rose = λ is. absurd (not_written status name (old.file name) ends is) }) files

pub said_late : (status : Status) (old new : Option (List ℕ)) (text : List ℕ) → EndsWriting old new text status → (IsDone status → ⊥) → (IsUnwritten status → ⊥) → ⊥
said_late status old new text written done unwritten = elim (ends_writing status old new text written) [
  | inl is ↦ done is
  | inr is ↦ unwritten is
]
