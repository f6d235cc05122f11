-- How the command ends, from what its status says and from the counts.
use Rattle.std.proofs.Common.{◌≡◌, ◌≤◌, ◌↔◌, ◌⊎◌, inl, inr, ℕ, List, Some, Result, Ok, Err, true, refl, sym, ap, ◌∙◌, subst, arith}
use Rattle.std.specs.Prelude.{IsErr, is_err, slice_index_or}
use Rattle.std.proofs.lemmas.Bool.{false≢true}
use Rattle.ua_base.specs.Cause.{HasCause, Rose}
use Rattle.ua_base.specs.Files.{ToldFile, TellsFile}
use Rattle.ps_config.specs.declared.parts.Config.{Config}
use Rattle.ps_config.specs.Reading.{Judgement, configuration}
use Rattle.ps_script.specs.declared.fault.ScriptFault.{ScriptFault}
use Rattle.ps_script.specs.declared.script.Script.{Script}
use Rattle.ps_script.specs.Scripts.{script as script_in}
use Rattle.ps_script.specs.Values.{ValueReader}
use Rattle.session_model.specs.Counts.{session_nothings}
use Rattle.script_player.specs.declared.play.PlayEnd.{PlayEnd}
use Rattle.script_player.specs.declared.play.PlayEnd.TheVariants as ends
use Rattle.script_player.specs.Plays.{opening_of}
use Rattle.cmd_base.specs.declared.status.Status.{Status}
use Rattle.cmd_base.specs.declared.status.Status.TheVariants.{Done, BadWords, ConfigRefused, NoSource, ScriptRefused, NotInLanes, Unread, Unwritten, OutOfMemory, Unopened, Long}
use Rattle.cmd_base.specs.Configurations.{EndsConfigFile, IsJudged}
use Rattle.cmd_base.specs.Files.{IsLong, IsTold}
use Rattle.cmd_base.specs.Outputs.{EndsWriting}
use Rattle.cmd_base.specs.Outside.{Outside, Wire}
use Rattle.cmd_base.specs.Scripts.{EndsScript, IsJudgedScript}
use Rattle.cmd_base.specs.Statuses.{IsDone, IsConfigRefused, IsOutOfMemory, IsScriptRefused, IsTooLong, IsUnopened, IsUnread, IsUnwritten, IsPerformed}
use Rattle.cmd_base.proofs.Told.{judged_told, script_told, long_is, long_judged, long_short}
use Rattle.cmd_base.specs.Endings.{status_of}
use Rattle.cmd_base.specs.Sessions.{NamesLong}
use Rattle.cmd_base.specs.Links.{IsQuietOrOpened}
use Rattle.cmd_base.proofs.Ended.{written_late}
use Rattle.cmd_base.proofs.Ends.{stays-telling, stays-unopened}
use Rattle.cmd_base.proofs.ToldSessions.{short}
use Rattle.cmd_relay.specs.declared.command.Accepted.{Accepted}
use Rattle.cmd_relay.specs.Ends.{Accepts, AreConfigured, AreRefused, AreTold, AreToldConfigs, EndsAccepting, EndsSecond, Names, Reads, RelayEnds, Says, UsesLinks, Writes}
use Rattle.cmd_relay.specs.Links.{LeavesUnopened, OpensBoth, StaysClosed, opening_again}
use Rattle.cmd_relay.specs.Relaying.{IsRelayOf}
use Rattle.cmd_relay.specs.Sources.{AreSourced, IsUnsourced}

-- ---- results

ok_not_err : {A B : Type 0} (result : Result A B) (a : A) → result ≡ Ok a → IsErr result → ⊥
ok_not_err result a e err = false≢true (sym (ap is_err e) ∙ err)

err_is : {A B : Type 0} (result : Result A B) (b : B) → result ≡ Err b → IsErr result
err_is result b e = ap is_err e

abbrev ok_or : {A B : Type 0} → A → Result A B → A
ok_or a (Ok b) = b
ok_or a (Err e) = a

same_ok : {A B : Type 0} (result : Result A B) (a b : A) → result ≡ Ok a → result ≡ Ok b → a ≡ b
same_ok result a b e f = ap (ok_or a) (sym e ∙ f)

unsourced_not : (first second : Config) (set : ℕ) → IsUnsourced first second set → AreSourced first second → ⊥
unsourced_not first second set none (sources, have) = none.none (slice_index_or sources set 0, have.each set none.there)

-- ---- what was read, where the folder tells it

module _ (tells : List ℕ → ToldFile) (names : Names) where
  first_told : (first : Config) (bytes : List ℕ) → IsTold (tells names.first) bytes → IsJudged (tells names.first) (Ok first) → configuration bytes ≡ Ok first
  first_told first bytes told judged = judged_told (tells names.first) bytes (Ok first) told.told judged

  configs_told : (first second : Config) (one other : List ℕ) → IsTold (tells names.first) one → IsTold (tells names.second) other → AreConfigured tells names first second
      → (configuration one ≡ Ok first) × (configuration other ≡ Ok second)
  configs_told first second one other told also is =
      (judged_told (tells names.first) one (Ok first) told.told is.first_is, judged_told (tells names.second) other (Ok second) also.told is.second_is.judged)

  not_refused : (first second : Config) (one other : List ℕ) → IsTold (tells names.first) one → IsTold (tells names.second) other → AreConfigured tells names first second → AreRefused one other → ⊥
  not_refused first second one other told also is refused =
      let e = configs_told first second one other told also is in
      elim refused [
        | inl err ↦ ok_not_err (configuration one) first e.0 err
        | inr rest ↦ elim rest [
          | inl err ↦ ok_not_err (configuration other) second e.1 err
          | inr none ↦ none.4 (subst (λ (c : Config). AreSourced c none.1) (same_ok (configuration one) first none.0 e.0 none.2)
              (subst (AreSourced first) (same_ok (configuration other) second none.1 e.1 none.3) is.second_is.sourced))
        ]
      ]

  long_config : (one other : List ℕ) (name : List ℕ) → IsTold (tells names.first) one → IsTold (tells names.second) other → TellsFile (tells name) IsLong → Reads tells names name
      → (first : Config) × (second : Config) × AreConfigured tells names first second
  long_config one other name told also long reads =
      elim reads [
        | inl same ↦ absurd (long_short (tells names.first) one told (subst (λ (l : List ℕ). TellsFile (tells l) IsLong) same long))
        | inr rest ↦ elim rest [
          | inl behind ↦ absurd (long_short (tells names.second) other also (subst (λ (l : List ℕ). TellsFile (tells l) IsLong) behind.0 long))
          | inr script ↦ (script.1, script.2, script.3)
        ]
      ]

  -- the configurations that were accepted are those that are told
  same_configs : (first second taken also : Config) → AreToldConfigs tells names first second → AreConfigured tells names taken also → (taken ≡ first) × (also ≡ second)
  same_configs first second taken also told is =
      let e = configs_told taken also told.first_bytes told.second_bytes told.first_told told.second_told is in
      (same_ok (configuration told.first_bytes) taken first e.0 told.first_is, same_ok (configuration told.second_bytes) also second e.1 told.second_is)

  script_is : (reader : ValueReader) (first second taken also : Config) (bytes : List ℕ) (judgement : Result Script (ℕ × ScriptFault)) → AreToldConfigs tells names first second
      → AreConfigured tells names taken also → IsTold (tells names.script) bytes → IsJudgedScript (tells names.script) taken true judgement
      → script_in reader first bytes true ≡ judgement
  script_is reader first second taken also bytes judgement told is script judged =
      subst (λ (c : Config). script_in reader c bytes true ≡ judgement) (same_configs first second taken also told is).0
      (script_told reader (tells names.script) taken true bytes judgement script.told judged)

  -- a configuration that is told isn't refused
  config_not : (first second : Config) (code : ℕ) (path : List ℕ) → AreToldConfigs tells names first second
      → IsJudged (tells names.first) (Err (code, path)) ⊎ ((taken : Config) × IsJudged (tells names.first) (Ok taken) × IsJudged (tells names.second) (Err (code, path))) → ⊥
  config_not first second code path told is =
      elim is [
        | inl judged ↦ ok_not_err (configuration told.first_bytes) first told.first_is (err_is (configuration told.first_bytes) (code, path) (judged_told (tells names.first) told.first_bytes (Err (code, path)) told.first_told.told judged))
        | inr also ↦ ok_not_err (configuration told.second_bytes) second told.second_is (err_is (configuration told.second_bytes) (code, path) (judged_told (tells names.second) told.second_bytes (Err (code, path)) told.second_told.told also.2))
      ]

  source_not : (first second : Config) (set : ℕ) → AreToldConfigs tells names first second
      → (taken also : Config) × IsJudged (tells names.first) (Ok taken) × IsJudged (tells names.second) (Ok also) × IsUnsourced taken also set → ⊥
  source_not first second set told (taken, also, one, other, none) =
      unsourced_not taken also set none
      (subst (λ (c : Config). AreSourced c also) (same_ok (configuration told.first_bytes) first taken told.first_is (judged_told (tells names.first) told.first_bytes (Ok taken) told.first_told.told one))
      (subst (AreSourced first) (same_ok (configuration told.second_bytes) second also told.second_is (judged_told (tells names.second) told.second_bytes (Ok also) told.second_told.told other)) told.sourced))

  not_long : (first second : Config) (bytes name : List ℕ) → AreToldConfigs tells names first second → IsTold (tells names.script) bytes → Reads tells names name → TellsFile (tells name) IsLong → ⊥
  not_long first second bytes name told script reads long =
      elim reads [
        | inl same ↦ long_short (tells names.first) told.first_bytes told.first_told (subst (λ (l : List ℕ). TellsFile (tells l) IsLong) same long)
        | inr rest ↦ elim rest [
          | inl behind ↦ long_short (tells names.second) told.second_bytes told.second_told (subst (λ (l : List ℕ). TellsFile (tells l) IsLong) behind.0 long)
          | inr last ↦ long_short (tells names.script) bytes script (subst (λ (l : List ℕ). TellsFile (tells l) IsLong) last.0 long)
        ]
      ]

-- a file that was judged isn't too long
not_named : (file : ToldFile) (bytes : List ℕ) (judgement : Judgement) → file ≡ Some (Some bytes) → IsJudged file judgement → ⊥ ↔ IsLong bytes
not_named file bytes judgement told judged = ((λ no. absurd no), (λ long. long_judged file bytes judgement told judged long))

-- ---- what a status says

module _ (names : Names) (old new : Outside) (lab wire : Wire) where
  accepted_refused : (n : ℕ) (first second : Config) (one other : List ℕ) → IsTold (old.file names.first) one → IsTold (old.file names.second) other → AreConfigured old.file names first second
      → (n ≡ 3 → ⊥) → (n ≡ 3) ↔ AreRefused one other
  accepted_refused n first second one other told also is differs =
      ((λ three. absurd (differs three)), (λ refused. absurd (not_refused old.file names first second one other told also is refused)))

  config_refused : (status : Status) (one other : List ℕ) → Says status names old new lab wire → IsTold (old.file names.first) one → IsTold (old.file names.second) other → (IsUnread status → ⊥)
      → (IsOutOfMemory status → ⊥) → IsConfigRefused status ↔ AreRefused one other
  config_refused Done one other h told also a b = accepted_refused 0 h.1.accepted.first h.1.accepted.second one other told also h.1.accepts.configured (λ e. omega arith)
  config_refused Unwritten one other h told also a b = accepted_refused 6 h.1.accepted.first h.1.accepted.second one other told also h.1.accepts.configured (λ e. omega arith)
  config_refused Unopened one other h told also a b = accepted_refused 8 h.0.first h.0.second one other told also h.1.configured (λ e. omega arith)
  config_refused (ScriptRefused line fault) one other h told also a b = accepted_refused 4 h.0 h.1 one other told also h.2 (λ e. omega arith)
  config_refused (Long file) one other h told also a b =
      let is = long_config old.file names one other file.now told also h.1 h.0 in accepted_refused 9 is.0 is.1 one other told also is.2 (λ e. omega arith)
  config_refused (ConfigRefused code path) one other h told also a b = (
    (λ three. elim h [
      | inl judged ↦ inl (err_is (configuration one) (code, path) (judged_told (old.file names.first) one (Err (code, path)) told.told judged))
      | inr behind ↦ inr (inl (err_is (configuration other) (code, path) (judged_told (old.file names.second) other (Err (code, path)) also.told behind.2)))
    ]),
    (λ refused. refl),
  )
  config_refused (NoSource set) one other h told also a b = (
    (λ three. inr (inr (h.0, h.1, judged_told (old.file names.first) one (Ok h.0) told.told h.2, judged_told (old.file names.second) other (Ok h.1) also.told h.3, unsourced_not h.0 h.1 set h.4))),
    (λ refused. refl),
  )
  config_refused (Unread file) one other h told also a b = absurd (a refl)
  config_refused OutOfMemory one other h told also a b = absurd (b refl)
  config_refused BadWords one other h told also a b = absurd h
  config_refused (NotInLanes line) one other h told also a b = absurd h

  accepted_script : (n : ℕ) (reader : ValueReader) (first second : Config) (bytes : List ℕ) (accepted : Accepted) → AreToldConfigs old.file names first second → IsTold (old.file names.script) bytes
      → Accepts old.file names accepted → (n ≡ 4 → ⊥) → (n ≡ 4) ↔ IsErr (script_in reader first bytes true)
  accepted_script n reader first second bytes accepted told script accepts differs = (
    (λ four. absurd (differs four)),
    (λ err. absurd (ok_not_err (script_in reader first bytes true) accepted.script
        (script_is old.file names reader first second accepted.first accepted.second bytes (Ok accepted.script) told accepts.configured script accepts.scripted) err)),
  )

  script_refused : (status : Status) (reader : ValueReader) (first second : Config) (bytes : List ℕ) → Says status names old new lab wire → AreToldConfigs old.file names first second
      → IsTold (old.file names.script) bytes → (IsUnread status → ⊥) → (IsOutOfMemory status → ⊥) → IsScriptRefused status ↔ IsErr (script_in reader first bytes true)
  script_refused Done reader first second bytes h told script a b = accepted_script 0 reader first second bytes h.1.accepted told script h.1.accepts (λ e. omega arith)
  script_refused Unwritten reader first second bytes h told script a b = accepted_script 6 reader first second bytes h.1.accepted told script h.1.accepts (λ e. omega arith)
  script_refused Unopened reader first second bytes h told script a b = accepted_script 8 reader first second bytes h.0 told script h.1 (λ e. omega arith)
  script_refused (ScriptRefused line fault) reader first second bytes h told script a b = (
    (λ four. err_is (script_in reader first bytes true) (line, fault) (script_is old.file names reader first second h.0 h.1 bytes (Err (line, fault)) told h.2 script h.3)),
    (λ err. refl),
  )
  script_refused (ConfigRefused code path) reader first second bytes h told script a b = absurd (config_not old.file names first second code path told h)
  script_refused (NoSource set) reader first second bytes h told script a b = absurd (source_not old.file names first second set told h)
  script_refused (Long file) reader first second bytes h told script a b = absurd (not_long old.file names first second bytes file.now told script h.0 h.1)
  script_refused (Unread file) reader first second bytes h told script a b = absurd (a refl)
  script_refused OutOfMemory reader first second bytes h told script a b = absurd (b refl)
  script_refused BadWords reader first second bytes h told script a b = absurd h
  script_refused (NotInLanes line) reader first second bytes h told script a b = absurd h

  first_long : (status : Status) (bytes : List ℕ) → Says status names old new lab wire → old.file names.first ≡ Some (Some bytes) → (IsUnread status → ⊥) → (IsOutOfMemory status → ⊥)
      → NamesLong status names.first ↔ IsLong bytes
  first_long Done bytes h told a b = not_named (old.file names.first) bytes (Ok h.1.accepted.first) told h.1.accepts.configured.first_is
  first_long Unwritten bytes h told a b = not_named (old.file names.first) bytes (Ok h.1.accepted.first) told h.1.accepts.configured.first_is
  first_long Unopened bytes h told a b = not_named (old.file names.first) bytes (Ok h.0.first) told h.1.configured.first_is
  first_long (ScriptRefused line fault) bytes h told a b = not_named (old.file names.first) bytes (Ok h.0) told h.2.first_is
  first_long (NoSource set) bytes h told a b = not_named (old.file names.first) bytes (Ok h.0) told h.2
  first_long (ConfigRefused code path) bytes h told a b =
      elim h [
        | inl judged ↦ not_named (old.file names.first) bytes (Err (code, path)) told judged
        | inr behind ↦ not_named (old.file names.first) bytes (Ok behind.0) told behind.1
      ]
  first_long (Long file) bytes h told a b = (
    (λ same. long_is (old.file names.first) bytes told (subst (λ (l : List ℕ). TellsFile (old.file l) IsLong) same h.1)),
    (λ long. elim h.0 [
      | inl same ↦ same
      | inr rest ↦ elim rest [
        | inl behind ↦ absurd (long_judged (old.file names.first) bytes (Ok behind.1) told behind.2 long)
        | inr script ↦ absurd (long_judged (old.file names.first) bytes (Ok script.1) told script.3.first_is long)
      ]
    ]),
  )
  first_long (Unread file) bytes h told a b = absurd (a refl)
  first_long OutOfMemory bytes h told a b = absurd (b refl)
  first_long BadWords bytes h told a b = absurd h
  first_long (NotInLanes line) bytes h told a b = absurd h

  second_long : (status : Status) (first : Config) (one bytes : List ℕ) → Says status names old new lab wire → IsTold (old.file names.first) one → configuration one ≡ Ok first
      → old.file names.second ≡ Some (Some bytes) → (IsUnread status → ⊥) → (IsOutOfMemory status → ⊥) → NamesLong status names.second ↔ IsLong bytes
  second_long Done first one bytes h known is told a b = not_named (old.file names.second) bytes (Ok h.1.accepted.second) told h.1.accepts.configured.second_is.judged
  second_long Unwritten first one bytes h known is told a b = not_named (old.file names.second) bytes (Ok h.1.accepted.second) told h.1.accepts.configured.second_is.judged
  second_long Unopened first one bytes h known is told a b = not_named (old.file names.second) bytes (Ok h.0.second) told h.1.configured.second_is.judged
  second_long (ScriptRefused line fault) first one bytes h known is told a b = not_named (old.file names.second) bytes (Ok h.1) told h.2.second_is.judged
  second_long (NoSource set) first one bytes h known is told a b = not_named (old.file names.second) bytes (Ok h.1) told h.3
  second_long (ConfigRefused code path) first one bytes h known is told a b =
      elim h [
        | inl judged ↦ absurd (ok_not_err (configuration one) first is (err_is (configuration one) (code, path) (judged_told (old.file names.first) one (Err (code, path)) known.told judged)))
        | inr behind ↦ not_named (old.file names.second) bytes (Err (code, path)) told behind.2
      ]
  second_long (Long file) first one bytes h known is told a b = (
    (λ same. long_is (old.file names.second) bytes told (subst (λ (l : List ℕ). TellsFile (old.file l) IsLong) same h.1)),
    (λ long. elim h.0 [
      | inl same ↦ absurd (long_short (old.file names.first) one known (subst (λ (l : List ℕ). TellsFile (old.file l) IsLong) same h.1))
      | inr rest ↦ elim rest [
        | inl behind ↦ behind.0
        | inr script ↦ absurd (long_judged (old.file names.second) bytes (Ok script.2) told script.3.second_is.judged long)
      ]
    ]),
  )
  second_long (Unread file) first one bytes h known is told a b = absurd (a refl)
  second_long OutOfMemory first one bytes h known is told a b = absurd (b refl)
  second_long BadWords first one bytes h known is told a b = absurd h
  second_long (NotInLanes line) first one bytes h known is told a b = absurd h

  script_long : (status : Status) (first second : Config) (bytes : List ℕ) → Says status names old new lab wire → AreToldConfigs old.file names first second
      → old.file names.script ≡ Some (Some bytes) → (IsUnread status → ⊥) → (IsOutOfMemory status → ⊥) → IsTooLong status ↔ IsLong bytes
  script_long Done first second bytes h known told a b =
      short true (old.file names.script) h.1.accepted.first bytes (Ok h.1.accepted.script) 0 told h.1.accepts.scripted (λ e. omega arith)
  script_long Unwritten first second bytes h known told a b =
      short true (old.file names.script) h.1.accepted.first bytes (Ok h.1.accepted.script) 6 told h.1.accepts.scripted (λ e. omega arith)
  script_long Unopened first second bytes h known told a b = short true (old.file names.script) h.0.first bytes (Ok h.0.script) 8 told h.1.scripted (λ e. omega arith)
  script_long (ScriptRefused line fault) first second bytes h known told a b = short true (old.file names.script) h.0 bytes (Err (line, fault)) 4 told h.3 (λ e. omega arith)
  script_long (ConfigRefused code path) first second bytes h known told a b = absurd (config_not old.file names first second code path known h)
  script_long (NoSource set) first second bytes h known told a b = absurd (source_not old.file names first second set known h)
  script_long (Long file) first second bytes h known told a b = (
    (λ nine. elim h.0 [
      | inl same ↦ absurd (long_short (old.file names.first) known.first_bytes known.first_told (subst (λ (l : List ℕ). TellsFile (old.file l) IsLong) same h.1))
      | inr rest ↦ elim rest [
        | inl behind ↦ absurd (long_short (old.file names.second) known.second_bytes known.second_told (subst (λ (l : List ℕ). TellsFile (old.file l) IsLong) behind.0 h.1))
        | inr last ↦ long_is (old.file names.script) bytes told (subst (λ (l : List ℕ). TellsFile (old.file l) IsLong) last.0 h.1)
      ]
    ]),
    (λ long. refl),
  )
  script_long (Unread file) first second bytes h known told a b = absurd (a refl)
  script_long OutOfMemory first second bytes h known told a b = absurd (b refl)
  script_long BadWords first second bytes h known told a b = absurd h
  script_long (NotInLanes line) first second bytes h known told a b = absurd h

  completes : {X : Type 0} (status : Status) → Says status names old new lab wire → AreTold old.file names → (IsUnread status → ⊥) → (IsUnwritten status → ⊥) → (IsUnopened status → X)
      → IsDone status ⊎ IsOutOfMemory status ⊎ X
  completes Done h t a b other = inl refl
  completes OutOfMemory h t a b other = inr (inl refl)
  completes Unopened h t a b other = inr (inr (other refl))
  completes (Unread file) h t a b other = absurd (a refl)
  completes Unwritten h t a b other = absurd (b refl)
  completes (ConfigRefused code path) h t a b other = absurd (config_not old.file names t.first t.second code path t.configs h)
  completes (NoSource set) h t a b other = absurd (source_not old.file names t.first t.second set t.configs h)
  completes (ScriptRefused line fault) h t a b other =
      absurd (ok_not_err (script_in t.reader t.first t.bytes true) t.script t.script_is
      (err_is (script_in t.reader t.first t.bytes true) (line, fault) (script_is old.file names t.reader t.first t.second h.0 h.1 t.bytes (Err (line, fault)) t.configs h.2 t.told h.3)))
  completes (Long file) h t a b other = absurd (not_long old.file names t.first t.second t.bytes file.now t.configs t.told h.0 h.1)
  completes BadWords h t a b other = absurd h
  completes (NotInLanes line) h t a b other = absurd h

-- ---- how it ends

-- one of the links failed to open
not_closed : (before after : Wire) → StaysClosed before after → IsQuietOrOpened before after → ⊥
not_closed before after closed (inl quiet) = quiet closed.rose
not_closed before after closed (inr opened) = opened closed.openings

none_closed : (lab lab_after wire wire_after : Wire) → LeavesUnopened lab lab_after wire wire_after → IsQuietOrOpened lab lab_after → IsQuietOrOpened wire wire_after → ⊥
none_closed lab lab_after wire wire_after left a b = elim left [ inl closed ↦ not_closed lab lab_after closed.0 a | inr closed ↦ not_closed wire wire_after closed b ]

relay_ends : (status : Status) (names : Names) (old new : Outside) (lab lab_after wire wire_after : Wire) → Says status names old new lab_after wire_after
    → UsesLinks old.file names status lab lab_after wire wire_after → HasCause old.read_faults new.read_faults (IsUnread status) → HasCause old.write_faults new.write_faults (IsUnwritten status)
    → ((name : List ℕ) → new.file name ≡ old.file name) → RelayEnds status names old new lab lab_after wire wire_after
relay_ends status names old new lab lab_after wire wire_after h links reads writes files = record {
  says = h;
  links = links;
  config_refused = λ one other. config_refused names old new lab_after wire_after status one other h;
  script_refused = λ reader first second bytes. script_refused names old new lab_after wire_after status reader first second bytes h;
  first_long = λ bytes. first_long names old new lab_after wire_after status bytes h;
  second_long = λ first one bytes. second_long names old new lab_after wire_after status first one bytes h;
  script_long = λ first second bytes. script_long names old new lab_after wire_after status first second bytes h;
  complete = λ told folder_quiet out_quiet lab_opened wire_opened.
      elim (completes names old new lab_after wire_after {X = ⊥} status h told (λ is. folder_quiet (reads.rose is)) (λ is. out_quiet (writes.rose is))
      (λ is. none_closed lab lab_after wire wire_after (links.unopened is) lab_opened wire_opened)) [
        | inl e ↦ inl e
        | inr rest ↦ elim rest [ inl e ↦ inr e | inr e ↦ absurd e ]
      ];
  complete_but_for_opening = λ told folder_quiet out_quiet.
      completes names old new lab_after wire_after {X = IsUnopened status} status h told (λ is. folder_quiet (reads.rose is)) (λ is. out_quiet (writes.rose is)) (λ is. is);
  reads = reads;
  writes = writes;
  files = files;
}

-- ---- its parts

-- the folder's files are as they were, and its count of faults doesn't fall
abbrev pub KeepsFiles : Outside → Outside → Type 0
KeepsFiles old new = ((name : List ℕ) → new.file name ≡ old.file name) × (old.read_faults ≤ new.read_faults)

record IsEarly (status : Status) : Type 0 where
  pub opened : IsUnopened status → ⊥
  pub written : IsUnwritten status → ⊥
  pub performed : IsPerformed status → ⊥

accepting_early : (status : Status) (tells : List ℕ → ToldFile) (names : Names) → EndsAccepting tells names status → IsEarly status
accepting_early (ConfigRefused code path) tells names ends = record { opened = λ is. omega arith; written = λ is. omega arith; performed = λ is. elim is [ inl e ↦ omega (arith, e) | inr e ↦ omega (arith, e) ] }
accepting_early (NoSource set) tells names ends = record { opened = λ is. omega arith; written = λ is. omega arith; performed = λ is. elim is [ inl e ↦ omega (arith, e) | inr e ↦ omega (arith, e) ] }
accepting_early (ScriptRefused line fault) tells names ends = record { opened = λ is. omega arith; written = λ is. omega arith; performed = λ is. elim is [ inl e ↦ omega (arith, e) | inr e ↦ omega (arith, e) ] }
accepting_early (Unread file) tells names ends = record { opened = λ is. omega arith; written = λ is. omega arith; performed = λ is. elim is [ inl e ↦ omega (arith, e) | inr e ↦ omega (arith, e) ] }
accepting_early OutOfMemory tells names ends = record { opened = λ is. omega arith; written = λ is. omega arith; performed = λ is. elim is [ inl e ↦ omega (arith, e) | inr e ↦ omega (arith, e) ] }
accepting_early (Long file) tells names ends = record { opened = λ is. omega arith; written = λ is. omega arith; performed = λ is. elim is [ inl e ↦ omega (arith, e) | inr e ↦ omega (arith, e) ] }
accepting_early Done tells names ends = absurd ends
accepting_early Unwritten tells names ends = absurd ends
accepting_early Unopened tells names ends = absurd ends
accepting_early BadWords tells names ends = absurd ends
accepting_early (NotInLanes line) tells names ends = absurd ends

says_unaccepted : (status : Status) (names : Names) (old new : Outside) (lab wire : Wire) → EndsAccepting old.file names status → Says status names old new lab wire
says_unaccepted (ConfigRefused code path) names old new lab wire ends = ends
says_unaccepted (NoSource set) names old new lab wire ends = ends
says_unaccepted (ScriptRefused line fault) names old new lab wire ends = ends
says_unaccepted (Unread file) names old new lab wire ends = ends
says_unaccepted OutOfMemory names old new lab wire ends = tt
says_unaccepted (Long file) names old new lab wire ends = ends
says_unaccepted Done names old new lab wire ends = absurd ends
says_unaccepted Unwritten names old new lab wire ends = absurd ends
says_unaccepted Unopened names old new lab wire ends = absurd ends
says_unaccepted BadWords names old new lab wire ends = absurd ends
says_unaccepted (NotInLanes line) names old new lab wire ends = absurd ends

says_written : (status : Status) (names : Names) (old new : Outside) (lab wire : Wire) (text : List ℕ) → Writes old.file names lab wire text → EndsWriting old.written new.written text status
    → Says status names old new lab wire
says_written Done names old new lab wire text writes written = (text, writes, written)
says_written Unwritten names old new lab wire text writes written = (text, writes, written)
says_written BadWords names old new lab wire text writes written = absurd written
says_written (ConfigRefused code path) names old new lab wire text writes written = absurd written
says_written (NoSource set) names old new lab wire text writes written = absurd written
says_written (ScriptRefused line fault) names old new lab wire text writes written = absurd written
says_written (NotInLanes line) names old new lab wire text writes written = absurd written
says_written (Unread file) names old new lab wire text writes written = absurd written
says_written OutOfMemory names old new lab wire text writes written = absurd written
says_written Unopened names old new lab wire text writes written = absurd written
says_written (Long file) names old new lab wire text writes written = absurd written

-- nothing was accepted, and no link was used
pub ends_unaccepted : (status : Status) (names : Names) (old new : Outside) (lab wire : Wire) → EndsAccepting old.file names status → (IsUnread status → Rose old.read_faults new.read_faults)
    → KeepsFiles old new → old.write_faults ≡ new.write_faults → RelayEnds status names old new lab lab wire wire
ends_unaccepted status names old new lab wire ends rose keeps same =
    let early = accepting_early status old.file names ends in
    relay_ends status names old new lab lab wire wire (says_unaccepted status names old new lab wire ends)
    (record {
      lab_opens = λ differs. absurd (differs refl);
      wire_opens = λ differs. absurd (differs refl);
      unopened = λ is. absurd (early.opened is);
      lab_once = stays-unopened lab early.performed;
      wire_once = stays-unopened wire early.performed;
      lab_lasts = stays-telling lab;
      wire_lasts = stays-telling wire;
      lab_counts = omega arith;
      wire_counts = omega arith;
    })
    (record { later = keeps.1; rose = rose }) (record { later = omega (arith, same); rose = λ is. absurd (early.written is) }) keeps.0

-- neither end comes behind a session that was performed
unperformed : (end : PlayEnd) → IsPerformed (status_of end) → ⊥
unperformed ends.Memory is = elim is [ inl e ↦ omega (arith, e) | inr e ↦ omega (arith, e) ]
unperformed ends.Unopened is = elim is [ inl e ↦ omega (arith, e) | inr e ↦ omega (arith, e) ]

module _ (names : Names) (old new : Outside) (lab lab_after wire wire_after : Wire) (accepted : Accepted) (accepts : Accepts old.file names accepted) {done refused : Type 0}
    (opens : OpensBoth (opening_of accepted.first accepted.script) (opening_again accepted.second) done refused session_nothings lab lab_after wire wire_after) where
  uses : (status : Status) → (IsPerformed status → done) → (IsUnopened status → refused) → UsesLinks old.file names status lab lab_after wire wire_after
  uses status performed unopened =
      let first = opens.lab_opens in
      let second = opens.wire_opens in
      record {
        lab_opens = λ differs. (accepted, accepts, first.opens differs);
        wire_opens = λ differs. (accepted, accepts, second.opens differs);
        unopened = λ is. opens.unopened (unopened is);
        lab_once = record { making = first.once.making; at_most_once = first.once.at_most_once; once = λ is. first.once.once (performed is) };
        wire_once = record { making = second.once.making; at_most_once = second.once.at_most_once; once = λ is. second.once.once (performed is) };
        lab_lasts = first.lasts;
        wire_lasts = second.lasts;
        lab_counts = first.counts;
        wire_counts = second.counts;
      }

  -- memory ran out, or a link could not be opened
  ends_unplayed : (end : PlayEnd) → (end ≡ ends.Unopened → refused) → KeepsFiles old new → old.write_faults ≡ new.write_faults
      → RelayEnds (status_of end) names old new lab lab_after wire wire_after
  ends_unplayed ends.Memory unopened keeps same =
      relay_ends (status_of ends.Memory) names old new lab lab_after wire wire_after tt
      (uses (status_of ends.Memory) (λ is. absurd (unperformed ends.Memory is)) (λ is. absurd (omega (arith, is))))
      (record { later = keeps.1; rose = λ is. absurd (omega (arith, is)) }) (record { later = omega (arith, same); rose = λ is. absurd (omega (arith, is)) }) keeps.0
  ends_unplayed ends.Unopened unopened keeps same =
      relay_ends (status_of ends.Unopened) names old new lab lab_after wire wire_after (accepted, accepts)
      (uses (status_of ends.Unopened) (λ is. absurd (unperformed ends.Unopened is)) (λ is. unopened refl))
      (record { later = keeps.1; rose = λ is. absurd (omega (arith, is)) }) (record { later = omega (arith, same); rose = λ is. absurd (omega (arith, is)) }) keeps.0

  pub ends_so : (status : Status) (end : PlayEnd) → status ≡ status_of end → (end ≡ ends.Unopened → refused) → KeepsFiles old new → old.write_faults ≡ new.write_faults
      → RelayEnds status names old new lab lab_after wire wire_after
  ends_so status end is unopened keeps same =
      subst (λ (s : Status). RelayEnds s names old new lab lab_after wire wire_after) (sym is) (ends_unplayed end unopened keeps same)

  -- the text was made, and the last write ends the command
  pub ends_written : (status : Status) (text : List ℕ) → done → IsRelayOf accepted.first accepted.second accepted.script lab_after.told wire_after.told text
      → EndsWriting old.written new.written text status → HasCause old.write_faults new.write_faults (IsUnwritten status) → KeepsFiles old new
      → RelayEnds status names old new lab lab_after wire wire_after
  ends_written status text is relay written cause keeps =
      let late = written_late status old.written new.written text written in
      relay_ends status names old new lab lab_after wire wire_after
      (says_written status names old new lab_after wire_after text
      (record { accepted = accepted; accepts = accepts; lab_opened = opens.lab_opens.opened is; wire_opened = opens.wire_opens.opened is; relay = relay }) written)
      (uses status (λ performed. is) (λ unopened. absurd (late.opened unopened)))
      (record { later = keeps.1; rose = λ unread. absurd (late.read unread) }) cause keeps.0

-- ---- what was not accepted

module _ (tells then : List ℕ → ToldFile) (names : Names) (files : (name : List ℕ) → then name ≡ tells name) where
  -- of the second file
  pub accepting_second : (status : Status) (first : Config) → IsJudged (tells names.first) (Ok first) → EndsSecond (then names.second) first names.second status → EndsAccepting tells names status
  accepting_second status first is ends = go status (subst (λ (file : ToldFile). EndsSecond file first names.second status) (files names.second) ends)
    where
      go : (s : Status) → EndsSecond (tells names.second) first names.second s → EndsAccepting tells names s
      go (ConfigRefused code path) e = inr (first, is, e)
      go (NoSource set) e = (first, e.0, is, e.1, e.2)
      go (Unread file) e = inr (inl (e, first, is))
      go (Long file) e = (inr (inl (e.0, first, is)), subst (λ (l : List ℕ). TellsFile (tells l) IsLong) (sym e.0) e.1)
      go OutOfMemory e = tt
      go (ScriptRefused line fault) e = absurd e
      go Done e = absurd e
      go Unwritten e = absurd e
      go Unopened e = absurd e
      go BadWords e = absurd e
      go (NotInLanes line) e = absurd e

  -- of the script
  pub accepting_script : (status : Status) (first second : Config) → AreConfigured tells names first second → EndsScript (then names.script) first names.script true status
      → EndsAccepting tells names status
  accepting_script status first second is ends = go status (subst (λ (file : ToldFile). EndsScript file first names.script true status) (files names.script) ends)
    where
      go : (s : Status) → EndsScript (tells names.script) first names.script true s → EndsAccepting tells names s
      go (ScriptRefused line fault) e = (first, second, is, e)
      go (Unread file) e = inr (inr (e, first, second, is))
      go (Long file) e = (inr (inr (e.0, first, second, is)), subst (λ (l : List ℕ). TellsFile (tells l) IsLong) (sym e.0) e.1)
      go OutOfMemory e = tt
      go (ConfigRefused code path) e = absurd e
      go (NoSource set) e = absurd e
      go Done e = absurd e
      go Unwritten e = absurd e
      go Unopened e = absurd e
      go BadWords e = absurd e
      go (NotInLanes line) e = absurd e

-- of the first file
pub accepting_first : (tells : List ℕ → ToldFile) (names : Names) (status : Status) → EndsConfigFile (tells names.first) names.first status → EndsAccepting tells names status
accepting_first tells names (ConfigRefused code path) e = inl e
accepting_first tells names (Unread file) e = inl e
accepting_first tells names (Long file) e = (inl e.0, subst (λ (l : List ℕ). TellsFile (tells l) IsLong) (sym e.0) e.1)
accepting_first tells names OutOfMemory e = tt
accepting_first tells names (ScriptRefused line fault) e = absurd e
accepting_first tells names (NoSource set) e = absurd e
accepting_first tells names Done e = absurd e
accepting_first tells names Unwritten e = absurd e
accepting_first tells names Unopened e = absurd e
accepting_first tells names BadWords e = absurd e
accepting_first tells names (NotInLanes line) e = absurd e
