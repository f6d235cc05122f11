-- What a status of the command says, where the folder tells the files.
use Rattle.std.proofs.Common.{◌≡◌, ◌↔◌, ◌⊎◌, inl, inr, ℕ, Bool, List, Option, Some, None, Result, Ok, Err, refl, sym, ap, ◌∙◌, subst, arith}
use Rattle.std.specs.Prelude.{IsErr, is_err, is_some}
use Rattle.std.proofs.lemmas.Bool.{false≢true}
use Rattle.ua_base.specs.Files.{ToldFile, TellsFile}
use Rattle.ps_config.specs.declared.parts.Config.{Config}
use Rattle.ps_config.specs.Reading.{configuration}
use Rattle.ps_script.specs.declared.fault.ScriptFault.{ScriptFault}
use Rattle.ps_script.specs.declared.script.Script.{Script}
use Rattle.ps_script.specs.Scripts.{script as script_in}
use Rattle.ps_script.specs.Values.{ValueReader}
use Rattle.cmd_base.specs.declared.status.Status.{Status}
use Rattle.cmd_base.specs.declared.status.Status.TheVariants.{Done, BadWords, ConfigRefused, NoSource, ScriptRefused, NotInLanes, Unread, Unwritten, OutOfMemory, Unopened, Long}
use Rattle.cmd_base.specs.Configurations.{IsConfigured, IsJudged, IsToldConfig}
use Rattle.cmd_base.specs.Files.{IsLong, IsTold}
use Rattle.cmd_base.specs.Outside.{Outside, Wire}
use Rattle.cmd_base.specs.Scripts.{IsJudgedScript}
use Rattle.cmd_base.specs.Statuses.{IsDone, IsConfigRefused, IsScriptRefused, IsUnread, IsUnwritten, IsOutOfMemory, IsUnopened, IsTooLong}
use Rattle.cmd_base.proofs.Told.{judged_told, script_told, config_told, config_not_refused, config_not_long, long_read, long_judged, long_is, long_short}
use Rattle.cmd_base.specs.Sessions.{Text, Refusal, Accepts, AreTold, IsRefused, NamesLong, Reads, Says}

-- ---- results

ok_not_err : {A B : Type 0} (result : Result A B) (a : A) → result ≡ Ok a → IsErr result → ⊥
ok_not_err result a e err = false≢true (sym (ap is_err e) ∙ err)

err_is : {A B : Type 0} (result : Result A B) (b : B) → result ≡ Err b → IsErr result
err_is result b e = ap is_err e

-- ---- refusals

not_refused : (refusal : Refusal) (result : Result Script (ℕ × ScriptFault)) (script : Script) → result ≡ Ok script → refusal script ≡ None → IsRefused refusal result → ⊥
not_refused refusal result script e takes refused =
    false≢true (sym (ap is_some takes) ∙ subst (λ (r : Result Script (ℕ × ScriptFault)). IsRefused refusal r) e refused)

line_refused : (refusal : Refusal) (result : Result Script (ℕ × ScriptFault)) (script : Script) (line : ℕ) → result ≡ Ok script → refusal script ≡ Some line → IsRefused refusal result
line_refused refusal result script line e refuses = subst (λ (r : Result Script (ℕ × ScriptFault)). IsRefused refusal r) (sym e) (ap is_some refuses)

err_refused : (refusal : Refusal) (result : Result Script (ℕ × ScriptFault)) (fault : ℕ × ScriptFault) → result ≡ Err fault → IsRefused refusal result
err_refused refusal result fault e = subst (λ (r : Result Script (ℕ × ScriptFault)). IsRefused refusal r) (sym e) tt

-- ---- the configuration

-- of a file that is told, a configuration that was taken is what it is
taken_is : (tells : List ℕ → ToldFile) (config_name : Option (List ℕ)) (name bytes : List ℕ) (taken : Config) → config_name ≡ Some name → tells name ≡ Some (Some bytes)
    → IsConfigured tells config_name taken → configuration bytes ≡ Ok taken
taken_is tells config_name name bytes taken is told configured =
    judged_told (tells name) bytes (Ok taken) told (subst (λ (o : Option (List ℕ)). IsConfigured tells o taken) is configured)

taken_not_long : (tells : List ℕ → ToldFile) (config_name : Option (List ℕ)) (name bytes : List ℕ) (taken : Config) → config_name ≡ Some name → tells name ≡ Some (Some bytes)
    → IsConfigured tells config_name taken → IsLong bytes → ⊥
taken_not_long tells config_name name bytes taken is told configured =
    long_judged (tells name) bytes (Ok taken) told (subst (λ (o : Option (List ℕ)). IsConfigured tells o taken) is configured)

same_name : (config_name : Option (List ℕ)) (name other : List ℕ) → config_name ≡ Some name → config_name ≡ Some other → other ≡ name
same_name config_name name other is also = let both : Some other ≡ Some name = sym also ∙ is in cc

-- where a configuration was taken, it isn't refused
taken_accepts : (tells : List ℕ → ToldFile) (config_name : Option (List ℕ)) (name bytes : List ℕ) (taken : Config) (n : ℕ) → config_name ≡ Some name → IsTold (tells name) bytes
    → IsConfigured tells config_name taken → (n ≡ 3 → ⊥) → (n ≡ 3) ↔ IsErr (configuration bytes)
taken_accepts tells config_name name bytes taken n is told configured differs =
    ((λ three. absurd (differs three)), (λ err. absurd (ok_not_err (configuration bytes) taken (taken_is tells config_name name bytes taken is told.told configured) err)))

-- where a configuration was taken, it isn't too long
taken_short : (tells : List ℕ → ToldFile) (config_name : Option (List ℕ)) (name bytes : List ℕ) (taken : Config) → config_name ≡ Some name → tells name ≡ Some (Some bytes)
    → IsConfigured tells config_name taken → ⊥ ↔ IsLong bytes
taken_short tells config_name name bytes taken is told configured = ((λ no. absurd no), (λ long. taken_not_long tells config_name name bytes taken is told configured long))

-- ---- the script

-- no file was too long
not_long : (tells : List ℕ → ToldFile) (script_name : List ℕ) (config_name : Option (List ℕ)) (config : Config) (bytes name : List ℕ) → IsToldConfig tells config_name config
    → IsTold (tells script_name) bytes → Reads tells script_name config_name name → TellsFile (tells name) IsLong → ⊥
not_long tells script_name config_name config bytes name known told (inl named) long = config_not_long tells config_name config name known named long
not_long tells script_name config_name config bytes name known told (inr of_script) long =
    long_short (tells script_name) bytes told (subst (λ (l : List ℕ). TellsFile (tells l) IsLong) of_script.0 long)

-- ---- what is accepted

module _ (fates : Bool) where
  -- what it was judged, for the configuration that is told
  script_is : (reader : ValueReader) (tells : List ℕ → ToldFile) (script_name : List ℕ) (config_name : Option (List ℕ)) (config taken : Config) (bytes : List ℕ) (judgement : Result Script (ℕ × ScriptFault))
      → IsToldConfig tells config_name config → IsConfigured tells config_name taken → tells script_name ≡ Some (Some bytes) → IsJudgedScript (tells script_name) taken fates judgement
      → script_in reader config bytes fates ≡ judgement
  script_is reader tells script_name config_name config taken bytes judgement known configured told judged =
      subst (λ (c : Config). script_in reader c bytes fates ≡ judgement) (config_told tells config_name config taken known configured) (script_told reader (tells script_name) taken fates bytes judgement told judged)

  -- what was accepted and taken is not refused
  taken_is_not_refused : (refusal : Refusal) (reader : ValueReader) (tells : List ℕ → ToldFile) (script_name : List ℕ) (config_name : Option (List ℕ)) (config taken : Config) (script : Script)
      (bytes : List ℕ) (n : ℕ) → IsToldConfig tells config_name config → IsTold (tells script_name) bytes → Accepts fates tells script_name config_name taken script → refusal script ≡ None
      → (n ≡ 4 → ⊥) → (n ≡ 4) ↔ IsRefused refusal (script_in reader config bytes fates)
  taken_is_not_refused refusal reader tells script_name config_name config taken script bytes n known told accepts takes differs = (
    (λ four. absurd (differs four)),
    (λ refused. absurd (not_refused refusal (script_in reader config bytes fates) script
        (script_is reader tells script_name config_name config taken bytes (Ok script) known accepts.configured told.told accepts.scripted) takes refused)),
  )

  pub short : (file : ToldFile) (config : Config) (bytes : List ℕ) (judgement : Result Script (ℕ × ScriptFault)) (n : ℕ) → file ≡ Some (Some bytes) → IsJudgedScript file config fates judgement → (n ≡ 9 → ⊥)
      → (n ≡ 9) ↔ IsLong bytes
  short file config bytes judgement n told j differs = ((λ nine. absurd (differs nine)), (λ long. absurd (long_read file j.bytes bytes told j.read long)))

module _ (IsText : Text) (refusal : Refusal) (fates : Bool) where
  pub config_refused : (status : Status) (script_name : List ℕ) (config_name : Option (List ℕ)) (old new : Outside) (after : Wire) (name bytes : List ℕ)
      → Says IsText refusal fates status script_name config_name old new after → config_name ≡ Some name → IsTold (old.file name) bytes → (IsUnread status → ⊥) → (IsOutOfMemory status → ⊥)
      → IsConfigRefused status ↔ IsErr (configuration bytes)
  config_refused Done script_name config_name old new after name bytes h is told a b = taken_accepts old.file config_name name bytes h.1.config 0 is told h.1.accepts.configured (λ e. omega arith)
  config_refused Unwritten script_name config_name old new after name bytes h is told a b = taken_accepts old.file config_name name bytes h.1.config 6 is told h.1.accepts.configured (λ e. omega arith)
  config_refused Unopened script_name config_name old new after name bytes h is told a b = taken_accepts old.file config_name name bytes h.config 8 is told h.accepts.configured (λ e. omega arith)
  config_refused (NotInLanes line) script_name config_name old new after name bytes h is told a b = taken_accepts old.file config_name name bytes h.config 4 is told h.accepts.configured (λ e. omega arith)
  config_refused (NoSource set) script_name config_name old new after name bytes h is told a b = absurd h
  config_refused (ScriptRefused line fault) script_name config_name old new after name bytes h is told a b = taken_accepts old.file config_name name bytes h.0 4 is told h.1 (λ e. omega arith)
  config_refused (ConfigRefused code path) script_name config_name old new after name bytes h is told a b =
      let judged = subst (λ (l : List ℕ). IsJudged (old.file l) (Err (code, path))) (same_name config_name name h.0 is h.1) h.2 in
      ((λ three. err_is (configuration bytes) (code, path) (judged_told (old.file name) bytes (Err (code, path)) told.told judged)), (λ err. refl))
  config_refused (Long file) script_name config_name old new after name bytes h is told a b =
      elim h.0 [
        | inl named ↦ absurd (long_short (old.file name) bytes told (subst (λ (l : List ℕ). TellsFile (old.file l) IsLong) (same_name config_name name file.now is named) h.1))
        | inr of_script ↦ taken_accepts old.file config_name name bytes of_script.1 9 is told of_script.2 (λ e. omega arith)
      ]
  config_refused (Unread file) script_name config_name old new after name bytes h is told a b = absurd (a refl)
  config_refused OutOfMemory script_name config_name old new after name bytes h is told a b = absurd (b refl)
  config_refused BadWords script_name config_name old new after name bytes h is told a b = absurd h

  pub config_long : (status : Status) (script_name : List ℕ) (config_name : Option (List ℕ)) (old new : Outside) (after : Wire) (name bytes : List ℕ)
      → Says IsText refusal fates status script_name config_name old new after → config_name ≡ Some name → old.file name ≡ Some (Some bytes) → (IsUnread status → ⊥) → (IsOutOfMemory status → ⊥)
      → NamesLong status name ↔ IsLong bytes
  config_long Done script_name config_name old new after name bytes h is told a b = taken_short old.file config_name name bytes h.1.config is told h.1.accepts.configured
  config_long Unwritten script_name config_name old new after name bytes h is told a b = taken_short old.file config_name name bytes h.1.config is told h.1.accepts.configured
  config_long Unopened script_name config_name old new after name bytes h is told a b = taken_short old.file config_name name bytes h.config is told h.accepts.configured
  config_long (NotInLanes line) script_name config_name old new after name bytes h is told a b = taken_short old.file config_name name bytes h.config is told h.accepts.configured
  config_long (NoSource set) script_name config_name old new after name bytes h is told a b = absurd h
  config_long (ScriptRefused line fault) script_name config_name old new after name bytes h is told a b = taken_short old.file config_name name bytes h.0 is told h.1
  config_long (ConfigRefused code path) script_name config_name old new after name bytes h is told a b =
      let judged = subst (λ (l : List ℕ). IsJudged (old.file l) (Err (code, path))) (same_name config_name name h.0 is h.1) h.2 in
      ((λ no. absurd no), (λ long. long_judged (old.file name) bytes (Err (code, path)) told judged long))
  config_long (Long file) script_name config_name old new after name bytes h is told a b = (
    (λ same. long_is (old.file name) bytes told (subst (λ (l : List ℕ). TellsFile (old.file l) IsLong) same h.1)),
    (λ long. elim h.0 [
      | inl named ↦ same_name config_name name file.now is named
      | inr of_script ↦ absurd (taken_not_long old.file config_name name bytes of_script.1 is told of_script.2 long)
    ]),
  )
  config_long (Unread file) script_name config_name old new after name bytes h is told a b = absurd (a refl)
  config_long OutOfMemory script_name config_name old new after name bytes h is told a b = absurd (b refl)
  config_long BadWords script_name config_name old new after name bytes h is told a b = absurd h

  pub script_refused : (status : Status) (script_name : List ℕ) (config_name : Option (List ℕ)) (old new : Outside) (after : Wire) (reader : ValueReader) (config : Config) (bytes : List ℕ)
      → Says IsText refusal fates status script_name config_name old new after → IsToldConfig old.file config_name config → IsTold (old.file script_name) bytes → (IsUnread status → ⊥) → (IsOutOfMemory status → ⊥)
      → IsScriptRefused status ↔ IsRefused refusal (script_in reader config bytes fates)
  script_refused Done script_name config_name old new after reader config bytes h known told a b =
      taken_is_not_refused fates refusal reader old.file script_name config_name config h.1.config h.1.script bytes 0 known told h.1.accepts h.1.taken (λ e. omega arith)
  script_refused Unwritten script_name config_name old new after reader config bytes h known told a b =
      taken_is_not_refused fates refusal reader old.file script_name config_name config h.1.config h.1.script bytes 6 known told h.1.accepts h.1.taken (λ e. omega arith)
  script_refused Unopened script_name config_name old new after reader config bytes h known told a b =
      taken_is_not_refused fates refusal reader old.file script_name config_name config h.config h.script bytes 8 known told h.accepts h.taken (λ e. omega arith)
  script_refused (NotInLanes line) script_name config_name old new after reader config bytes h known told a b = (
    (λ four. line_refused refusal (script_in reader config bytes fates) h.script line
        (script_is fates reader old.file script_name config_name config h.config bytes (Ok h.script) known h.accepts.configured told.told h.accepts.scripted) h.refused),
    (λ refused. refl),
  )
  script_refused (NoSource set) script_name config_name old new after reader config bytes h known told a b = absurd h
  script_refused (ScriptRefused line fault) script_name config_name old new after reader config bytes h known told a b =
      ((λ four. err_refused refusal (script_in reader config bytes fates) (line, fault) (script_is fates reader old.file script_name config_name config h.0 bytes (Err (line, fault)) known h.1 told.told h.2)), (λ refused. refl))
  script_refused (ConfigRefused code path) script_name config_name old new after reader config bytes h known told a b =
      absurd (config_not_refused old.file config_name config h.0 (code, path) known h.1 h.2)
  script_refused (Long file) script_name config_name old new after reader config bytes h known told a b =
      absurd (not_long old.file script_name config_name config bytes file.now known told h.0 h.1)
  script_refused (Unread file) script_name config_name old new after reader config bytes h known told a b = absurd (a refl)
  script_refused OutOfMemory script_name config_name old new after reader config bytes h known told a b = absurd (b refl)
  script_refused BadWords script_name config_name old new after reader config bytes h known told a b = absurd h

  pub script_long : (status : Status) (script_name : List ℕ) (config_name : Option (List ℕ)) (old new : Outside) (after : Wire) (config : Config) (bytes : List ℕ)
      → Says IsText refusal fates status script_name config_name old new after → IsToldConfig old.file config_name config → old.file script_name ≡ Some (Some bytes) → (IsUnread status → ⊥) → (IsOutOfMemory status → ⊥)
      → IsTooLong status ↔ IsLong bytes
  script_long Done script_name config_name old new after config bytes h known told a b =
      short fates (old.file script_name) h.1.config bytes (Ok h.1.script) 0 told h.1.accepts.scripted (λ e. omega arith)
  script_long Unwritten script_name config_name old new after config bytes h known told a b =
      short fates (old.file script_name) h.1.config bytes (Ok h.1.script) 6 told h.1.accepts.scripted (λ e. omega arith)
  script_long Unopened script_name config_name old new after config bytes h known told a b = short fates (old.file script_name) h.config bytes (Ok h.script) 8 told h.accepts.scripted (λ e. omega arith)
  script_long (NotInLanes line) script_name config_name old new after config bytes h known told a b =
      short fates (old.file script_name) h.config bytes (Ok h.script) 4 told h.accepts.scripted (λ e. omega arith)
  script_long (NoSource set) script_name config_name old new after config bytes h known told a b = absurd h
  script_long (ScriptRefused line fault) script_name config_name old new after config bytes h known told a b =
      short fates (old.file script_name) h.0 bytes (Err (line, fault)) 4 told h.2 (λ e. omega arith)
  script_long (ConfigRefused code path) script_name config_name old new after config bytes h known told a b =
      absurd (config_not_refused old.file config_name config h.0 (code, path) known h.1 h.2)
  script_long (Long file) script_name config_name old new after config bytes h known told a b = (
    (λ nine. elim h.0 [
      | inl named ↦ absurd (config_not_long old.file config_name config file.now known named h.1)
      | inr of_script ↦ long_is (old.file script_name) bytes told (subst (λ (l : List ℕ). TellsFile (old.file l) IsLong) of_script.0 h.1)
    ]),
    (λ long. refl),
  )
  script_long (Unread file) script_name config_name old new after config bytes h known told a b = absurd (a refl)
  script_long OutOfMemory script_name config_name old new after config bytes h known told a b = absurd (b refl)
  script_long BadWords script_name config_name old new after config bytes h known told a b = absurd h

  -- it is played, or memory ran out, or the link was not opened
  pub completes : {X : Type 0} (status : Status) (script_name : List ℕ) (config_name : Option (List ℕ)) (old new : Outside) (after : Wire) → Says IsText refusal fates status script_name config_name old new after
      → AreTold refusal fates old.file script_name config_name → (IsUnread status → ⊥) → (IsUnwritten status → ⊥) → (IsUnopened status → X) → IsDone status ⊎ IsOutOfMemory status ⊎ X
  completes Done script_name config_name old new after h t a b other = inl refl
  completes OutOfMemory script_name config_name old new after h t a b other = inr (inl refl)
  completes Unopened script_name config_name old new after h t a b other = inr (inr (other refl))
  completes (Unread file) script_name config_name old new after h t a b other = absurd (a refl)
  completes Unwritten script_name config_name old new after h t a b other = absurd (b refl)
  completes (ConfigRefused code path) script_name config_name old new after h t a b other = absurd (config_not_refused old.file config_name t.config h.0 (code, path) t.configured h.1 h.2)
  completes (ScriptRefused line fault) script_name config_name old new after h t a b other =
      let judged = script_is fates t.reader old.file script_name config_name t.config h.0 t.bytes (Err (line, fault)) t.configured h.1 t.told.told h.2 in
      absurd (ok_not_err (script_in t.reader t.config t.bytes fates) t.script t.scripted (err_is (script_in t.reader t.config t.bytes fates) (line, fault) judged))
  completes (Long file) script_name config_name old new after h t a b other = absurd (not_long old.file script_name config_name t.config t.bytes file.now t.configured t.told h.0 h.1)
  completes (NotInLanes line) script_name config_name old new after h t a b other =
      let judged = script_is fates t.reader old.file script_name config_name t.config h.config t.bytes (Ok h.script) t.configured h.accepts.configured t.told.told h.accepts.scripted in
      let both : Ok h.script ≡ Ok t.script = sym judged ∙ t.scripted in
      let same : h.script ≡ t.script = cc in
      absurd (false≢true (sym (ap is_some (ap refusal same ∙ t.taken)) ∙ ap is_some h.refused))
  completes (NoSource set) script_name config_name old new after h t a b other = absurd h
  completes BadWords script_name config_name old new after h t a b other = absurd h
