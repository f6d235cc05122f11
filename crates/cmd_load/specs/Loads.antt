-- How the command `load` ends.
use Rattle.std.specs.Prelude.{◌≡◌, ◌⊎◌, ⊤, ℕ, ◌*◌, List, [], ◌∷◌, Option, Some}
use Rattle.ua_base.specs.Cause.{HasCause}
use Rattle.ua_base.specs.Links.{Opening}
use Rattle.ua_base.specs.Output.{appended, AppendsPrefix}
use Rattle.ps_config.specs.BuiltIn.{built_in_config}
use Rattle.ps_report.specs.declared.closed.Closed.{Closed}
use Rattle.ps_report.specs.declared.closed.HeldEnd.{HeldEnd}
use Rattle.ps_report.specs.declared.closed.ReaderEnd.{ReaderEnd}
use Rattle.ps_report.specs.Reports.{load_text, load_versions}
use Rattle.ps_script.specs.Generated.{generated}
use Rattle.report_laws.specs.Reported.{IsReported}
use Rattle.session_laws.specs.Sessions.{TakesWhatWasSent}
use Rattle.script_player.specs.Plays.{opening_of, plan_by}
use Rattle.script_runner.specs.Runs.{IsRunOf}
use Rattle.cmd_base.specs.declared.status.Status.{Status}
use Rattle.cmd_base.specs.declared.status.Status.TheVariants.{Done, Unwritten, OutOfMemory, Unopened}
use Rattle.cmd_base.specs.Outside.{Wire, IsQuiet}
use Rattle.cmd_base.specs.Statuses.{IsDone, IsUnwritten, IsOutOfMemory, IsUnopened, IsPerformed}
use Rattle.cmd_base.specs.Links.{IsQuietOrOpened, UsesLink}
use Rattle.cmd_load.specs.Newest.{newest_text}

-- ---- the outside

-- what an output tells: what was written, and how often a write has failed
pub record Output : Type 0 where
  pub written : Option (List ℕ)
  pub faults : ℕ

abbrev pub output_of : {K : Type 0} → (K → Option (List ℕ)) → (K → ℕ) → K → Output
output_of written faults out = record { written = written out; faults = faults out }

-- the link was opened for the work: with the built-in configuration's port, and no fates
abbrev pub OpensForWork : ℕ → Option Opening → Type 0
OpensForWork n opened = opened ≡ Some (opening_of built_in_config (generated n))

-- ---- the summary

-- the reader holds a row of this version
pub record HoldsVersion (version : ℕ) (closed : Closed) : Type 0 where
  pub end : ReaderEnd
  pub held : HeldEnd
  pub reader : closed.readers ≡ end ∷ []
  pub held_is : end.held ≡ Some held
  pub version_is : held.version ≡ Some version

-- The text is the summary of a session that ran the work, which the link tells of: its history has 32n versions. Where the read group
-- takes nothing but what was sent, it is the same text each time that the reader holds the last of them, whatever order the threads wrote in. The text tells what
-- it prints of this session: no other with the same text has another row there, or waits for another reason.
pub record Summarizes (n : ℕ) (after : Wire) (text : List ℕ) : Type 0 where
  pub closed : Closed
  pub opened : OpensForWork n after.opened_with
  pub run : IsRunOf built_in_config (generated n) after.told closed
  pub reported : IsReported built_in_config closed
  pub text_is : text ≡ load_text built_in_config closed n (4 * n)
  pub versions : load_versions closed.histories ≡ 32 * n
  pub newest : TakesWhatWasSent (plan_by built_in_config (generated n)) 0 run.steps → HoldsVersion (32 * n) closed → text ≡ newest_text n

-- ---- what each status says

-- old, new: what the output tells before and after; after: what the link tells then
abbrev pub Loads : Status → ℕ → Output → Output → Wire → Type 0
Loads Done n old new after = (text : List ℕ) × Summarizes n after text × (new.written ≡ appended old.written text)
Loads Unwritten n old new after = (text : List ℕ) × Summarizes n after text × AppendsPrefix old.written new.written text
Loads OutOfMemory n old new after = ⊤
Loads Unopened n old new after = ⊤
Loads _ n old new after = ⊥

-- How the command ends. old, new: what the output tells before and after; before, after: what the link tells
pub record LoadEnds (status : Status) (n : ℕ) (old new : Output) (before after : Wire) : Type 0 where
  pub says : Loads status n old new after
  pub link : UsesLink (OpensForWork n) (IsUnopened status) (IsPerformed status) before after
  -- the work is run, where no write and no opening fails
  pub complete : IsQuiet old.faults new.faults → IsQuietOrOpened before after → IsDone status ⊎ IsOutOfMemory status
  pub complete_but_for_opening : IsQuiet old.faults new.faults → IsDone status ⊎ IsOutOfMemory status ⊎ IsUnopened status
  -- a fault is answered only where the output's count of faults rose, and it doesn't fall
  pub writes : HasCause old.faults new.faults (IsUnwritten status)
