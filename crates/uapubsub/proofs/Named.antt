-- What the statuses of the commands say, by their numbers.
use Rattle.std.proofs.Common.{◌≡◌, ◌<◌, ◌⊎◌, inl, inr, ℕ, Bool, true, false, List, ◌∷◌, length, map, Option, refl, sym, ap, ◌∙◌, subst, arith}
use Rattle.std.specs.Prelude.{reverse}
use Rattle.std.specs.List.{range_with_len}
use Rattle.std.proofs.lemmas.List.{length-map}
use Rattle.std.proofs.lemmas.List.Elements.{length_all_zip}
use Rattle.std.proofs.lemmas.List.FromFn.{get_or-map-range_with_len}
use Rattle.ua_base.specs.Files.{ToldFile}
use Rattle.ua_base.specs.Journal.{Entry, LinkState}
use Rattle.ua_base.specs.Output.{appended}
use Rattle.app_threads.specs.Marks.{authors}
use Rattle.dataset_meta.specs.Metas.{HasGrown, MetaData}
use Rattle.ps_config.specs.declared.parts.Config.{Config}
use Rattle.ps_report.specs.declared.closed.Closed.{Closed}
use Rattle.ps_report.specs.Reports.{report_text}
use Rattle.ps_script.specs.declared.script.Script.{Script}
use Rattle.report_laws.specs.Reported.{IsReported}
use Rattle.report_laws.proofs.Alone.{written_tells}
use Rattle.session_model.specs.Closing.{IsClosedAfter}
use Rattle.session_model.specs.Sends.{TellsRun}
use Rattle.session_model.specs.Sets.{GrowTo, meta_in}
use Rattle.session_model.specs.Steps.{Pump, Step, Tick}
use Rattle.session_laws.specs.Sessions.{ClosesWith}
use Rattle.session_laws.specs.Telling.{HasRun, TellsHeadline}
use Rattle.script_player.specs.Playing.{log_after, sample_after}
use Rattle.script_player.specs.Plays.{IsPlayOf, plan_by, row_written, writers_in}
use Rattle.script_runner.specs.Legal.{row_made}
use Rattle.script_runner.specs.Running.{sample_at}
use Rattle.script_runner.specs.Runs.{IsRunOf}
use Rattle.writer_group.specs.declared.sampled.Sampled.{Sampled}
use Rattle.writer_group.specs.Turns.{no_sample}
use Rattle.cmd_base.specs.declared.status.Status.{Status}
use Rattle.cmd_base.specs.declared.status.Status.TheVariants.{Done, BadWords, ConfigRefused, NoSource, ScriptRefused, NotInLanes, Unread, Unwritten, OutOfMemory, Unopened, Long}
use Rattle.cmd_base.specs.Outside.{Outside, Wire}
use Rattle.cmd_base.specs.Statuses.{number_of}
use Rattle.cmd_base.specs.Checks.{Checks}
use Rattle.cmd_base.specs.Links.{IsBeforeLink as IsStatusBeforeLink}
use Rattle.cmd_base.specs.Sessions.{IsReportOf, Performance, Refusal, Says, Text, takes_all}
use Rattle.cmd_load.specs.Loads.{Loads, Output}
use Rattle.cmd_json.specs.Jsons.{IsJsonOf}
use Rattle.cmd_keys.proofs.Told.{no_usage as keys_is_no_usage}
use Rattle.cmd_relay.specs.Ends.{Names, Says as RelaySays, names_of}
use Rattle.cmd_lanes.specs.Runs.{IsLanesOf}
use Rattle.cmd_lanes.specs.Scripts.{refusal as lanes_refusal}
use Rattle.uapubsub.specs.Ends.{Does, IsBeforeLink, World, output_in}
use Rattle.uapubsub.specs.Words.{Shape, Check, Play, Run, Load, Json, Keys, Relay, Lanes}
use Rattle.uapubsub.specs.Headline.{Performance as Performed, PlayedIn, RanIn, Rows, TellsOne, Threads, WritesHeadline, WritesPlay, WritesRun}

-- what a performed script has for the headline
record HasHeadline (InSteps : Performed) (config : Config) (script : Script) (told : Option LinkState) (closed : Closed) : Type 0 where
  threads : Threads
  rows : Rows
  steps : List Step
  performed : InSteps config script threads rows steps told closed
  lived : HasRun (plan_by config script) steps rows
  tells : TellsRun (plan_by config script) steps told
  closed_after : IsClosedAfter (plan_by config script) steps closed
  histories : map (λ history. history.threads) closed.histories ≡ map threads (range_with_len 0 (length config.dataset))
  closes : (set : ℕ) → set < length config.dataset → ClosesWith steps set (length (threads set))
  headline : TellsHeadline (plan_by config script) steps rows closed

-- the closing tick sampled each data set at the end of its history
closes-by : (config : Config) (full : List MetaData) (sample : ℕ → Sampled) (threads : Threads) (earlier steps : List Step) (done : List Bool) (entries : List Entry) → GrowTo config.dataset full
    → ((set : ℕ) → (sample set).version ≡ length (threads set)) → steps ≡ Pump entries ∷ Tick 0 true (map sample (range_with_len 0 (length full))) done ∷ earlier
    → (set : ℕ) → set < length config.dataset → ClosesWith steps set (length (threads set))
closes-by config full sample threads earlier steps done entries grow whole is set lt =
    let there : set < length full = omega (arith, lt, length_all_zip HasGrown config.dataset full grow) in
    let sampled = get_or-map-range_with_len sample 0 (length full) set set no_sample there (omega arith) in
    subst (λ (l : List Step). ClosesWith l set (length (threads set))) (sym is) (inl (refl, ap (λ (s : Sampled). s.version) sampled ∙ whole set))

-- `check` doesn't end as words without a shape do
pub check_is_no_usage : (status : Status) (name : List ℕ) (file : ToldFile) (old new : Option (List ℕ)) → Checks status name file old new → number_of status ≡ 2 → ⊥
check_is_no_usage BadWords name file old new h two = h
check_is_no_usage Done name file old new h two = omega arith
check_is_no_usage (ConfigRefused code path) name file old new h two = omega arith
check_is_no_usage (NoSource set) name file old new h two = omega arith
check_is_no_usage (ScriptRefused line fault) name file old new h two = omega arith
check_is_no_usage (NotInLanes line) name file old new h two = omega arith
check_is_no_usage (Unread unread) name file old new h two = omega arith
check_is_no_usage Unwritten name file old new h two = omega arith
check_is_no_usage OutOfMemory name file old new h two = omega arith
check_is_no_usage Unopened name file old new h two = omega arith
check_is_no_usage (Long which) name file old new h two = omega arith

-- nor does a command that takes a script
pub session_is_no_usage : (IsText : Text) (refusal : Refusal) (fates : Bool) (status : Status) (script_name : List ℕ) (config_name : Option (List ℕ)) (old new : Outside) (after : Wire)
    → Says IsText refusal fates status script_name config_name old new after → number_of status ≡ 2 → ⊥
session_is_no_usage IsText refusal fates BadWords script_name config_name old new after h two = h
session_is_no_usage IsText refusal fates Done script_name config_name old new after h two = omega arith
session_is_no_usage IsText refusal fates (ConfigRefused code path) script_name config_name old new after h two = omega arith
session_is_no_usage IsText refusal fates (NoSource set) script_name config_name old new after h two = omega arith
session_is_no_usage IsText refusal fates (ScriptRefused line fault) script_name config_name old new after h two = omega arith
session_is_no_usage IsText refusal fates (NotInLanes line) script_name config_name old new after h two = omega arith
session_is_no_usage IsText refusal fates (Unread unread) script_name config_name old new after h two = omega arith
session_is_no_usage IsText refusal fates Unwritten script_name config_name old new after h two = omega arith
session_is_no_usage IsText refusal fates OutOfMemory script_name config_name old new after h two = omega arith
session_is_no_usage IsText refusal fates Unopened script_name config_name old new after h two = omega arith
session_is_no_usage IsText refusal fates (Long which) script_name config_name old new after h two = omega arith

-- nor does `load`, which reads no file
pub load_numbers : (status : Status) (n : ℕ) (old new : Output) (after : Wire) → Loads status n old new after
    → (number_of status ≡ 0) ⊎ (number_of status ≡ 6) ⊎ (number_of status ≡ 7) ⊎ (number_of status ≡ 8)
load_numbers BadWords n old new after h = absurd h
load_numbers Done n old new after h = inl refl
load_numbers (ConfigRefused code path) n old new after h = absurd h
load_numbers (NoSource set) n old new after h = absurd h
load_numbers (ScriptRefused line fault) n old new after h = absurd h
load_numbers (NotInLanes line) n old new after h = absurd h
load_numbers (Unread unread) n old new after h = absurd h
load_numbers Unwritten n old new after h = inr (inl refl)
load_numbers OutOfMemory n old new after h = inr (inr (inl refl))
load_numbers Unopened n old new after h = inr (inr (inr refl))
load_numbers (Long which) n old new after h = absurd h

-- nor does `relay`
pub relay_is_no_usage : (status : Status) (names : Names) (old new : Outside) (lab wire : Wire) → RelaySays status names old new lab wire → number_of status ≡ 2 → ⊥
relay_is_no_usage BadWords names old new lab wire h two = h
relay_is_no_usage Done names old new lab wire h two = omega arith
relay_is_no_usage (ConfigRefused code path) names old new lab wire h two = omega arith
relay_is_no_usage (NoSource set) names old new lab wire h two = omega arith
relay_is_no_usage (ScriptRefused line fault) names old new lab wire h two = omega arith
relay_is_no_usage (NotInLanes line) names old new lab wire h two = omega arith
relay_is_no_usage (Unread unread) names old new lab wire h two = omega arith
relay_is_no_usage Unwritten names old new lab wire h two = omega arith
relay_is_no_usage OutOfMemory names old new lab wire h two = omega arith
relay_is_no_usage Unopened names old new lab wire h two = omega arith
relay_is_no_usage (Long which) names old new lab wire h two = omega arith

-- no command ends as words without a shape do
pub does_is_no_usage : (shape : Shape) (status : Status) (old new : World) → Does shape status old new → number_of status ≡ 2 → ⊥
does_is_no_usage (Check config) status old new h two =
    check_is_no_usage status config (old.outside.file config) old.outside.written new.outside.written h.checks two
does_is_no_usage (Play script config) status old new h two =
    session_is_no_usage (IsReportOf IsPlayOf) takes_all true status script config old.outside new.outside new.lab h.says two
does_is_no_usage (Run script config) status old new h two =
    session_is_no_usage (IsReportOf IsRunOf) takes_all false status script config old.outside new.outside new.wire h.says two
does_is_no_usage (Load n) status old new h two = numbers (load_numbers status n (output_in old) (output_in new) new.lab h.says)
  where
    numbers : (number_of status ≡ 0) ⊎ (number_of status ≡ 6) ⊎ (number_of status ≡ 7) ⊎ (number_of status ≡ 8) → ⊥
    numbers (inl e) = omega arith
    numbers (inr (inl e)) = omega arith
    numbers (inr (inr (inl e))) = omega arith
    numbers (inr (inr (inr e))) = omega arith
does_is_no_usage (Json script config) status old new h two =
    session_is_no_usage IsJsonOf takes_all true status script config old.outside new.outside new.lab h.says two
does_is_no_usage (Keys config asked) status old new h two =
    keys_is_no_usage status config asked (old.outside.file config) old.outside.written new.outside.written h.says two
does_is_no_usage (Relay script first second) status old new h two =
    relay_is_no_usage status (names_of script first second) old.outside new.outside new.lab new.wire h.says two
does_is_no_usage (Lanes script config) status old new h two =
    session_is_no_usage IsLanesOf lanes_refusal true status script config old.outside new.outside new.lab h.says two

-- what was written tells one session
tells-one : (config : Config) (closed : Closed) (old new : Option (List ℕ)) → IsReported config closed → new ≡ appended old (report_text config closed)
    → TellsOne config closed old new
tells-one config closed old new reported written = λ before other is its same.
    written_tells config closed other before reported its
    (ap (λ (told : Option (List ℕ)). appended told (report_text config closed)) (sym is) ∙ sym written ∙ same
    ∙ ap (λ (told : Option (List ℕ)). appended told (report_text config other)) is)

-- with status 0 the report tells the headline, where what is performed has such rows
headline_by : (Performs : Performance) (fates : Bool) (InSteps : Performed) → ((config : Config) (script : Script) (told : Option LinkState) (closed : Closed)
    → Performs config script told closed → HasHeadline InSteps config script told closed)
    → (status : Status) (script_name : List ℕ) (config_name : Option (List ℕ)) (old new : Outside) (after : Wire)
    → Says (IsReportOf Performs) takes_all fates status script_name config_name old new after
    → number_of status ≡ 0 → WritesHeadline fates InSteps script_name config_name old new after
headline_by Performs fates InSteps has Done script_name config_name old new after h zero =
    let headline = has h.1.config h.1.script after.told h.1.is_text.0 h.1.is_text.1 in
    let written : new.written ≡ appended old.written (report_text h.1.config h.1.is_text.0) = h.2 ∙ ap (appended old.written) h.1.is_text.2 in
    record {
      config = h.1.config;
      script = h.1.script;
      accepts = h.1.accepts;
      threads = headline.threads;
      rows = headline.rows;
      steps = headline.steps;
      closed = h.1.is_text.0;
      performed = headline.performed;
      lived = headline.lived;
      tells = headline.tells;
      closed_after = headline.closed_after;
      reported = h.1.is_text.3;
      histories = headline.histories;
      closes = headline.closes;
      headline = headline.headline;
      written = written;
      alone = tells-one h.1.config h.1.is_text.0 old.written new.written h.1.is_text.3 written;
    }
headline_by Performs fates InSteps has BadWords script_name config_name old new after h zero = absurd h
headline_by Performs fates InSteps has (ConfigRefused code path) script_name config_name old new after h zero = absurd (omega arith)
headline_by Performs fates InSteps has (NoSource set) script_name config_name old new after h zero = absurd (omega arith)
headline_by Performs fates InSteps has (ScriptRefused line fault) script_name config_name old new after h zero = absurd (omega arith)
headline_by Performs fates InSteps has (NotInLanes line) script_name config_name old new after h zero = absurd (omega arith)
headline_by Performs fates InSteps has (Unread unread) script_name config_name old new after h zero = absurd (omega arith)
headline_by Performs fates InSteps has Unwritten script_name config_name old new after h zero = absurd (omega arith)
headline_by Performs fates InSteps has OutOfMemory script_name config_name old new after h zero = absurd (omega arith)
headline_by Performs fates InSteps has Unopened script_name config_name old new after h zero = absurd (omega arith)
headline_by Performs fates InSteps has (Long which) script_name config_name old new after h zero = absurd (omega arith)

pub played_headline : (status : Status) (script_name : List ℕ) (config_name : Option (List ℕ)) (old new : Outside) (after : Wire)
    → Says (IsReportOf IsPlayOf) takes_all true status script_name config_name old new after → number_of status ≡ 0 → WritesPlay script_name config_name old new after
played_headline = headline_by IsPlayOf true PlayedIn (λ config script told closed play. record {
  threads = writers_in script;
  rows = row_written script;
  steps = play.steps;
  performed = record { play = play; steps_are = refl; threads_are = refl; rows_are = refl };
  lived = play.lived;
  tells = play.tells;
  closed_after = play.closed_after;
  histories = play.histories;
  closes =
      closes-by config script.metas (λ set. sample_after (meta_in script.metas set) set (reverse script.lines)) (writers_in script) play.earlier play.steps play.ends.0 play.ends.1 play.lived.plan.grow
      (λ set. sym (length-map (log_after (meta_in script.metas set) set (reverse script.lines)) (λ write. write.author))) play.ends.2;
  headline = play.headline;
})

pub run_headline : (status : Status) (script_name : List ℕ) (config_name : Option (List ℕ)) (old new : Outside) (after : Wire)
    → Says (IsReportOf IsRunOf) takes_all false status script_name config_name old new after → number_of status ≡ 0 → WritesRun script_name config_name old new after
run_headline = headline_by IsRunOf false RanIn (λ config script told closed run. record {
  threads = λ set. authors (run.logs set);
  rows = row_made script run.logs;
  steps = run.steps;
  performed = record { run = run; steps_are = refl; threads_are = refl; rows_are = refl };
  lived = run.lived;
  tells = run.tells;
  closed_after = run.closed_after;
  histories = run.histories;
  closes =
      closes-by config script.metas (λ set. sample_at (run.logs set) (length (run.logs set))) (λ set. authors (run.logs set)) run.earlier run.steps run.ends.0 run.ends.1 run.lived.plan.grow
      (λ set. sym (length-map (run.logs set) (λ e. e.author))) run.ends.2;
  headline = run.headline;
})

-- a status before the link is used, by its number
pub before_link : (status : Status) (n : ℕ) → n ≡ number_of status → (number_of status ≡ 2 → ⊥) → IsBeforeLink n → IsStatusBeforeLink status
before_link status n is other (inl e) = absurd (other (sym is ∙ e))
before_link status n is other (inr (inl e)) = inl (sym is ∙ e)
before_link status n is other (inr (inr (inl e))) = inr (inl (sym is ∙ e))
before_link status n is other (inr (inr (inr (inl e)))) = inr (inr (inl (sym is ∙ e)))
before_link status n is other (inr (inr (inr (inr e)))) = inr (inr (inr (sym is ∙ e)))
