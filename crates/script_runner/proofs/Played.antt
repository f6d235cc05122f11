-- A played script is a run of it: its threads wrote in the order of the lines, and each tick sampled what was written before it.
use Rattle.std.proofs.Common.{◌≡◌, ◌⊎◌, inl, inr, ℕ, ◌<◌, ◌≤◌, Bool, true, false, List, [], ◌∷◌, length, reverse, refl, sym, ap, ◌∙◌, subst, arith, Option}
use Rattle.std.proofs.lemmas.Bool.{cases_lt}
use Rattle.std.proofs.lemmas.List.FromFn.{fill_by_all, get_or-map-range_with_len, length-map-range_with_len}
use Rattle.dataset_meta.specs.DataValues.{DataValue}
use Rattle.dataset_meta.specs.Metas.{MetaData}
use Rattle.ua_base.specs.Journal.{LinkState}
use Rattle.pubsub_model.specs.History.{Written as WrittenRow, row_of}
use Rattle.version_cell.proofs.Logs.{starts_itself, starts_length, starts_trans}
use Rattle.version_cell.specs.declared.rule.Entry.{Entry}
use Rattle.version_cell.specs.Histories.{StartsWith, history_of, row_after}
use Rattle.app_threads.specs.Closing.{threads_of}
use Rattle.ps_config.specs.declared.parts.Config.{Config}
use Rattle.ps_report.specs.declared.closed.Closed.{Closed}
use Rattle.ps_report.specs.declared.closed.WatchEnd.{WatchEnd}
use Rattle.ps_script.specs.declared.script.Act.{Act}
use Rattle.ps_script.specs.declared.script.Act.TheVariants as act
use Rattle.ps_script.specs.declared.script.Line.{Line}
use Rattle.ps_script.specs.declared.script.Script.{Script}
use Rattle.ps_script.specs.Sound.{IsScript}
use Rattle.writer_group.specs.declared.sampled.Sampled.{Sampled}
use Rattle.writer_group.specs.Turns.{no_sample}
use Rattle.session_model.specs.Steps.{Plan, Step, Tick, Pump}
use Rattle.session_model.specs.Sets.{meta_in}
use Rattle.session_laws.specs.Telling.{HasRun, TellsHeadline}
use Rattle.script_player.specs.Plays.{IsPlayOf, plan_by, row_written}
use Rattle.script_player.specs.Playing.{IsLineBy, IsPlayed, IsTickedBy, log_after, sample_after, samples_after, with_write}
use Rattle.script_player.proofs.Headline.{HistoriesHaveRows, headline, starts-taken, starts-with-write}
use Rattle.script_runner.specs.Legal.{IsLegalLog, fields_in, history_by, row_made}
use Rattle.script_runner.specs.Running.{AreWithin, IsLineRun, IsRunBy, IsTickedAt, Logs, sample_at, samples_at}
use Rattle.script_runner.specs.Played.{IsRunInOrder, WritesLegally, logs_written}
use Rattle.script_runner.specs.Runs.{IsRunOf}
use Rattle.script_runner.proofs.Legal.{ClosedHistoriesAreLegal}
use Rattle.script_runner.proofs.PlayedLegal.{RowLaws, past-none, played-legal}
use Rattle.script_runner.proofs.PlayedLooks.{are-looks}

-- what these lines write to each data set is a beginning of its history
abbrev Begin : List MetaData → Logs → List Line → Type 0
Begin full logs lines = (set : ℕ) → set < length full → StartsWith (logs set) (log_after (meta_in full set) set lines)

-- how much they write to it
abbrev counts_by : List MetaData → List Line → ℕ → ℕ
counts_by full lines = λ set. length (log_after (meta_in full set) set lines)

begin-before : (full : List MetaData) (logs : Logs) (line : Line) (before : List Line) → Begin full logs (line ∷ before) → Begin full logs before
begin-before full logs line before begin set lt =
    let meta = meta_in full set in
    let log = log_after meta set before in
    starts_trans (logs set) (with_write meta set log line.act) log (begin set lt) (starts-with-write meta set log line.act)

within-begun : (full : List MetaData) (logs : Logs) (lines : List Line) → Begin full logs lines → AreWithin (length full) logs (counts_by full lines)
within-begun full logs lines begin set lt = starts_length (logs set) (log_after (meta_in full set) set lines) (begin set lt)

samples-begun : (full : List MetaData) (logs : Logs) (lines : List Line) → Begin full logs lines → samples_after full lines ≡ samples_at (length full) logs (counts_by full lines)
samples-begun full logs lines begin =
    fill_by_all (λ (set : ℕ). sample_at (logs set) (counts_by full lines set)) (samples_after full lines) (length full) no_sample
    (length-map-range_with_len (λ (set : ℕ). sample_after (meta_in full set) set lines) 0 (length full))
    (λ set lt.
    let seen : List Entry = log_after (meta_in full set) set lines in
    let sampled : List Entry → Sampled = λ taken. record { row = record { words = row_after taken }; version = length seen } in
    get_or-map-range_with_len (λ (s : ℕ). sample_after (meta_in full s) s lines) 0 (length full) set set no_sample lt (omega arith)
    ∙ ap sampled (sym (starts-taken (logs set) seen (begin set lt))))

pub ticked-so : (p : Plan) (logs : Logs) (lines : List Line) (ms : ℕ) (closing : Bool) (earlier steps : List Step) → Begin p.full logs lines → IsTickedBy p lines ms closing earlier steps
    → IsTickedAt p logs (counts_by p.full lines) ms closing earlier steps
ticked-so p logs lines ms closing earlier steps begin (done, entries, same) =
    (done, entries, same ∙ ap (λ (samples : List Sampled). Pump entries ∷ Tick ms closing samples done ∷ earlier) (samples-begun p.full logs lines begin))

line-so : (p : Plan) (logs : Logs) (before : List Line) (a : Act) (earlier steps : List Step) (looked looks : List WatchEnd) → Begin p.full logs before
    → IsLineBy p before a earlier steps looked looks → IsLineRun p logs a earlier steps
line-so p logs before (act.Write thread set patch) earlier steps looked looks begin by = by.0
line-so p logs before (act.Tick ms) earlier steps looked looks begin by =
    (counts_by p.full before, within-begun p.full logs before begin, ticked-so p logs before ms false earlier steps begin by.0)
line-so p logs before (act.Enable id) earlier steps looked looks begin by = by.0
line-so p logs before (act.Disable id) earlier steps looked looks begin by = by.0
line-so p logs before (act.Fated k fate) earlier steps looked looks begin by = by.0
line-so p logs before (act.Watch thread reader times) earlier steps looked looks begin by = by.0
line-so p logs before (act.Append set) earlier steps looked looks begin by = by.0

pub run-so : (p : Plan) (logs : Logs) (lines : List Line) (steps : List Step) (looks : List WatchEnd) → Begin p.full logs lines → IsPlayed p lines steps looks → IsRunBy p logs lines steps
run-so p logs [] steps looks begin played = played.0
run-so p logs (line ∷ before) steps looks begin (earlier, looked, played, by) =
    let then = begin-before p.full logs line before begin in
    (earlier, run-so p logs before earlier looked then played, line-so p logs before line.act earlier steps looked looks then by)

-- ---- the histories

module _ (config : Config) (script : Script) (is : IsScript config script) (row-laws : RowLaws) (closed-laws : ClosedHistoriesAreLegal) where
  abbrev logs : Logs
  logs = logs_written script

  legal : (set : ℕ) → set < length config.dataset → IsLegalLog script set (logs set)
  legal set lt = played-legal config script is row-laws set lt closed-laws

  row-same : (set version : ℕ) → row_written script set version ≡ row_made script logs set version
  row-same set version = go (cases_lt set (length script.metas))
    where
      go : (set < length script.metas) ⊎ (length script.metas ≤ set) → row_written script set version ≡ row_made script logs set version
      go (inl there) = ap (λ (history : List WrittenRow). row_of (fields_in script set) history version) (legal set (let e = is.sets in omega (arith, e, there))).history
      go (inr past) =
          let none = past-none config script set is past in
          ap (λ (log : List Entry). row_of (fields_in script set) (history_of (fields_in script set) log) version) none
          ∙ sym (ap (λ (log : List Entry). row_of (fields_in script set) (history_by script set (threads_of log)) version) none)

  rows-same : row_written script ≡ row_made script logs
  rows-same = λ i set version. row-same set version i

  pub writes-legally : WritesLegally config script
  writes-legally = record { legal = legal; threads = λ set. refl; rows = rows-same }

-- ---- the whole of it

module _ (config : Config) (script : Script) (told : Option LinkState) (closed : Closed) (is : IsScript config script) (play : IsPlayOf config script told closed) (rows : HistoriesHaveRows)
    (row-laws : RowLaws) (closed-laws : ClosedHistoriesAreLegal) where
  abbrev p : Plan
  p = plan_by config script

  begin : Begin script.metas (logs_written script) (reverse script.lines)
  begin set lt = starts_itself (logs_written script set)

  abbrev is-run : IsRunOf config script told closed
  is-run = record {
    logs = logs_written script;
    earlier = play.earlier;
    steps = play.steps;
    legal = legal config script is row-laws closed-laws;
    ran = run-so p (logs_written script) (reverse script.lines) play.earlier play.looks begin play.played;
    ends = ticked-so p (logs_written script) (reverse script.lines) 0 true play.earlier play.steps begin play.ends;
    rise = (headline config script play.earlier play.steps play.looks is play.played play.ends rows).0;
    steps_are = play.steps_are;
    run = play.run;
    lived = subst (λ (r : ℕ → ℕ → List DataValue). HasRun p play.steps r) (rows-same config script is row-laws closed-laws) play.lived;
    tells = play.tells;
    closed_after = play.closed_after;
    histories = play.histories;
    watches = are-looks p script.lines play.earlier play.looks closed.watches play.played play.watches;
    headline = subst (λ (r : ℕ → ℕ → List DataValue). TellsHeadline p play.steps r closed) (rows-same config script is row-laws closed-laws) play.headline;
  }

  pub in-order : IsRunInOrder config script told closed play
  in-order = record { run = is-run; steps = refl; logs = λ set. refl }
