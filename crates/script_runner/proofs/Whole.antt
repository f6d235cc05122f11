-- A whole run: its lines, the closing tick behind them, and what its session is closed as.
use Rattle.std.proofs.Common.{◌≡◌, Bool, true, List, ◌∷◌, length, reverse, sym, ap, ◌∙◌, Option}
use Rattle.std.proofs.lemmas.List.{length-map}
use Rattle.ua_base.specs.Journal.{Entry as LinkEntry, LinkState}
use Rattle.version_cell.specs.Cells.{CellData}
use Rattle.app_threads.specs.declared.done.Done.{Done}
use Rattle.ps_config.specs.declared.parts.Config.{Config}
use Rattle.ps_report.specs.declared.closed.Closed.{Closed}
use Rattle.ps_script.specs.declared.script.Script.{Script}
use Rattle.ps_script.specs.Sound.{IsScript}
use Rattle.session_laws.specs.Telling.{HasRun}
use Rattle.session_model.specs.Steps.{Plan, Step, Tick, Pump}
use Rattle.session_model.specs.Sends.{TellsRun}
use Rattle.session_model.specs.Closing.{IsClosedAfter}
use Rattle.session_model.specs.Counts.{most_ticks}
use Rattle.session_model.specs.Keeping.{AreSteps, IsPlan}
use Rattle.session_model.proofs.Lasting.{steps-more}
use Rattle.session_laws.specs.Sessions.{SamplesRise}
use Rattle.pubsub_engine.specs.declared.session.Session.{Session}
use Rattle.pubsub_engine.specs.Holding.{IsSession, passes_of, ticks_of}
use Rattle.pubsub_engine.specs.Standing.{Stands, samples_of}
use Rattle.script_player.specs.Plays.{plan_by}
use Rattle.script_player.proofs.Finished.{RunsTellTheHeadline}
use Rattle.script_player.proofs.Headline.{HistoriesHaveRows}
use Rattle.script_runner.specs.Conducting.{HasConducted}
use Rattle.script_runner.specs.Finishing.{Finishes}
use Rattle.script_runner.specs.Legal.{row_made}
use Rattle.script_runner.specs.Running.{IsRunBy, IsTickedAt, Logs}
use Rattle.script_runner.specs.Runs.{IsRunOf}
use Rattle.script_runner.proofs.Conducted.{count-passes}
use Rattle.script_runner.proofs.Ended.{Ends}
use Rattle.script_runner.proofs.Growing.{run-more}
use Rattle.script_runner.proofs.Sampling.{counts_in, grown, rise-more, seen_in, ticked-whole}
use Rattle.script_runner.proofs.Versions.{are-versions}

module _ (config : Config) (script : Script) (is : IsScript config script) (plan : IsPlan (plan_by config script)) (bank targets : List CellData) (dones : List Done) (told after : Option LinkState)
    (session : Session) (was : IsSession session) (h : HasConducted config script (reverse script.lines) told session) (closed : Closed)
    (f : Finishes bank targets session dones told after closed) where
  abbrev p : Plan
  p = plan_by config script

  abbrev new : Session
  new = f.new

  abbrev logs : Logs
  logs = seen_in (passes_of new)

  abbrev led : (done : List Bool) × (entries : List LinkEntry) × Stands p (Pump entries ∷ Tick 0 true (samples_of (passes_of new)) done ∷ h.steps) new
      × (TellsRun p h.steps told → TellsRun p (Pump entries ∷ Tick 0 true (samples_of (passes_of new)) done ∷ h.steps) after)
  led = f.leads p h.steps h.stands

  abbrev pub steps : List Step
  steps = Pump led.1 ∷ Tick 0 true (samples_of (passes_of new)) led.0 ∷ h.steps

  pub stands : Stands p steps new
  stands = led.2

  -- it has no more ticks than a script's
  steps_are : AreSteps p steps
  steps_are = steps-more (ticks_of new) most_ticks p steps f.of_script.few stands.steps_are

  count : length (passes_of new) ≡ length p.full
  count =
      f.bank_is.passes.count ∙ sym (length-map bank (λ (cell : CellData). cell.meta)) ∙ ap (λ l. length l) f.bank_is.metas
      ∙ ap (λ (q : Plan). length q.full) (f.plan ∙ h.stands.plan)

  ran : IsRunBy p logs (reverse script.lines) h.steps
  ran =
      run-more p (seen_in (passes_of session)) logs (reverse script.lines) h.steps
      (grown (length p.full) (passes_of session) (passes_of new) (count-passes p h.steps session was h.stands) f.more) h.ran

  ends : IsTickedAt p logs (counts_in (passes_of new)) 0 true h.steps steps
  ends = ticked-whole p (passes_of new) 0 true led.0 led.1 h.steps count

  rise : SamplesRise p steps
  rise = rise-more p h.steps (passes_of session) (passes_of new) f.more h.earlier 0 true led.0 led.1 h.rise

  pub is-run : HistoriesHaveRows → RunsTellTheHeadline → Ends config script h.steps new dones closed → IsRunOf config script after closed
  is-run rows tells-all e =
      let closed_after : IsClosedAfter p steps closed = f.closed_after p steps stands e.in_order in
      let lived : HasRun p steps (row_made script logs) = record {
        plan = plan;
        steps_are = steps_are;
        run = stands.run;
        rise = rise;
        versions = are-versions config script logs h.steps steps rows is e.legal ran ends;
      } in
      record {
        logs = logs;
        earlier = h.steps;
        steps = steps;
        legal = e.legal;
        ran = ran;
        ends = ends;
        rise = rise;
        steps_are = steps_are;
        run = stands.run;
        lived = lived;
        tells = led.3 h.tells;
        closed_after = closed_after;
        histories = e.histories;
        watches = e.watches;
        headline = tells-all p steps (row_made script logs) closed lived closed_after;
      }
