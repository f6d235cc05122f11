-- The next line of a script: it may come, and then it has been run.
use Rattle.std.proofs.Common.{◌≡◌, ℕ, ◌+◌, ◌<◌, ◌≤◌, Bool, true, false, cond, List, [], ◌∷◌, ◌++◌, length, reverse, take, get_or, refl, sym, ap, ◌∙◌, subst, arith, append_assoc, Option}
use Rattle.std.proofs.lemmas.Bool.{false≢true}
use Rattle.std.proofs.lemmas.List.{append-nil, take_all}
use Rattle.std.proofs.lemmas.List.Sums.{sum_by-take-le}
use Rattle.ua_base.specs.Journal.{Entry as LinkEntry, LinkState}
use Rattle.version_cell.specs.Known.{Known}
use Rattle.ps_config.specs.declared.parts.Config.{Config}
use Rattle.ps_script.specs.declared.script.Act.{Act}
use Rattle.ps_script.specs.declared.script.Act.TheVariants as act
use Rattle.ps_script.specs.declared.script.Line.{Line}
use Rattle.ps_script.specs.declared.script.Script.{Script}
use Rattle.ps_script.specs.Sessions.{is_tick, ticks_in}
use Rattle.ps_script.specs.Sound.{IsScript}
use Rattle.pubsub_states.specs.Changes.{Change}
use Rattle.pubsub_states.specs.Components.{IsId, counts_of}
use Rattle.session_model.specs.Steps.{Plan, Step, Enable, Disable, Append, Tick, Pump, switches_in}
use Rattle.session_model.specs.Sends.{TellsRun}
use Rattle.session_laws.specs.Sessions.{SamplesRise}
use Rattle.pubsub_engine.specs.declared.session.Left.{Left}
use Rattle.pubsub_engine.specs.declared.session.Session.{Session}
use Rattle.pubsub_engine.specs.Holding.{IsSession, appends_left, left_of, passes_of, plan_of}
use Rattle.pubsub_engine.specs.Standing.{Stands, samples_of}
use Rattle.script_player.specs.Passing.{PassesOn}
use Rattle.script_player.specs.Plays.{plan_by}
use Rattle.script_player.specs.Player.{with_switch}
use Rattle.script_player.specs.Sizes.{appended_by, appended_sets}
use Rattle.script_player.proofs.Exact.{hits, skips}
use Rattle.script_player.proofs.Lines.{appended-cons, count_by-append, count_by-cons, count_by-reverse}
use Rattle.script_player.proofs.Next.{IsNextLine, left_next, next_line, no_line, there_is, turned_more, was_on}
use Rattle.script_player.proofs.Staying.{left-lasts, script-stays}
use Rattle.script_runner.specs.Conducting.{AreEarlier, HasConducted, MayRun, RunsTo, Switches, seen_by}
use Rattle.script_runner.specs.Running.{IsLineRun, IsRunBy}
use Rattle.script_runner.proofs.Growing.{run-more}
use Rattle.script_runner.proofs.Sampling.{counts_in, earlier-more, grown, rise-more, seen_in, ticked-whole, within-whole}

-- a session of a plan has a pass for each data set
pub count-passes : (p : Plan) (steps : List Step) (session : Session) → IsSession session → Stands p steps session → length (passes_of session) ≡ length p.full
count-passes p steps session is stands = is.samples.passes ∙ ap (λ (q : Plan). length q.full) stands.plan

module _ (config : Config) (script : Script) (lines : List Line) (told : Option LinkState) (session : Session) (h : HasConducted config script lines told session) where
  abbrev p : Plan
  p = plan_by config script

  config-is : (plan_of session).config ≡ config
  config-is = ap (λ (q : Plan). q.config) h.stands.plan

  -- ---- the next line may come

  pub may_run : (at : ℕ) (what : Act) → IsNextLine config script lines (record { at = at; act = what }) → MayRun what session
  may_run at (act.Write thread set patch) next = tt
  may_run at (act.Tick ms) next =
      let test : Line → Bool = λ l. is_tick l.act in
      let line : Line = record { at = at; act = act.Tick ms } in
      let all : ticks_in script.lines ≡ ticks_in (reverse lines ++ line ∷ next.rest) = ap ticks_in next.split in
      record {
        running = h.running;
        left = omega (arith, h.ticks, all, count_by-append test (reverse lines) (line ∷ next.rest), count_by-reverse test lines, count_by-cons test line next.rest);
        short = next.acts.1;
        still = λ e. absurd (false≢true e);
      }
  may_run at (act.Enable id) next = record {
    running = h.running;
    there = subst (λ (c : Config). IsId (counts_of c) id) (sym config-is) (there_is config id next.acts.there);
  }
  may_run at (act.Disable id) next = record {
    running = h.running;
    there = subst (λ (c : Config). IsId (counts_of c) id) (sym config-is) (there_is config id next.acts.there);
  }
  may_run at (act.Fated k fate) next = tt
  may_run at (act.Watch thread reader times) next = tt
  may_run at (act.Append set) next = record {
    running = h.running;
    left = (let e = ap length (left_next config script lines (appends_left session) h.appends at set next) in omega arith);
  }

  -- ---- a line that leaves what the session has seen

  kept : (line : Line) (new : Session) (steps : List Step) → Stands p steps new → TellsRun p steps told → switches_in steps ≡ with_switch (switches_in h.steps) line.act
      → passes_of new ≡ passes_of session → left_of new ≡ left_of session → is_tick line.act ≡ false
      → (appended_sets (reverse lines) ++ appended_by line.act) ++ appends_left new ≡ appended_sets script.lines
      → IsLineRun p (seen_by session) line.act h.steps steps → SamplesRise p steps → AreEarlier p steps (seen_by session)
      → HasConducted config script (line ∷ lines) told new
  kept line new steps stands tells switches passes left no_tick appends by rise earlier = record {
    steps = steps;
    stands = stands;
    tells = tells;
    switches = switches ∙ ap (λ (l : List Change). with_switch l line.act) h.switches;
    ticks = (let a = h.ticks in let b = ap (λ (l : Left). l.ticks) left in omega (arith, a, b, skips (λ (l : Line). is_tick l.act) line lines no_tick));
    pumps = ap (λ (l : Left). l.pumps) left ∙ h.pumps;
    running = ap (λ (l : Left). l.is_closed) left ∙ h.running;
    of_script = script-stays session new (left-lasts session new left) h.of_script;
    appends = ap (λ (l : List ℕ). l ++ appends_left new) (appended-cons line lines) ∙ appends;
    ran = subst (λ (l : List Known). IsRunBy p (seen_in l) (line ∷ lines) steps) (sym passes) (h.steps, h.ran, by);
    rise = rise;
    earlier = subst (λ (l : List Known). AreEarlier p steps (seen_in l)) (sym passes) earlier;
  }

  -- a line that does nothing here
  same : (line : Line) (new : Session) → new ≡ session → switches_in h.steps ≡ with_switch (switches_in h.steps) line.act → is_tick line.act ≡ false → appended_by line.act ≡ []
      → IsLineRun p (seen_by session) line.act h.steps h.steps → HasConducted config script (line ∷ lines) told new
  same line new unchanged switches no_tick none by =
      subst (λ (s : Session). HasConducted config script (line ∷ lines) told s) (sym unchanged)
      (kept line session h.steps h.stands h.tells switches refl refl no_tick
      (ap (λ (l : List ℕ). (appended_sets (reverse lines) ++ l) ++ appends_left session) none
      ∙ ap (λ (l : List ℕ). l ++ appends_left session) (append-nil (appended_sets (reverse lines))) ∙ h.appends)
      by h.rise h.earlier)

  switched : (line : Line) (id : ℕ) (was : Bool) (step : Step) (new : Session) → Switches step id was session new → Stands p (step ∷ h.steps) new → TellsRun p (step ∷ h.steps) told
      → switches_in (step ∷ h.steps) ≡ with_switch (switches_in h.steps) line.act → is_tick line.act ≡ false → appended_by line.act ≡ []
      → IsLineRun p (seen_by session) line.act h.steps (step ∷ h.steps) → SamplesRise p (step ∷ h.steps) → AreEarlier p (step ∷ h.steps) (seen_by session)
      → HasConducted config script (line ∷ lines) told new
  switched line id was step new w stands tells switches no_tick none by rise earlier =
      kept line new (step ∷ h.steps) stands tells switches w.keeps.passes w.left no_tick
      (ap (λ (l : List ℕ). (appended_sets (reverse lines) ++ l) ++ appends_left new) none
      ∙ ap (λ (l : List ℕ). l ++ appends_left new) (append-nil (appended_sets (reverse lines)))
      ∙ ap (λ (l : List ℕ). appended_sets (reverse lines) ++ l) w.appends ∙ h.appends)
      by rise earlier

  -- ---- a tick

  module _ (at ms : ℕ) (after : Option LinkState) (new : Session) (is : IsSession session) (then : IsSession new) (t : PassesOn ms false session new told after) where
    abbrev tick : Line
    tick = record { at = at; act = act.Tick ms }

    led : (done : List Bool) × (entries : List LinkEntry)
        × Stands p (Pump entries ∷ Tick ms false (samples_of (passes_of new)) done ∷ h.steps) new
        × (TellsRun p h.steps told → TellsRun p (Pump entries ∷ Tick ms false (samples_of (passes_of new)) done ∷ h.steps) after)
    led = t.leads p h.steps h.stands

    abbrev steps_after : List Step
    steps_after = Pump led.1 ∷ Tick ms false (samples_of (passes_of new)) led.0 ∷ h.steps

    ran : IsRunBy p (seen_in (passes_of new)) (tick ∷ lines) steps_after
    ran = (
      h.steps,
      run-more p (seen_in (passes_of session)) (seen_in (passes_of new)) lines h.steps
          (grown (length p.full) (passes_of session) (passes_of new) (count-passes p h.steps session is h.stands) t.more) h.ran,
      (counts_in (passes_of new), within-whole p (passes_of new), ticked-whole p (passes_of new) ms false led.0 led.1 h.steps (count-passes p steps_after new then led.2)),
    )

    ticked : HasConducted config script (tick ∷ lines) after new
    ticked = record {
      steps = steps_after;
      stands = led.2;
      tells = led.3 h.tells;
      switches = h.switches;
      ticks = (let a = h.ticks in let b = t.ticks in omega (arith, a, b, hits (λ (l : Line). is_tick l.act) tick lines refl));
      pumps = t.pumps ∙ h.pumps;
      running = t.closed;
      of_script = script-stays session new t.lasts h.of_script;
      appends = ap (λ (l : List ℕ). l ++ appends_left new) (appended-cons tick lines ∙ append-nil (appended_sets (reverse lines)))
          ∙ ap (λ (l : List ℕ). appended_sets (reverse lines) ++ l) t.appends ∙ h.appends;
      ran = ran;
      rise = rise-more p h.steps (passes_of session) (passes_of new) t.more h.earlier ms false led.0 led.1 h.rise;
      earlier = earlier-more p h.steps (passes_of session) (passes_of new) t.more h.earlier ms false led.0 led.1;
    }

  -- ---- and then it was run

  pub run_next : (at : ℕ) (what : Act) (after : Option LinkState) (new : Session) → IsSession session → IsSession new → IsNextLine config script lines (record { at = at; act = what })
      → RunsTo what session new told after → HasConducted config script (record { at = at; act = what } ∷ lines) after new
  run_next at (act.Write thread set patch) after new is then next (unchanged, untold) =
      let line : Line = record { at = at; act = act.Write thread set patch } in
      subst (λ (t : Option LinkState). HasConducted config script (line ∷ lines) t new) (sym untold) (same line new unchanged refl refl refl refl)
  run_next at (act.Tick ms) after new is then next t = ticked at ms after new is then t
  run_next at (act.Enable id) after new is then next (w, untold) =
      let line : Line = record { at = at; act = act.Enable id } in
      subst (λ (t : Option LinkState). HasConducted config script (line ∷ lines) t new) (sym untold)
      (switched line id false (Enable id) new w (w.stands p h.steps h.stands (was_on config lines h.steps h.switches id false next.acts.there next.acts.was)) h.tells refl refl refl refl
      h.rise h.earlier)
  run_next at (act.Disable id) after new is then next (w, untold) =
      let line : Line = record { at = at; act = act.Disable id } in
      subst (λ (t : Option LinkState). HasConducted config script (line ∷ lines) t new) (sym untold)
      (switched line id true (Disable id) new w (w.stands p h.steps h.stands (was_on config lines h.steps h.switches id true next.acts.there next.acts.was)) h.tells refl refl refl refl
      h.rise h.earlier)
  run_next at (act.Fated k fate) after new is then next (unchanged, untold) =
      let line : Line = record { at = at; act = act.Fated k fate } in
      subst (λ (t : Option LinkState). HasConducted config script (line ∷ lines) t new) (sym untold) (same line new unchanged refl refl refl refl)
  run_next at (act.Watch thread reader times) after new is then next (unchanged, untold) =
      let line : Line = record { at = at; act = act.Watch thread reader times } in
      subst (λ (t : Option LinkState). HasConducted config script (line ∷ lines) t new) (sym untold) (same line new unchanged refl refl refl refl)
  run_next at (act.Append set) after new is then next (w, untold) =
      let line : Line = record { at = at; act = act.Append set } in
      let left = left_next config script lines (appends_left session) h.appends at set next in
      let set_is : w.set ≡ set = (let e = w.next in cc) in
      let stands = w.stands p h.steps h.stands in
      let stands_set = subst (λ (s : ℕ). Stands p (Append s stands.0 ∷ h.steps) new) set_is stands.1 in
      subst (λ (t : Option LinkState). HasConducted config script (line ∷ lines) t new) (sym untold)
      (kept line new (Append set stands.0 ∷ h.steps) stands_set h.tells refl w.keeps.passes w.left refl
      (append_assoc (appended_sets (reverse lines)) (set ∷ []) (appends_left new)
      ∙ ap (λ (l : List ℕ). appended_sets (reverse lines) ++ l) (ap (λ (s : ℕ). s ∷ appends_left new) (sym set_is) ∙ sym w.next) ∙ h.appends)
      (stands.0, refl) h.rise h.earlier)

-- ---- the lines in order

module _ (config : Config) (script : Script) (items : List Line) (k : ℕ) (told : Option LinkState) (session : Session) (scripts : IsScript config script) (alike : items ≡ script.lines)
    (h : HasConducted config script (reverse (take k script.lines)) told session) (lt : k < length items) where
  abbrev line : Line
  line = get_or items k no_line

  within : k < length script.lines
  within = let e = ap length alike in omega (arith, lt, e)

  next : IsNextLine config script (reverse (take k script.lines)) line
  next = subst (λ (l : List Line). IsNextLine config script (reverse (take k script.lines)) (get_or l k no_line)) (sym alike) (next_line config script k no_line scripts within)

  turned : reverse (take (k + 1) script.lines) ≡ line ∷ reverse (take k script.lines)
  turned = turned_more script.lines k no_line within ∙ ap (λ (l : List Line). get_or l k no_line ∷ reverse (take k script.lines)) (sym alike)

  pub next-may : MayRun line.act session
  next-may = may_run config script (reverse (take k script.lines)) told session h line.at line.act next

  pub next-run : (after : Option LinkState) (new : Session) → IsSession session → IsSession new → RunsTo line.act session new told after
      → HasConducted config script (reverse (take (k + 1) script.lines)) after new
  next-run after new is then runs =
      subst (λ (l : List Line). HasConducted config script l after new) (sym turned)
      (run_next config script (reverse (take k script.lines)) told session h line.at line.act after new is then next runs)

pub all-run : (config : Config) (script : Script) (k : ℕ) (told : Option LinkState) (session : Session) → length script.lines ≤ k
    → HasConducted config script (reverse (take k script.lines)) told session → HasConducted config script (reverse script.lines) told session
all-run config script k told session end h = subst (λ (l : List Line). HasConducted config script (reverse l) told session) (take_all k script.lines end) h

-- ---- the ticks so far

-- there are fewer than fit in 32 bits
pub ticks-few : (config : Config) (script : Script) (k ticks : ℕ) → IsScript config script → ticks ≡ ticks_in (take k script.lines) → ticks ≤ 4096
ticks-few config script k ticks is so =
    let few = is.few.ticks in
    let some = sum_by-take-le (λ (l : Line). cond (is_tick l.act) 1 0) script.lines k in
    omega (arith, so, few, some)
