-- One more line of a played script.
use Rattle.std.proofs.Common.{◌≡◌, ℕ, ◌+◌, ◌<◌, ◌≤◌, Bool, true, false, cond, List, ◌∷◌, ◌++◌, length, reverse, set, refl, sym, ap, ◌∙◌, subst, arith, length-append, Option}
use Rattle.std.specs.Prelude.{count_by}
use Rattle.std.proofs.lemmas.List.{append-nil, length-map, nil_from_length}
use Rattle.std.proofs.lemmas.List.FromFn.{fill_by_all}
use lib.ListN.{get_or-map as get_or-mapped}
use Rattle.dataset_meta.specs.Metas.{MetaData}
use Rattle.ua_base.specs.Journal.{Entry as LinkEntry, LinkState}
use Rattle.pubsub_model.specs.History.{places}
use Rattle.version_cell.specs.declared.rule.Entry.{Entry}
use Rattle.version_cell.specs.Histories.{StartsWith, row_after}
use Rattle.version_cell.specs.Known.{Known, nothing}
use Rattle.version_cell.specs.Sets.{pass_at}
use Rattle.ps_config.specs.declared.parts.Config.{Config}
use Rattle.ps_script.specs.declared.script.Act.{Act}
use Rattle.ps_script.specs.declared.script.Act.TheVariants as act
use Rattle.ps_script.specs.declared.script.Line.{Line}
use Rattle.ps_script.specs.declared.script.Script.{Script}
use Rattle.ps_script.specs.Sessions.{is_tick, is_write}
use Rattle.pubsub_states.specs.Changes.{Change}
use Rattle.writer_group.specs.declared.sampled.Sampled.{Sampled}
use Rattle.session_model.specs.Steps.{Step, Tick, Pump, switches_in}
use Rattle.session_model.specs.Sends.{TellsRun}
use Rattle.session_model.specs.Sets.{meta_in}
use Rattle.app_threads.specs.Marks.{authors}
use Rattle.pubsub_engine.specs.declared.session.Left.{Left}
use Rattle.pubsub_engine.specs.declared.session.Session.{Session}
use Rattle.pubsub_engine.specs.Holding.{appends_left, left_of, passes_of}
use Rattle.pubsub_engine.specs.Standing.{Stands, sample_of, samples_of}
use Rattle.script_player.specs.declared.player.Player.{Player}
use Rattle.script_player.specs.Playing.{IsLineBy, log_after, sample_after, samples_after, with_write}
use Rattle.script_player.specs.Plays.{plan_by}
use Rattle.script_player.specs.Player.{HasPlayed, IsExact, IsFlush, IsPlayer, Passes, PlaysOn, with_switch}
use Rattle.script_player.specs.Sizes.{appended_by, appended_sets}
use Rattle.script_player.proofs.Lines.{appended-cons, count_by-cons}
use Rattle.script_player.proofs.Hands.{count_cells}

-- ---- counts of lines

pub skips : (test : Line → Bool) (line : Line) (lines : List Line) → test line ≡ false → count_by test (line ∷ lines) ≡ count_by test lines
skips test line lines fails = let b = ap {B = ℕ} (λ (b : Bool). cond b 1 0) fails in omega (arith, count_by-cons test line lines, b)

pub hits : (test : Line → Bool) (line : Line) (lines : List Line) → test line ≡ true → count_by test (line ∷ lines) ≡ count_by test lines + 1
hits test line lines passes = let b = ap {B = ℕ} (λ (b : Bool). cond b 1 0) passes in omega (arith, count_by-cons test line lines, b)

-- ---- beginnings

pub shorter : (log seen : List Entry) → StartsWith log seen → length seen ≤ length log
shorter log seen p = omega (arith, ap length p.1, length-append seen p.0)

-- a list that begins with another and is no longer is the other
pub whole : (log seen : List Entry) → StartsWith log seen → length log ≤ length seen → log ≡ seen
whole log seen p h =
    let n : length p.0 ≡ 0 = omega (arith, ap length p.1, length-append seen p.0) in
    p.1 ∙ ap (λ l. seen ++ l) (nil_from_length p.0 n) ∙ append-nil seen

-- ---- samples

-- passes that have seen what lines write give the samples of the lines
pub samples_exact : (full : List MetaData) (lines : List Line) (passes : List Known) → length passes ≡ length full
    → ((set : ℕ) → set < length full → (pass_at passes set).seen ≡ log_after (meta_in full set) set lines) → samples_of passes ≡ samples_after full lines
samples_exact full lines passes count seen =
    let sample_by : List Entry → Sampled = λ log. record { row = record { words = row_after log }; version = length log } in
    fill_by_all (λ (set : ℕ). sample_after (meta_in full set) set lines) (samples_of passes) (length full) (sample_of nothing) (length-map passes sample_of ∙ count)
    (λ set lt. get_or-mapped sample_of passes set nothing ∙ ap sample_by (seen set lt))

module _ (config : Config) (script : Script) (lines : List Line) (told : Option LinkState) (old : Player) (was : IsPlayer old) (h : HasPlayed config script lines told old) where
  count : length (passes_of old.session) ≡ length script.metas
  count = was.bank.passes.count ∙ count_cells config script h.steps old was h.stands

  -- ---- a line that leaves what the session has seen

  module _ (at : ℕ) (what : Act) (s : Session) where
    abbrev line : Line
    line = record { at = at; act = what }

    pub kept : (steps : List Step) → Stands (plan_by config script) steps s → TellsRun (plan_by config script) steps told
        → switches_in steps ≡ with_switch (switches_in h.steps) what → passes_of s ≡ passes_of old.session → left_of s ≡ left_of old.session
        → is_tick what ≡ false → ((t set : ℕ) → is_write t set what ≡ false)
        → (appended_sets (reverse lines) ++ appended_by what) ++ appends_left s ≡ appended_sets script.lines
        → ((meta : MetaData) (set : ℕ) → with_write meta set (log_after meta set lines) what ≡ log_after meta set lines)
        → IsLineBy (plan_by config script) lines what h.steps steps h.looks h.looks
        → (next : HasPlayed config script (line ∷ lines) told (record old { session = s })) × (next.steps ≡ steps)
    kept steps stands tells switches passes left no_tick no_write appends logs by = (
      record {
        steps = steps;
        looks = h.looks;
        stands = stands;
        tells = tells;
        switches = switches ∙ ap (λ (l : List Change). with_switch l what) h.switches;
        ticks = (let a = h.ticks in let b = ap (λ (l : Left). l.ticks) left in omega (arith, a, b, skips (λ (l : Line). is_tick l.act) line lines no_tick));
        pumps = ap (λ (l : Left). l.pumps) left ∙ h.pumps;
        running = ap (λ (l : Left). l.is_closed) left ∙ h.running;
        appends = ap (λ (l : List ℕ). l ++ appends_left s) (appended-cons line lines) ∙ appends;
        quotas = h.quotas;
        made = λ t set lt there. h.made t set lt there ∙ sym (skips (λ (l : Line). is_write t set l.act) line lines (no_write t set));
        looked = h.looked;
        looks_there = h.looks_there;
        exact = λ flush. exact (λ set lt. (let a = flush set lt in let b = ap (λ (l : List Known). length (pass_at l set).seen) passes in let c = ap length (logs (meta_in script.metas set) set) in omega (arith, a, b, c)));
      },
      refl,
    )
      where
        exact : IsFlush script.metas lines (passes_of old.session) → IsExact (plan_by config script) (line ∷ lines) steps h.looks (record old { session = s })
        exact flush =
            let e = h.exact flush in
            record {
              played = (h.steps, h.looks, e.played, by);
              seen = λ set lt. ap (λ (l : List Known). (pass_at l set).seen) passes ∙ e.seen set lt ∙ sym (logs (meta_in script.metas set) set);
              versions = λ t set lt there. e.versions t set lt there ∙ ap (λ (l : List Entry). places t 0 (authors l)) (sym (logs (meta_in script.metas set) set));
            }

  -- ---- a tick

  module _ (at ms : ℕ) (after : Option LinkState) (new : Player) (is : IsPlayer new) (t : Passes ms false old new told after) where
    abbrev tick : Line
    tick = record { at = at; act = act.Tick ms }

    now : List Known
    now = passes_of new.session

    led : (done : List Bool) × (entries : List LinkEntry)
        × Stands (plan_by config script) (Pump entries ∷ Tick ms false (samples_of (passes_of new.session)) done ∷ h.steps) new.session
        × (TellsRun (plan_by config script) h.steps told
        → TellsRun (plan_by config script) (Pump entries ∷ Tick ms false (samples_of (passes_of new.session)) done ∷ h.steps) after)
    led = t.by.leads (plan_by config script) h.steps h.stands

    abbrev steps_after : List Step
    steps_after = Pump led.1 ∷ Tick ms false (samples_of (passes_of new.session)) led.0 ∷ h.steps

    more : (set : ℕ) → set < length script.metas → StartsWith (pass_at (passes_of new.session) set).seen (pass_at (passes_of old.session) set).seen
    more set lt = (t.by.more set (let e = count in omega arith)).seen

    exact_after : IsFlush script.metas lines (passes_of new.session) → IsExact (plan_by config script) (tick ∷ lines) steps_after h.looks (record old { session = new.session })
    exact_after flush =
        let e = h.exact (λ set lt. (let a = flush set lt in let b = shorter (pass_at (passes_of new.session) set).seen (pass_at (passes_of old.session) set).seen (more set lt) in omega arith)) in
        let seen : (set : ℕ) → set < length script.metas → (pass_at (passes_of new.session) set).seen ≡ log_after (meta_in script.metas set) set lines = λ set lt.
        (whole (pass_at (passes_of new.session) set).seen (pass_at (passes_of old.session) set).seen (more set lt) (let a = flush set lt in let b = ap length (e.seen set lt) in omega arith) ∙ e.seen set lt) in
        let counted : length (passes_of new.session) ≡ length script.metas = is.bank.passes.count ∙ count_cells config script steps_after new is led.2 in
        let samples = samples_exact script.metas lines (passes_of new.session) counted seen in
        record {
          played = (h.steps, h.looks, e.played, ((led.0, led.1, ap (λ (l : List Sampled). Pump led.1 ∷ Tick ms false l led.0 ∷ h.steps) samples), refl));
          seen = seen;
          versions = e.versions;
        }

    abbrev passed : HasPlayed config script (tick ∷ lines) after (record old { session = new.session })
    passed = record {
      steps = steps_after;
      looks = h.looks;
      stands = led.2;
      tells = led.3 h.tells;
      switches = h.switches;
      ticks = (let a = h.ticks in let b = t.by.ticks in omega (arith, a, b, hits (λ (l : Line). is_tick l.act) tick lines refl));
      pumps = t.by.pumps ∙ h.pumps;
      running = t.by.closed;
      appends = ap (λ (l : List ℕ). l ++ appends_left new.session) (appended-cons tick lines ∙ append-nil (appended_sets (reverse lines))) ∙ ap (λ (l : List ℕ). appended_sets (reverse lines) ++ l) t.by.appends ∙ h.appends;
      quotas = h.quotas;
      made = λ u set lt there. h.made u set lt there ∙ sym (skips (λ (l : Line). is_write u set l.act) tick lines refl);
      looked = h.looked;
      looks_there = h.looks_there;
      exact = exact_after;
    }

    pub ticked : PlaysOn config script lines told old h tick after new
    ticked = subst (λ (player : Player). PlaysOn config script lines told old h tick after player) (sym t.rest) (passed, (samples_of (passes_of new.session), led.0, led.1, refl))
