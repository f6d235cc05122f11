-- A line that watches.
use Rattle.std.proofs.Common.{◌≡◌, ℕ, ◌<◌, Bool, eqb, cond, List, [], ◌∷◌, ◌++◌, length, map, replicate, reverse, set, refl, sym, ap, ◌∙◌, subst, arith, eq-eqb, ne_eqb, Option}
use Rattle.std.specs.List.{filter}
use Rattle.std.proofs.lemmas.List.{append-nil, map-append}
use Rattle.std.proofs.lemmas.List.Elements.{All-push, filter-append}
use native.Mathlib.Decide.{ℕ_discrete}
use Rattle.ua_base.specs.Journal.{LinkState}
use Rattle.version_cell.specs.Histories.{own}
use Rattle.version_cell.specs.Known.{Known}
use Rattle.version_cell.specs.Sets.{pass_at}
use Rattle.ps_config.specs.declared.parts.Config.{Config}
use Rattle.ps_config.specs.Sound.{readers}
use Rattle.ps_report.specs.declared.closed.WatchEnd.{WatchEnd}
use Rattle.ps_script.specs.declared.script.Act.TheVariants as act
use Rattle.ps_script.specs.declared.script.Line.{Line}
use Rattle.ps_script.specs.declared.script.Script.{Script}
use Rattle.ps_script.specs.Sessions.{is_tick, is_write}
use Rattle.app_threads.specs.declared.done.Looked.{Looked}
use Rattle.app_threads.specs.Items.{versions_in}
use Rattle.pubsub_engine.specs.declared.session.Session.{Session}
use Rattle.pubsub_engine.specs.Holding.{appends_left, left_of, passes_of}
use Rattle.pubsub_engine.specs.Authored.{watch_of}
use Rattle.script_player.specs.declared.player.Player.{Player}
use Rattle.script_player.specs.Playing.{look_at, stores_at}
use Rattle.script_player.specs.Plays.{plan_by}
use Rattle.script_player.specs.Player.{HasPlayed, IsExact, IsFlush, IsPlayer, PlaysOn, Watches, looks_at, made_at, stored, versions_at}
use Rattle.script_player.specs.Sizes.{appended_sets}
use Rattle.script_player.proofs.Lines.{appended-cons}
use Rattle.script_player.proofs.Hands.{at_new, at_old, at_other}
use Rattle.script_player.proofs.Exact.{skips}

module _ (config : Config) (script : Script) (lines : List Line) (told : Option LinkState) (old : Player) (was : IsPlayer old) (h : HasPlayed config script lines told old) where
  module _ (at thread reader times : ℕ) (new : Player) (w : Watches thread reader times old new) (bound : thread < 8) (there : reader < length (readers config))
      (count_stores : stored old.session reader ≡ stores_at (plan_by config script) h.steps reader) where
    abbrev watch : Line
    watch = record { at = at; act = act.Watch thread reader times }

    abbrev watched : Player
    watched = record old { session = new.session; watches = new.watches; hands = new.hands }

    abbrev end : WatchEnd
    end = look_at (plan_by config script) h.steps thread reader times

    room : thread < length old.hands.items
    room = (let e = was.eight in omega arith)

    passes_same : passes_of new.session ≡ passes_of old.session
    passes_same = ap passes_of w.stores

    made_after : (t set : ℕ) → made_at watched t set ≡ made_at old t set
    made_after t set = go (ℕ_discrete t thread)
      where
        go : Dec (t ≡ thread) → made_at watched t set ≡ made_at old t set
        go (yes same) = subst (λ (k : ℕ). made_at watched k set ≡ made_at old k set) (sym same)
            (ap (λ (l : List Known). length (own thread (pass_at l set).seen))
            (at_new thread old.hands.items new.hands.items w.hand w.after w.hands room (λ hand. hand.passes) [] ∙ w.passes
            ∙ sym (at_old thread old.hands.items new.hands.items w.hand w.after w.hands room (λ hand. hand.passes) [])))
        go (no ne) = ap (λ (l : List Known). length (own t (pass_at l set).seen)) (at_other thread old.hands.items new.hands.items w.hand w.after w.hands room (λ hand. hand.passes) [] t ne)

    versions_same : (t : ℕ) → versions_at watched t ≡ versions_at old t
    versions_same t = go (ℕ_discrete t thread)
      where
        go : Dec (t ≡ thread) → versions_at watched t ≡ versions_at old t
        go (yes same) = subst (λ (k : ℕ). versions_at watched k ≡ versions_at old k) (sym same)
            (at_new thread old.hands.items new.hands.items w.hand w.after w.hands room (λ hand. hand.versions.items) []
            ∙ ap (λ versions. versions.items) w.versions
            ∙ sym (at_old thread old.hands.items new.hands.items w.hand w.after w.hands room (λ hand. hand.versions.items) []))
        go (no ne) = at_other thread old.hands.items new.hands.items w.hand w.after w.hands room (λ hand. hand.versions.items) [] t ne

    looked_after : (t : ℕ) → t < 8 → map (watch_of t) (looks_at watched t) ≡ filter (λ look. eqb look.thread t) (h.looks ++ end ∷ [])
    looked_after t lt = go (ℕ_discrete t thread)
      where
        go : Dec (t ≡ thread) → map (watch_of t) (looks_at watched t) ≡ filter (λ look. eqb look.thread t) (h.looks ++ end ∷ [])
        go (yes same) = subst (λ (k : ℕ). map (watch_of k) (looks_at watched k) ≡ filter (λ look. eqb look.thread k) (h.looks ++ end ∷ [])) (sym same)
            (ap (map (watch_of thread))
            (at_new thread old.hands.items new.hands.items w.hand w.after w.hands room (λ hand. hand.looks.items) [] ∙ w.looks
            ∙ ap (λ (l : List Looked). l ++ record { reader = reader; counts = replicate times (stored old.session reader) } ∷ [])
            (sym (at_old thread old.hands.items new.hands.items w.hand w.after w.hands room (λ hand. hand.looks.items) [])))
            ∙ map-append (watch_of thread) (looks_at old thread) (record { reader = reader; counts = replicate times (stored old.session reader) } ∷ [])
            ∙ ap (λ (l : List WatchEnd). l ++ record { thread = thread; reader = reader; counts = replicate times (stored old.session reader) } ∷ []) (h.looked thread bound)
            ∙ ap (λ (n : ℕ). filter (λ look. eqb look.thread thread) h.looks ++ record { thread = thread; reader = reader; counts = replicate times n } ∷ []) count_stores
            ∙ sym (filter-append (λ look. eqb look.thread thread) h.looks (end ∷ [])
            ∙ ap (λ (b : Bool). filter (λ look. eqb look.thread thread) h.looks ++ cond b (end ∷ []) []) (eq-eqb thread thread refl)))
        go (no ne) =
            ap (map (watch_of t)) (at_other thread old.hands.items new.hands.items w.hand w.after w.hands room (λ hand. hand.looks.items) [] t ne) ∙ h.looked t lt
            ∙ sym (filter-append (λ look. eqb look.thread t) h.looks (end ∷ [])
            ∙ ap (λ (b : Bool). filter (λ look. eqb look.thread t) h.looks ++ cond b (end ∷ []) []) (ne_eqb thread t (λ e. ne (sym e)))
            ∙ append-nil (filter (λ look. eqb look.thread t) h.looks))

    exact_watched : IsFlush script.metas lines (passes_of new.session) → IsExact (plan_by config script) (watch ∷ lines) h.steps (h.looks ++ end ∷ []) watched
    exact_watched flush =
        let e = h.exact (λ set lt. (let a = flush set lt in let b = ap (λ (l : List Known). length (pass_at l set).seen) passes_same in omega arith)) in
        record {
          played = (h.steps, h.looks, e.played, (refl, refl));
          seen = λ set lt. ap (λ (l : List Known). (pass_at l set).seen) passes_same ∙ e.seen set lt;
          versions = λ t set lt here. ap (versions_in set) (versions_same t) ∙ e.versions t set lt here;
        }

    abbrev watched_by : HasPlayed config script (watch ∷ lines) told watched
    watched_by = record {
      steps = h.steps;
      looks = h.looks ++ end ∷ [];
      stands = w.stands (plan_by config script) h.steps h.stands;
      tells = h.tells;
      switches = h.switches;
      ticks = (let a = h.ticks in let b = ap (λ (s : Session). (left_of s).ticks) w.stores in omega (arith, a, b, skips (λ (l : Line). is_tick l.act) watch lines refl));
      pumps = ap (λ (s : Session). (left_of s).pumps) w.stores ∙ h.pumps;
      running = ap (λ (s : Session). (left_of s).is_closed) w.stores ∙ h.running;
      appends = ap (λ (l : List ℕ). l ++ appends_left new.session) (appended-cons watch lines ∙ append-nil (appended_sets (reverse lines)))
          ∙ ap (λ (s : Session). appended_sets (reverse lines) ++ appends_left s) w.stores ∙ h.appends;
      quotas = h.quotas;
      made = λ t set lt here. made_after t set ∙ h.made t set lt here ∙ sym (skips (λ (l : Line). is_write t set l.act) watch lines refl);
      looked = looked_after;
      looks_there = All-push (λ look. look.reader < length (readers config)) h.looks end h.looks_there there;
      exact = exact_watched;
    }

    pub looked_at : PlaysOn config script lines told old h watch told new
    looked_at = subst (λ (player : Player). PlaysOn config script lines told old h watch told player) (sym w.rest) (watched_by, refl)
