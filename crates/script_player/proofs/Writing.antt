-- A line that writes.
use Rattle.std.proofs.Common.{◌≡◌, ◌≢◌, ℕ, ◌+◌, ◌<◌, ◌≤◌, Bool, true, false, eqb, ◌&&◌, List, [], ◌∷◌, ◌++◌, length, map, reverse, refl, sym, ap, ◌∙◌, subst, arith, eq-eqb, ne_eqb, Option, Some}
use Rattle.std.proofs.lemmas.List.{append-nil, length_push}
use Rattle.std.proofs.lemmas.Option.{same_Some}
use native.Mathlib.Decide.{ℕ_discrete}
use Rattle.dataset_meta.specs.Metas.{MetaData}
use Rattle.row_words.specs.declared.patch.Patch.{Patch}
use Rattle.row_words.specs.Patches.{patched_words}
use Rattle.ua_base.specs.Journal.{LinkState}
use Rattle.pubsub_model.specs.History.{places}
use Rattle.version_cell.specs.declared.rule.Entry.{Entry}
use Rattle.version_cell.specs.Histories.{entry, own, row_after}
use Rattle.version_cell.specs.Known.{Known}
use Rattle.version_cell.specs.Sets.{cell_at, pass_at}
use Rattle.ps_config.specs.declared.parts.Config.{Config}
use Rattle.ps_script.specs.declared.script.Act.TheVariants as act
use Rattle.ps_script.specs.declared.script.Line.{Line}
use Rattle.ps_script.specs.declared.script.Script.{Script}
use Rattle.ps_script.specs.Sessions.{is_tick, is_write, writes_in}
use Rattle.session_model.specs.Sets.{meta_in}
use Rattle.app_threads.specs.declared.done.Looked.{Looked}
use Rattle.app_threads.specs.Items.{versions_in}
use Rattle.app_threads.specs.Marks.{authors}
use Rattle.pubsub_engine.specs.declared.session.Session.{Session}
use Rattle.pubsub_engine.specs.Holding.{appends_left, left_of, passes_of}
use Rattle.pubsub_engine.specs.Authored.{watch_of}
use Rattle.script_player.specs.declared.hand.Hand.{Hand}
use Rattle.script_player.specs.declared.player.Player.{Player}
use Rattle.script_player.specs.Playing.{log_after}
use Rattle.script_player.specs.Plays.{plan_by}
use Rattle.script_player.specs.Player.{HasPlayed, IsExact, IsFlush, IsPlayer, PlaysOn, Writes, looks_at, made_at, versions_at}
use Rattle.script_player.specs.Sizes.{appended_sets}
use Rattle.script_player.proofs.Lines.{appended-cons, authors-push, length-authors, log_after-write, log_after-write_other, places_push, places_push_other, versions_in-push, versions_in-push_other, write_line}
use Rattle.script_player.proofs.Hands.{at_new, at_old, at_other, cell_meta, count_cells}
use Rattle.script_player.proofs.Exact.{hits, shorter, skips, whole}

module _ (config : Config) (script : Script) (lines : List Line) (told : Option LinkState) (old : Player) (was : IsPlayer old) (h : HasPlayed config script lines told old) where
  counted : length (passes_of old.session) ≡ length script.metas
  counted = was.bank.passes.count ∙ count_cells config script h.steps old was h.stands

  module _ (at thread set : ℕ) (patch : Patch) (new : Player) (w : Writes thread set patch old new) (bound : thread < 8) (there : set < length old.bank) where
    abbrev write : Line
    write = write_line at thread set patch

    abbrev wrote : Player
    wrote = record old { session = new.session; hands = new.hands }

    room : thread < length old.hands.items
    room = (let e = was.eight in omega arith)

    by_thread : w.wrote.by ≡ thread
    by_thread =
        let author = subst (λ (hand : Hand). (pass_at hand.passes set).author ≡ Some thread) (w.hands.was w.hand) ((was.hands thread bound w.hand).author set there) in
        same_Some w.wrote.by thread (sym w.wrote.is_by ∙ author)

    made_here : made_at wrote thread set ≡ made_at old thread set + 1
    made_here =
        let new_is = at_new thread old.hands.items new.hands.items w.hand w.after w.hands room (λ hand. hand.passes) [] in
        let old_is = at_old thread old.hands.items new.hands.items w.hand w.after w.hands room (λ hand. hand.passes) [] in
        let count : length (own thread (pass_at w.after.passes set).seen) ≡ length (own thread (pass_at w.hand.passes set).seen) + 1 =
        subst (λ (u : ℕ). length (own u (pass_at w.after.passes set).seen) ≡ length (own u (pass_at w.hand.passes set).seen) + 1) by_thread w.wrote.made in
        ap (λ (l : List Known). length (own thread (pass_at l set).seen)) new_is ∙ count ∙ ap (λ (l : List Known). length (own thread (pass_at l set).seen) + 1) (sym old_is)

    made_beside : (other : ℕ) → other ≢ set → other < length old.bank → made_at wrote thread other ≡ made_at old thread other
    made_beside other ne lt =
        let new_is = at_new thread old.hands.items new.hands.items w.hand w.after w.hands room (λ hand. hand.passes) [] in
        let old_is = at_old thread old.hands.items new.hands.items w.hand w.after w.hands room (λ hand. hand.passes) [] in
        let author = subst (λ (hand : Hand). (pass_at hand.passes other).author ≡ Some thread) (w.hands.was w.hand) ((was.hands thread bound w.hand).author other lt) in
        let same = w.wrote.made_others other ne (let c = was.bank.passes.count in omega arith) (author ∙ ap (λ (u : ℕ). Some u) (sym by_thread)) in
        let own_same : own thread (pass_at w.after.passes other).seen ≡ own thread (pass_at w.hand.passes other).seen =
        subst (λ (u : ℕ). own u (pass_at w.after.passes other).seen ≡ own u (pass_at w.hand.passes other).seen) by_thread same in
        ap (λ (l : List Known). length (own thread (pass_at l other).seen)) new_is ∙ ap length own_same ∙ ap (λ (l : List Known). length (own thread (pass_at l other).seen)) (sym old_is)

    made_after : (t other : ℕ) → t < 8 → other < length old.bank → made_at wrote t other ≡ writes_in t other (write ∷ lines)
    made_after t other lt here = go (ℕ_discrete t thread) (ℕ_discrete other set)
      where
        go : Dec (t ≡ thread) → Dec (other ≡ set) → made_at wrote t other ≡ writes_in t other (write ∷ lines)
        go (yes same) (yes this) =
            let a : made_at wrote t other ≡ made_at old t other + 1 = subst (λ (k : ℕ × ℕ). made_at wrote k.0 k.1 ≡ made_at old k.0 k.1 + 1) (λ i. (sym same i, sym this i)) made_here in
            let b : is_write t other (act.Write thread set patch) ≡ true =
            ap (λ (b : Bool). b && eqb set other) (eq-eqb thread t (sym same)) ∙ eq-eqb set other (sym this) in
            omega (arith, a, h.made t other lt here, hits (λ (l : Line). is_write t other l.act) write lines b)
        go (yes same) (no ne) =
            let a : made_at wrote t other ≡ made_at old t other = subst (λ (k : ℕ). made_at wrote k other ≡ made_at old k other) (sym same) (made_beside other ne here) in
            let b : is_write t other (act.Write thread set patch) ≡ false =
            ap (λ (b : Bool). b && eqb set other) (eq-eqb thread t (sym same)) ∙ ne_eqb set other (λ e. ne (sym e)) in
            omega (arith, a, h.made t other lt here, skips (λ (l : Line). is_write t other l.act) write lines b)
        go (no ne) _ =
            let a : made_at wrote t other ≡ made_at old t other = ap (λ (l : List Known). length (own t (pass_at l other).seen)) (at_other thread old.hands.items new.hands.items w.hand w.after w.hands room (λ hand. hand.passes) [] t ne) in
            let b : is_write t other (act.Write thread set patch) ≡ false = ap (λ (b : Bool). b && eqb set other) (ne_eqb thread t (λ e. ne (sym e))) in
            omega (arith, a, h.made t other lt here, skips (λ (l : Line). is_write t other l.act) write lines b)

    looks_same : (t : ℕ) → looks_at wrote t ≡ looks_at old t
    looks_same t = go (ℕ_discrete t thread)
      where
        go : Dec (t ≡ thread) → looks_at wrote t ≡ looks_at old t
        go (yes same) = subst (λ (k : ℕ). looks_at wrote k ≡ looks_at old k) (sym same)
            (at_new thread old.hands.items new.hands.items w.hand w.after w.hands room (λ hand. hand.looks.items) []
            ∙ ap (λ looks. looks.items) w.wrote.looks
            ∙ sym (at_old thread old.hands.items new.hands.items w.hand w.after w.hands room (λ hand. hand.looks.items) []))
        go (no ne) = at_other thread old.hands.items new.hands.items w.hand w.after w.hands room (λ hand. hand.looks.items) [] t ne

    -- where the session has seen no more than the lines write, it has seen what they write
    module _ (flush : IsFlush script.metas (write ∷ lines) (passes_of new.session)) where
      meta_same : (cell_at old.bank set).meta ≡ meta_in script.metas set
      meta_same = cell_meta config script h.steps old was h.stands set

      in_metas : set < length script.metas
      in_metas = (let e = count_cells config script h.steps old was h.stands in omega arith)

      before_short : length w.wrote.before ≤ length (log_after (meta_in script.metas set) set lines)
      before_short =
          let a = flush set in_metas in
          let b = ap length w.wrote.seen in
          let c = ap length (log_after-write (meta_in script.metas set) set at thread patch lines) in
          omega (
            arith,
            a,
            b,
            c,
            length_push w.wrote.before (entry w.wrote.by (patched_words (cell_at old.bank set).meta.fields patch (row_after w.wrote.before))),
            length_push (log_after (meta_in script.metas set) set lines) (entry thread (patched_words (meta_in script.metas set).fields patch (row_after (log_after (meta_in script.metas set) set lines)))),
          )

      flush_before : IsFlush script.metas lines (passes_of old.session)
      flush_before other lt = go (ℕ_discrete other set)
        where
          go : Dec (other ≡ set) → length (pass_at (passes_of old.session) other).seen ≤ length (log_after (meta_in script.metas other) other lines)
          go (yes same) = subst (λ (k : ℕ). length (pass_at (passes_of old.session) k).seen ≤ length (log_after (meta_in script.metas k) k lines)) (sym same)
              (let a = shorter w.wrote.before (pass_at (passes_of old.session) set).seen w.wrote.more in let b = before_short in omega arith)
          go (no ne) =
              let a = flush other lt in
              let b = ap length (w.wrote.others other ne (let c = counted in omega arith)) in
              let c = ap length (log_after-write_other (meta_in script.metas other) other set at thread patch lines (λ e. ne (sym e))) in
              omega (arith, a, b, c)

      exact_before : IsExact (plan_by config script) lines h.steps h.looks old
      exact_before = h.exact flush_before

      before_is : w.wrote.before ≡ log_after (meta_in script.metas set) set lines
      before_is =
          let seen = exact_before.seen set in_metas in
          whole w.wrote.before (pass_at (passes_of old.session) set).seen w.wrote.more (let a = before_short in let b = ap length seen in omega arith) ∙ seen

      seen_after : (other : ℕ) → other < length script.metas → (pass_at (passes_of new.session) other).seen ≡ log_after (meta_in script.metas other) other (write ∷ lines)
      seen_after other lt = go (ℕ_discrete other set)
        where
          go : Dec (other ≡ set) → (pass_at (passes_of new.session) other).seen ≡ log_after (meta_in script.metas other) other (write ∷ lines)
          go (yes same) = subst (λ (k : ℕ). (pass_at (passes_of new.session) k).seen ≡ log_after (meta_in script.metas k) k (write ∷ lines)) (sym same)
              (w.wrote.seen
              ∙ ap (λ (log : List Entry). log ++ entry w.wrote.by (patched_words (cell_at old.bank set).meta.fields patch (row_after log)) ∷ []) before_is
              ∙ ap (λ (u : ℕ). log_after (meta_in script.metas set) set lines ++ entry u (patched_words (cell_at old.bank set).meta.fields patch (row_after (log_after (meta_in script.metas set) set lines))) ∷ []) by_thread
              ∙ ap (λ (meta : MetaData). log_after (meta_in script.metas set) set lines ++ entry thread (patched_words meta.fields patch (row_after (log_after (meta_in script.metas set) set lines))) ∷ []) meta_same
              ∙ sym (log_after-write (meta_in script.metas set) set at thread patch lines))
          go (no ne) =
              w.wrote.others other ne (let c = counted in omega arith) ∙ exact_before.seen other lt
              ∙ sym (log_after-write_other (meta_in script.metas other) other set at thread patch lines (λ e. ne (sym e)))

      versions_after : (t other : ℕ) → t < 8 → other < length script.metas
          → versions_in other (versions_at wrote t) ≡ places t 0 (authors (log_after (meta_in script.metas other) other (write ∷ lines)))
      versions_after t other lt here = go (ℕ_discrete t thread) (ℕ_discrete other set)
        where
          was_at : versions_at old thread ≡ w.hand.versions.items
          was_at = at_old thread old.hands.items new.hands.items w.hand w.after w.hands room (λ hand. hand.versions.items) []

          is_at : versions_at wrote thread ≡ versions_at old thread ++ (set, length w.wrote.before + 1) ∷ []
          is_at =
              at_new thread old.hands.items new.hands.items w.hand w.after w.hands room (λ hand. hand.versions.items) [] ∙ w.wrote.versions
              ∙ ap (λ (l : List (ℕ × ℕ)). l ++ (set, length w.wrote.before + 1) ∷ []) (sym was_at)

          authors_here : authors (log_after (meta_in script.metas set) set (write ∷ lines)) ≡ authors (log_after (meta_in script.metas set) set lines) ++ thread ∷ []
          authors_here =
              ap authors (log_after-write (meta_in script.metas set) set at thread patch lines)
              ∙ authors-push (log_after (meta_in script.metas set) set lines)
              (entry thread (patched_words (meta_in script.metas set).fields patch (row_after (log_after (meta_in script.metas set) set lines))))

          authors_beside : other ≢ set → authors (log_after (meta_in script.metas other) other (write ∷ lines)) ≡ authors (log_after (meta_in script.metas other) other lines)
          authors_beside ne = ap authors (log_after-write_other (meta_in script.metas other) other set at thread patch lines (λ e. ne (sym e)))

          here_both : versions_in set (versions_at wrote thread) ≡ places thread 0 (authors (log_after (meta_in script.metas set) set (write ∷ lines)))
          here_both =
              ap (versions_in set) is_at ∙ versions_in-push set (versions_at old thread) (length w.wrote.before + 1)
              ∙ ap (λ (l : List ℕ). l ++ (length w.wrote.before + 1) ∷ []) (exact_before.versions thread set bound in_metas)
              ∙ ap (λ (k : ℕ). places thread 0 (authors (log_after (meta_in script.metas set) set lines)) ++ (k + 1) ∷ [])
              (ap length before_is ∙ sym (length-authors (log_after (meta_in script.metas set) set lines)))
              ∙ sym (places_push thread (authors (log_after (meta_in script.metas set) set lines)))
              ∙ ap (places thread 0) (sym authors_here)

          go : Dec (t ≡ thread) → Dec (other ≡ set) → versions_in other (versions_at wrote t) ≡ places t 0 (authors (log_after (meta_in script.metas other) other (write ∷ lines)))
          go (yes same) (yes this) =
              subst (λ (k : ℕ × ℕ). versions_in k.1 (versions_at wrote k.0) ≡ places k.0 0 (authors (log_after (meta_in script.metas k.1) k.1 (write ∷ lines)))) (λ i. (sym same i, sym this i)) here_both
          go (yes same) (no ne) =
              subst (λ (k : ℕ). versions_in other (versions_at wrote k) ≡ places k 0 (authors (log_after (meta_in script.metas other) other (write ∷ lines)))) (sym same)
              (ap (versions_in other) is_at ∙ versions_in-push_other other set (versions_at old thread) (length w.wrote.before + 1) (λ e. ne (sym e))
              ∙ exact_before.versions thread other bound here ∙ ap (places thread 0) (sym (authors_beside ne)))
          go (no ne) (yes this) =
              subst (λ (k : ℕ). versions_in k (versions_at wrote t) ≡ places t 0 (authors (log_after (meta_in script.metas k) k (write ∷ lines)))) (sym this)
              (ap (versions_in set) (at_other thread old.hands.items new.hands.items w.hand w.after w.hands room (λ hand. hand.versions.items) [] t ne)
              ∙ exact_before.versions t set lt in_metas
              ∙ sym (ap (places t 0) authors_here ∙ places_push_other t thread (authors (log_after (meta_in script.metas set) set lines)) (λ e. ne (sym e))))
          go (no ne) (no beside) =
              ap (versions_in other) (at_other thread old.hands.items new.hands.items w.hand w.after w.hands room (λ hand. hand.versions.items) [] t ne)
              ∙ exact_before.versions t other lt here ∙ ap (places t 0) (sym (authors_beside beside))

      exact_wrote : IsExact (plan_by config script) (write ∷ lines) h.steps h.looks wrote
      exact_wrote = record {
        played = (h.steps, h.looks, exact_before.played, (refl, refl));
        seen = seen_after;
        versions = versions_after;
      }

    abbrev written_by : HasPlayed config script (write ∷ lines) told wrote
    written_by = record {
      steps = h.steps;
      looks = h.looks;
      stands = w.stands (plan_by config script) h.steps h.stands;
      tells = h.tells;
      switches = h.switches;
      ticks = (let a = h.ticks in let b = ap (λ (s : Session). (left_of s).ticks) w.samples in omega (arith, a, b, skips (λ (l : Line). is_tick l.act) write lines refl));
      pumps = ap (λ (s : Session). (left_of s).pumps) w.samples ∙ h.pumps;
      running = ap (λ (s : Session). (left_of s).is_closed) w.samples ∙ h.running;
      appends = ap (λ (l : List ℕ). l ++ appends_left new.session) (appended-cons write lines ∙ append-nil (appended_sets (reverse lines)))
          ∙ ap (λ (s : Session). appended_sets (reverse lines) ++ appends_left s) w.samples ∙ h.appends;
      quotas = h.quotas;
      made = made_after;
      looked = λ t lt. ap (λ (l : List Looked). map (watch_of t) l) (looks_same t) ∙ h.looked t lt;
      looks_there = h.looks_there;
      exact = exact_wrote;
    }

    pub written : PlaysOn config script lines told old h write told new
    written = subst (λ (player : Player). PlaysOn config script lines told old h write told player) (sym w.rest) (written_by, refl)
