-- The next line of a script: it may be played, and then it has been.
use Rattle.std.proofs.Common.{◌≡◌, ℕ, ◌+◌, ◌<◌, ◌≤◌, Bool, true, false, eqb, cond, ◌&&◌, List, [], ◌∷◌, ◌++◌, length, map, reverse, take, drop, get_or, refl, sym, ap, ◌∙◌, subst, arith, append_assoc, take-append-drop, eq-eqb, Option, Some}
use Rattle.std.specs.Prelude.{slice_index}
use Rattle.std.specs.List.{range_with_len}
use Rattle.std.proofs.lemmas.Bool.{false≢true}
use Rattle.std.proofs.lemmas.List.{append-nil, append_cancel_left, drop_more, get_or-map, get_or_append_left, length-map, reverse-append, reverse-reverse, take_all, take_more}
use Rattle.std.proofs.lemmas.List.FromFn.{get_or-map-range_with_len}
use Rattle.std.proofs.lemmas.Option.{same_Some, slice_get-get_or, unwrap_or-slice_get}
use lib.ListN.{get_or-map as get_or-mapped}
use Rattle.dataset_meta.specs.Metas.{MetaData, no_meta}
use Rattle.row_words.specs.Patches.{IsPatchOf}
use Rattle.row_words.specs.Shapes.{shape_of}
use Rattle.ua_base.specs.Journal.{LinkState}
use Rattle.version_cell.specs.Histories.{own}
use Rattle.version_cell.specs.Known.{Known}
use Rattle.version_cell.specs.Cells.{CellData, IsCell}
use Rattle.version_cell.specs.Passes.{IsPassOf}
use Rattle.version_cell.specs.Sets.{cell_at, no_cell, pass_at}
use Rattle.version_cell.specs.Terms.{quota}
use Rattle.ps_config.specs.declared.parts.Config.{Config}
use Rattle.ps_config.specs.Sound.{component_names, readers}
use Rattle.ps_script.specs.declared.script.Act.{Act}
use Rattle.ps_script.specs.declared.script.Act.TheVariants as act
use Rattle.ps_script.specs.declared.script.Line.{Line}
use Rattle.ps_script.specs.declared.script.Script.{Script}
use Rattle.ps_script.specs.Sessions.{is_enabled, is_tick, is_write, ticks_in, writes_in}
use Rattle.ps_script.specs.Sound.{IsAct, IsScript}
use Rattle.pubsub_states.specs.declared.component.Component.{Component}
use Rattle.pubsub_states.specs.declared.component.Component.TheVariants.{Root}
use Rattle.pubsub_states.specs.Changes.{Change, is_enabled as is_enabled_after}
use Rattle.pubsub_states.specs.Components.{IsId, components, counts_of, id_of}
use Rattle.pubsub_states.specs.Names.{name_of}
use Rattle.pubsub_states.proofs.NamesInOrder.{names_in_order}
use Rattle.pubsub_states.proofs.Places.{placed}
use Rattle.session_model.specs.Steps.{Step, Enable, Disable, Append, is_on, switches_in}
use Rattle.session_model.specs.Deeds.{component_at}
use Rattle.session_model.specs.Sends.{TellsRun}
use Rattle.pubsub_engine.specs.Holding.{appends_left}
use Rattle.pubsub_engine.specs.Standing.{Stands}
use Rattle.script_player.specs.declared.hand.Hand.{Hand}
use Rattle.script_player.specs.declared.player.Player.{Player}
use Rattle.script_player.specs.Plays.{plan_by}
use Rattle.script_player.specs.Playing.{IsLineBy, log_after, with_write}
use Rattle.script_player.specs.Player.{Does, GrowsBy, HasPlayed, IsPlayer, MayDo, PlaysOn, Switches, switches_by, with_switch}
use Rattle.script_player.specs.Sizes.{appended_by, appended_sets}
use Rattle.script_player.proofs.Lines.{appended-append, count_by-append, count_by-cons, count_by-reverse, enabled_behind}
use Rattle.script_player.proofs.Hands.{cell_meta, config_is, count_cells}
use Rattle.script_player.proofs.Stored.{stored_is}
use Rattle.script_player.proofs.Exact.{kept, ticked}
use Rattle.script_player.proofs.Writing.{written}
use Rattle.script_player.proofs.Watching.{looked_at}

-- behind these lines, the latest first, the script has this line
pub record IsNextLine (config : Config) (script : Script) (lines : List Line) (line : Line) : Type 0 where
  pub rest : List Line
  pub split : script.lines ≡ reverse lines ++ line ∷ rest
  pub acts : IsAct config script.metas (reverse lines) line.act

pub next_line : (config : Config) (script : Script) (k : ℕ) (d : Line) → IsScript config script → k < length script.lines
    → IsNextLine config script (reverse (take k script.lines)) (get_or script.lines k d)
next_line config script k d is lt =
    let line : Line = get_or script.lines k d in
    record {
      rest = drop (k + 1) script.lines;
      split = sym (take-append-drop k script.lines) ∙ ap (λ (l : List Line). take k script.lines ++ l) (drop_more script.lines k d lt)
          ∙ ap (λ (l : List Line). l ++ line ∷ drop (k + 1) script.lines) (sym (reverse-reverse (take k script.lines)));
      acts = subst (λ (l : List Line). IsAct config script.metas l line.act) (sym (reverse-reverse (take k script.lines)))
          (is.acts k line (slice_get-get_or script.lines k d lt));
    }

-- one line more, turned round
pub turned_more : (lines : List Line) (k : ℕ) (d : Line) → k < length lines → reverse (take (k + 1) lines) ≡ get_or lines k d ∷ reverse (take k lines)
turned_more lines k d lt = ap reverse (take_more lines k d lt) ∙ reverse-append (take k lines) (get_or lines k d ∷ [])

-- ---- the components

pub there_is : (config : Config) (id : ℕ) → id < length (component_names config) → IsId (counts_of config) id
there_is config id lt = let e = ap length (names_in_order config) in let m = length-map (components (counts_of config)) (name_of config) in omega arith

id_at : (config : Config) (id : ℕ) → id < length (component_names config) → id_of (counts_of config) (component_at config id) ≡ id
id_at config id lt =
    (placed (counts_of config) id (component_at config id)
    (slice_get-get_or (components (counts_of config)) id Root (there_is config id lt)
    ∙ ap (λ (c : Component). Some c) (sym (unwrap_or-slice_get (components (counts_of config)) id Root)))).1

-- whether a component is on behind steps that have the switches of these lines
pub was_on : (config : Config) (lines : List Line) (steps : List Step) → switches_in steps ≡ switches_by lines → (id : ℕ) (on : Bool)
    → id < length (component_names config) → is_enabled id (reverse lines) ≡ on → is_on config steps (component_at config id) ≡ on
was_on config lines steps switches id on lt was =
    ap (is_enabled_after (switches_in steps)) (id_at config id lt) ∙ ap (λ (changes : List Change). is_enabled_after changes id) switches ∙ enabled_behind id lines ∙ was

-- ---- the appends that are to come begin with the next line's

pub left_next : (config : Config) (script : Script) (lines : List Line) (left : List ℕ) → appended_sets (reverse lines) ++ left ≡ appended_sets script.lines
    → (at set : ℕ) (next : IsNextLine config script lines (record { at = at; act = act.Append set })) → left ≡ set ∷ appended_sets next.rest
left_next config script lines left appends at set next =
    append_cancel_left (appended_sets (reverse lines)) left (set ∷ appended_sets next.rest)
    (appends ∙ ap appended_sets next.split ∙ appended-append (reverse lines) (record { at = at; act = act.Append set } ∷ next.rest))

module _ (config : Config) (script : Script) (lines : List Line) (told : Option LinkState) (player : Player) (is : IsPlayer player) (h : HasPlayed config script lines told player) where
  -- ---- the quota of a thread is the number of its writes

  quota_is : (t set : ℕ) (p : Known) → t < 8 → set < length player.bank → IsPassOf (cell_at player.bank set) p → IsCell (cell_at player.bank set) → length player.bank ≡ length config.dataset
      → quota t p.terms ≡ writes_in t set script.lines
  quota_is t set p lt here of cell count =
      let cells = player.bank in
      ap (quota t) of.terms ∙ get_or_append_left (cell_at cells set).quotas (shape_of (cell_at cells set).meta) 0 t (let e = cell.eight in omega arith)
      ∙ ap (λ (l : List ℕ). slice_index l t)
      (sym (get_or-mapped (λ (c : CellData). c.quotas) cells set no_cell) ∙ ap (λ (l : List (List ℕ)). get_or l set []) h.quotas
      ∙ get_or-map-range_with_len (λ (s : ℕ). map (λ (thread : ℕ). writes_in thread s script.lines) (range_with_len 0 8)) 0 (length config.dataset) set set [] (omega arith) (omega arith))
      ∙ get_or-map-range_with_len (λ (thread : ℕ). writes_in thread set script.lines) 0 8 t t 0 lt (omega arith)

  -- ---- the next line may be played

  module _ (at : ℕ) (scripts : IsScript config script) where
    pub may_do : (what : Act) → IsNextLine config script lines (record { at = at; act = what }) → MayDo what player
    may_do (act.Write thread set patch) next =
        let w = next.acts in
        let here : set < length player.bank = (let e = count_cells config script h.steps player is h.stands in let t = w.there in omega arith) in
        record {
          bound = w.bound;
          there = here;
          of = subst (λ (meta : MetaData). IsPatchOf meta patch) (sym (cell_meta config script h.steps player is h.stands set)) (w.of no_meta);
          left = λ d t author.
              (let hand = is.hands thread w.bound d in
              let same : t ≡ thread = same_Some t thread (sym author ∙ hand.author set here) in
              let e = count_cells config script h.steps player is h.stands in
              let s = scripts.sets in
              let q = quota_is thread set (pass_at (get_or player.hands.items thread d).passes set) w.bound here (hand.own.each set here) (is.cells set no_cell here) (omega arith) in
              let made : length (own thread (pass_at (get_or player.hands.items thread d).passes set).seen) ≡ writes_in thread set lines =
              ap (λ (l : List Known). length (own thread (pass_at l set).seen)) (sym (get_or-map (λ (x : Hand). x.passes) player.hands.items thread d [] (let n = is.eight in let b = w.bound in omega arith))) ∙ h.made thread set w.bound here in
              let test : Line → Bool = λ l. is_write thread set l.act in
              let line : Line = record { at = at; act = act.Write thread set patch } in
              let all : writes_in thread set script.lines ≡ writes_in thread set (reverse lines ++ line ∷ next.rest) = ap (writes_in thread set) next.split in
              let hit : test line ≡ true = ap (λ (b : Bool). b && eqb set set) (eq-eqb thread thread refl) ∙ eq-eqb set set refl in
              let one : cond (test line) 1 0 ≡ 1 = ap {B = ℕ} (λ (b : Bool). cond b 1 0) hit in
              let less : length (own thread (pass_at (get_or player.hands.items thread d).passes set).seen) < quota thread (pass_at (get_or player.hands.items thread d).passes set).terms =
              omega (arith, made, q, all, one, count_by-append test (reverse lines) (line ∷ next.rest), count_by-reverse test lines, count_by-cons test line next.rest) in
              subst (λ (u : ℕ). length (own u (pass_at (get_or player.hands.items thread d).passes set).seen) < quota u (pass_at (get_or player.hands.items thread d).passes set).terms) (sym same) less);
        }
    may_do (act.Tick ms) next =
        let test : Line → Bool = λ l. is_tick l.act in
        let line : Line = record { at = at; act = act.Tick ms } in
        let all : ticks_in script.lines ≡ ticks_in (reverse lines ++ line ∷ next.rest) = ap ticks_in next.split in
        record {
          running = h.running;
          left = omega (arith, h.ticks, all, count_by-append test (reverse lines) (line ∷ next.rest), count_by-reverse test lines, count_by-cons test line next.rest);
          short = next.acts.1;
          still = λ e. absurd (false≢true e);
        }
    may_do (act.Enable id) next = record {
      running = h.running;
      there = subst (λ (c : Config). IsId (counts_of c) id) (sym (config_is config script h.steps player is h.stands)) (there_is config id next.acts.there);
    }
    may_do (act.Disable id) next = record {
      running = h.running;
      there = subst (λ (c : Config). IsId (counts_of c) id) (sym (config_is config script h.steps player is h.stands)) (there_is config id next.acts.there);
    }
    may_do (act.Fated k fate) next = tt
    may_do (act.Watch thread reader times) next = record {
      bound = next.acts.bound;
      there = subst (λ (c : Config). reader < length (readers c)) (sym (config_is config script h.steps player is h.stands)) next.acts.there;
    }
    may_do (act.Append set) next = record {
      running = h.running;
      left = (let e = ap length (left_next config script lines (appends_left player.session) h.appends at set next) in omega arith);
    }

  -- ---- and then it was played

  switched : (at id : ℕ) (was : Bool) (what : Act) (step : Step) (new : Player) → Switches step id was player new
      → Stands (plan_by config script) (step ∷ h.steps) new.session → TellsRun (plan_by config script) (step ∷ h.steps) told
      → switches_in (step ∷ h.steps) ≡ with_switch (switches_in h.steps) what
      → is_tick what ≡ false → ((t set : ℕ) → is_write t set what ≡ false) → appended_by what ≡ []
      → ((meta : MetaData) (set : ℕ) → with_write meta set (log_after meta set lines) what ≡ log_after meta set lines)
      → IsLineBy (plan_by config script) lines what h.steps (step ∷ h.steps) h.looks h.looks
      → (next : HasPlayed config script (record { at = at; act = what } ∷ lines) told new) × (next.steps ≡ step ∷ h.steps)
  switched at id was what step new w stands tells switches no_tick no_write none logs by =
      subst (λ (x : Player). (next : HasPlayed config script (record { at = at; act = what } ∷ lines) told x) × (next.steps ≡ step ∷ h.steps)) (sym w.rest)
      (kept config script lines told player is h at what new.session (step ∷ h.steps) stands tells switches w.keeps.passes w.left no_tick no_write
      (ap (λ (l : List ℕ). (appended_sets (reverse lines) ++ l) ++ appends_left new.session) none
      ∙ ap (λ (l : List ℕ). l ++ appends_left new.session) (append-nil (appended_sets (reverse lines)))
      ∙ ap (λ (l : List ℕ). appended_sets (reverse lines) ++ l) w.appends ∙ h.appends)
      logs by)

  pub played_next : (at : ℕ) (what : Act) (after : Option LinkState) (new : Player) → IsPlayer new → IsNextLine config script lines (record { at = at; act = what })
      → Does what player new told after → PlaysOn config script lines told player h (record { at = at; act = what }) after new
  played_next at (act.Write thread set patch) after new now next (w, same) =
      let w' = next.acts in
      subst (λ (t : Option LinkState). PlaysOn config script lines told player h (record { at = at; act = act.Write thread set patch }) t new) (sym same)
      (written config script lines told player is h at thread set patch new w w'.bound (let e = count_cells config script h.steps player is h.stands in let t = w'.there in omega arith))
  played_next at (act.Tick ms) after new now next w = ticked config script lines told player is h at ms after new now w
  played_next at (act.Enable id) after new now next (w, same) =
      subst (λ (t : Option LinkState). PlaysOn config script lines told player h (record { at = at; act = act.Enable id }) t new) (sym same)
      (switched at id false (act.Enable id) (Enable id) new w (w.stands (plan_by config script) h.steps h.stands (was_on config lines h.steps h.switches id false next.acts.there next.acts.was)) h.tells refl refl (λ t set. refl) refl
      (λ meta set. refl) (refl, refl))
  played_next at (act.Disable id) after new now next (w, same) =
      subst (λ (t : Option LinkState). PlaysOn config script lines told player h (record { at = at; act = act.Disable id }) t new) (sym same)
      (switched at id true (act.Disable id) (Disable id) new w (w.stands (plan_by config script) h.steps h.stands (was_on config lines h.steps h.switches id true next.acts.there next.acts.was)) h.tells refl refl (λ t set. refl) refl
      (λ meta set. refl) (refl, refl))
  played_next at (act.Fated k fate) after new now next (unchanged, same) =
      subst (λ (t : Option LinkState). PlaysOn config script lines told player h (record { at = at; act = act.Fated k fate }) t new) (sym same)
      (subst (λ (x : Player). PlaysOn config script lines told player h (record { at = at; act = act.Fated k fate }) told x) (sym unchanged)
      (kept config script lines told player is h at (act.Fated k fate) player.session h.steps h.stands h.tells refl refl refl refl (λ t set. refl)
      (ap (λ (l : List ℕ). l ++ appends_left player.session) (append-nil (appended_sets (reverse lines))) ∙ h.appends) (λ meta set. refl) (refl, refl)))
  played_next at (act.Watch thread reader times) after new now next (w, same) =
      subst (λ (t : Option LinkState). PlaysOn config script lines told player h (record { at = at; act = act.Watch thread reader times }) t new) (sym same)
      (looked_at config script lines told player is h at thread reader times new w next.acts.bound next.acts.there
      (stored_is (plan_by config script) h.steps player.session reader h.stands next.acts.there))
  played_next at (act.Append set) after new now next (w, same) =
      let left = left_next config script lines (appends_left player.session) h.appends at set next in
      let set_is : w.set ≡ set = (let e = w.next in cc) in
      let rest_is : appends_left new.session ≡ appended_sets next.rest = (let e = w.next in cc) in
      let stands = w.stands (plan_by config script) h.steps h.stands in
      let stands_set = subst (λ (s : ℕ). Stands (plan_by config script) (Append s stands.0 ∷ h.steps) new.session) set_is stands.1 in
      subst (λ (t : Option LinkState). PlaysOn config script lines told player h (record { at = at; act = act.Append set }) t new) (sym same)
      (subst (λ (x : Player). PlaysOn config script lines told player h (record { at = at; act = act.Append set }) told x) (sym w.rest)
      (let grown = kept config script lines told player is h at (act.Append set) new.session (Append set stands.0 ∷ h.steps) stands_set h.tells refl w.keeps.passes w.left refl (λ t other. refl)
      (append_assoc (appended_sets (reverse lines)) (set ∷ []) (appends_left new.session) ∙ ap (λ (l : List ℕ). appended_sets (reverse lines) ++ l) (ap (λ (s : ℕ). s ∷ appends_left new.session) (sym set_is) ∙ sym w.next) ∙ h.appends)
      (λ meta other. refl) ((stands.0, refl), refl) in
      (grown.0, (stands.0, grown.1))))

-- ---- the lines in order

-- what stands for a line where there is none
abbrev pub no_line : Line
no_line = record { at = 0; act = act.Write 0 0 (record { mask = 0; row = record { words = [] } }) }

module _ (config : Config) (script : Script) (items : List Line) (k : ℕ) (told : Option LinkState) (player : Player) (scripts : IsScript config script) (same : items ≡ script.lines)
    (is : IsPlayer player) (h : HasPlayed config script (reverse (take k script.lines)) told player) (lt : k < length items) where
  abbrev line : Line
  line = get_or items k no_line

  within : k < length script.lines
  within = omega (arith, lt, ap length same)

  next : IsNextLine config script (reverse (take k script.lines)) line
  next = subst (λ (l : List Line). IsNextLine config script (reverse (take k script.lines)) (get_or l k no_line)) (sym same) (next_line config script k no_line scripts within)

  turned : reverse (take (k + 1) script.lines) ≡ line ∷ reverse (take k script.lines)
  turned = turned_more script.lines k no_line within ∙ ap (λ (l : List Line). get_or l k no_line ∷ reverse (take k script.lines)) (sym same)

  pub next-may : MayDo line.act player
  next-may = may_do config script (reverse (take k script.lines)) told player is h line.at scripts line.act next

  pub next-played : (after : Option LinkState) (new : Player) → IsPlayer new → Does line.act player new told after
      → (later : HasPlayed config script (reverse (take (k + 1) script.lines)) after new) × GrowsBy line.act h.steps later.steps
  next-played after new now does =
      subst (λ (l : List Line). (later : HasPlayed config script l after new) × GrowsBy line.act h.steps later.steps) (sym turned)
      (played_next config script (reverse (take k script.lines)) told player is h line.at line.act after new now next does)

pub none-played : (config : Config) (script : Script) (told : Option LinkState) (player : Player) → HasPlayed config script [] told player
    → HasPlayed config script (reverse (take 0 script.lines)) told player
none-played config script told player h = h

pub all-played : (config : Config) (script : Script) (k : ℕ) (told : Option LinkState) (player : Player) → length script.lines ≤ k
    → HasPlayed config script (reverse (take k script.lines)) told player → HasPlayed config script (reverse script.lines) told player
all-played config script k told player end h = subst (λ (l : List Line). HasPlayed config script (reverse l) told player) (take_all k script.lines end) h
