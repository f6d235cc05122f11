-- A played script behind its closing tick, when its session is closed.
use Rattle.std.proofs.Common.{◌≡◌, ℕ, zero, suc, ◌+◌, ◌<◌, ◌≤◌, ◌==◌, Bool, true, false, ◌&&◌, cond, List, [], ◌∷◌, ◌++◌, length, map, reverse, get_or, refl, sym, ap, ◌∙◌, subst, arith, Option, Some}
use Rattle.std.specs.Prelude.{All, slice_get, sum, sum_by, option_map}
use Rattle.std.specs.List.{filter, flat_map, range_with_len}
use Rattle.std.proofs.lemmas.List.{length-map, length_push}
use Rattle.std.proofs.lemmas.List.Elements.{All-filter, All-map}
use Rattle.std.proofs.lemmas.List.FromFn.{fill_by_all, get_or-map-range_with_len, get_or-range_with_len, length-range_with_len}
use Rattle.std.proofs.lemmas.List.Sums.{sum-map, sum_by-cons}
use Rattle.std.proofs.lemmas.Option.{none-some, same_Some}
use lib.ListN.{get_or-map as get_or-mapped}
use Rattle.dataset_meta.specs.Metas.{MetaData}
use Rattle.dataset_meta.specs.DataValues.{DataValue}
use Rattle.row_words.specs.Patches.{patched_words}
use Rattle.ua_base.specs.Journal.{Entry as LinkEntry, LinkState}
use Rattle.version_cell.specs.declared.rule.Entry.{Entry}
use Rattle.version_cell.specs.Cells.{CellData}
use Rattle.version_cell.specs.Histories.{StartsWith, entry, row_after}
use Rattle.version_cell.proofs.Models.{version_bound}
use Rattle.version_cell.specs.Sets.{cell_at, no_cell, pass_at}
use Rattle.ps_config.specs.declared.parts.Config.{Config}
use Rattle.ps_config.specs.Sound.{readers}
use Rattle.ps_report.specs.Conditions.{IsClosedOf}
use Rattle.ps_report.specs.declared.closed.Closed.{Closed}
use Rattle.ps_report.specs.declared.closed.History.{History}
use Rattle.ps_report.specs.declared.closed.WatchEnd.{WatchEnd}
use Rattle.ps_script.specs.declared.script.Act.{Act}
use Rattle.ps_script.specs.declared.script.Act.TheVariants as act
use Rattle.ps_script.specs.declared.script.Line.{Line}
use Rattle.ps_script.specs.declared.script.Script.{Script}
use Rattle.ps_script.specs.Sessions.{is_write, writes_in}
use Rattle.ps_script.specs.Sound.{IsScript}
use Rattle.session_model.specs.Steps.{Plan, Step, Tick, Pump}
use Rattle.session_model.specs.Sends.{TellsRun}
use Rattle.writer_group.specs.declared.sampled.Sampled.{Sampled}
use Rattle.session_model.specs.Sets.{meta_in}
use Rattle.session_model.specs.Closing.{IsClosedAfter}
use Rattle.session_model.specs.Counts.{most_ticks}
use Rattle.session_model.specs.Keeping.{AreSteps, IsPlan}
use Rattle.session_model.proofs.Lasting.{steps-more}
use Rattle.session_laws.specs.Telling.{HasRun, TellsHeadline}
use Rattle.app_threads.specs.declared.done.Done.{Done}
use Rattle.app_threads.specs.declared.done.Looked.{Looked}
use Rattle.app_threads.specs.Items.{versions_in}
use Rattle.pubsub_engine.specs.Authored.{AreInOrder, AreLooksAt, IsAuthored, watch_of, watches_of}
use Rattle.pubsub_engine.specs.Holding.{passes_of, ticks_of}
use Rattle.pubsub_engine.specs.Standing.{Stands, samples_of}
use Rattle.script_player.specs.declared.hand.Hand.{Hand}
use Rattle.script_player.specs.declared.player.Player.{Player}
use Rattle.script_player.specs.Playing.{IsTickedBy, log_after, with_write}
use Rattle.script_player.specs.Plays.{IsPlayOf, by_threads, plan_by, row_written, writers_in}
use Rattle.script_player.specs.Player.{AreDonesOf, Closes, HasPlayed, IsExact, IsPlayer, config_of, looks_at, versions_at}
use Rattle.script_player.proofs.Exact.{samples_exact, shorter, whole}
use Rattle.script_player.proofs.Hands.{config_is, count_cells}
use Rattle.script_player.proofs.Headline.{HistoriesHaveRows, headline}
use Rattle.script_player.proofs.Lines.{count_by-reverse, length-authors}
use Rattle.script_player.proofs.Quotas.{line-writes, one-writes, one_if, sum_by-both, sum_by-none, sum_by-same}

-- what the headline's law says
abbrev pub RunsTellTheHeadline : Type 0
RunsTellTheHeadline =
    (p : Plan) (steps : List Step) (rows : ℕ → ℕ → List DataValue) (closed : Closed) → HasRun p steps rows
    → IsClosedAfter p steps closed → TellsHeadline p steps rows closed

-- ---- lists

pub any_default : {A : Type 0} (xs : List A) (i : ℕ) (d e : A) → i < length xs → get_or xs i d ≡ get_or xs i e
any_default [] i d e lt = let no : ⊥ = omega (arith, lt) in absurd no
any_default (x ∷ xs) zero d e lt = refl
any_default (x ∷ xs) (suc i) d e lt = any_default xs i d e (omega (arith, lt))

-- ---- so many entries as writes

none-if : (writer from n : ℕ) → sum_by (λ (thread : ℕ). one_if (writer == thread && false)) (range_with_len from n) ≡ 0
none-if writer from zero = refl
none-if writer from (suc n) =
    let first : one_if (writer == from && false) ≡ 0 = never (writer == from) in
    let later = none-if writer (from + 1) n in
    let all = sum_by-cons (λ (thread : ℕ). one_if (writer == thread && false)) from (range_with_len (from + 1) n) in
    omega arith
  where
    never : (b : Bool) → one_if (b && false) ≡ 0
    never true = refl
    never false = refl

act-logs : (meta : MetaData) (set : ℕ) (log : List Entry) (a : Act)
    → sum_by (λ (thread : ℕ). one_if (is_write thread set a)) (range_with_len 0 8) + length log ≤ length (with_write meta set log a)
act-logs meta set log (act.Write writer other patch) = go (other == set)
  where
    go : (b : Bool) → sum_by (λ (thread : ℕ). one_if (writer == thread && b)) (range_with_len 0 8) + length log
        ≤ length (cond b (log ++ entry writer (patched_words meta.fields patch (row_after log)) ∷ []) log)
    go true = let one = one-writes writer 0 0 0 8 in omega (arith, one, length_push log (entry writer (patched_words meta.fields patch (row_after log))))
    go false = let none = none-if writer 0 8 in omega (arith, none)
act-logs meta set log (act.Tick ms) = omega (arith, sum_by-none (range_with_len 0 8))
act-logs meta set log (act.Enable id) = omega (arith, sum_by-none (range_with_len 0 8))
act-logs meta set log (act.Disable id) = omega (arith, sum_by-none (range_with_len 0 8))
act-logs meta set log (act.Fated k fate) = omega (arith, sum_by-none (range_with_len 0 8))
act-logs meta set log (act.Watch thread reader times) = omega (arith, sum_by-none (range_with_len 0 8))
act-logs meta set log (act.Append other) = omega (arith, sum_by-none (range_with_len 0 8))

all-logged : (meta : MetaData) (set : ℕ) (lines : List Line) → sum_by (λ (thread : ℕ). writes_in thread set lines) (range_with_len 0 8) ≤ length (log_after meta set lines)
all-logged meta set [] = omega (arith, sum_by-none (range_with_len 0 8))
all-logged meta set (line ∷ lines) =
    let each =
    sum_by-same (λ (thread : ℕ). writes_in thread set (line ∷ lines)) (λ (thread : ℕ). one_if (is_write thread set line.act) + writes_in thread set lines)
    (range_with_len 0 8) (λ (thread : ℕ). line-writes thread set line lines) in
    let both = sum_by-both (λ (thread : ℕ). one_if (is_write thread set line.act)) (λ (thread : ℕ). writes_in thread set lines) (range_with_len 0 8) in
    let here = act-logs meta set (log_after meta set lines) line.act in
    let later = all-logged meta set lines in
    omega arith

-- the quotas of a data set add up to what the script's lines write
pub quotas-logged : (meta : MetaData) (set : ℕ) (lines : List Line)
    → sum (map (λ (thread : ℕ). writes_in thread set lines) (range_with_len 0 8)) ≤ length (log_after meta set (reverse lines))
quotas-logged meta set lines =
    let same = sum-map (λ (thread : ℕ). writes_in thread set lines) (range_with_len 0 8) in
    let turned =
    sum_by-same (λ (thread : ℕ). writes_in thread set (reverse lines)) (λ (thread : ℕ). writes_in thread set lines) (range_with_len 0 8)
    (λ (thread : ℕ). count_by-reverse (λ (line : Line). is_write thread set line.act) lines) in
    let all = all-logged meta set (reverse lines) in
    omega arith

-- ---- what the threads leave

module _ (hands : List Hand) (dones : List Done) (are : AreDonesOf hands dones) where
  pub done-count : length dones ≡ length hands
  done-count = sym (length-map dones (λ (done : Done). done.list)) ∙ ap (λ (l : List ℕ). length l) are.lists ∙ length-range_with_len 0 (length hands)

  pub done-list : (t : ℕ) (d : Done) → t < length hands → (get_or dones t d).list ≡ t
  done-list t d lt =
      sym (get_or-mapped (λ (done : Done). done.list) dones t d) ∙ ap (λ (l : List ℕ). get_or l t d.list) are.lists ∙ get_or-range_with_len 0 (length hands) t d.list lt ∙ omega arith

  pub done-versions : (t : ℕ) (d : Done) → t < length hands
      → (get_or dones t d).versions ≡ get_or (map (λ (hand : Hand). hand.versions.items) hands) t []
  done-versions t d lt =
      sym (get_or-mapped (λ (done : Done). done.versions) dones t d) ∙ ap (λ (l : List (List (ℕ × ℕ))). get_or l t d.versions) are.versions
      ∙ any_default (map (λ (hand : Hand). hand.versions.items) hands) t d.versions [] (let e = length-map hands (λ (hand : Hand). hand.versions.items) in omega (arith, e, lt))

  pub done-looks : (t : ℕ) (d : Done) → t < length hands
      → (get_or dones t d).looks ≡ get_or (map (λ (hand : Hand). hand.looks.items) hands) t []
  done-looks t d lt =
      sym (get_or-mapped (λ (done : Done). done.looks) dones t d) ∙ ap (λ (l : List (List Looked)). get_or l t d.looks) are.looks
      ∙ any_default (map (λ (hand : Hand). hand.looks.items) hands) t d.looks [] (let e = length-map hands (λ (hand : Hand). hand.looks.items) in omega (arith, e, lt))

-- the looks of threads that are numbered from here on
pub by-numbers : (dones : List Done) (from : ℕ) (g : ℕ → List WatchEnd) → map (λ (done : Done). done.list) dones ≡ range_with_len from (length dones)
    → ((k : ℕ) → k < length dones → (d : Done) → map (watch_of (from + k)) (get_or dones k d).looks ≡ g (from + k))
    → watches_of dones ≡ flat_map g (range_with_len from (length dones))
by-numbers [] from g lists each = refl
by-numbers (done ∷ dones) from g lists each =
    let head : done.list ≡ from = ap (λ (l : List ℕ). get_or l 0 0) lists in
    let rest : map (λ (d : Done). d.list) dones ≡ range_with_len (from + 1) (length dones) = ap tail_of lists in
    let first : map (watch_of done.list) done.looks ≡ g from =
    ap (λ (t : ℕ). map (watch_of t) done.looks) (head ∙ shift-none from) ∙ each 0 (omega arith) done ∙ ap g (sym (shift-none from)) in
    let later = by-numbers dones (from + 1) g rest (λ k lt d. moved k d (each (suc k) (omega (arith, lt)) d)) in
    ap (λ (l : List WatchEnd). l ++ watches_of dones) first ∙ ap (λ (l : List WatchEnd). g from ++ l) later
  where
    tail_of : List ℕ → List ℕ
    tail_of [] = []
    tail_of (x ∷ xs) = xs

    shift-none : (n : ℕ) → n ≡ n + 0
    shift-none n = omega arith

    moved : (k : ℕ) (d : Done) → map (watch_of (from + suc k)) (get_or dones k d).looks ≡ g (from + suc k)
        → map (watch_of (from + 1 + k)) (get_or dones k d).looks ≡ g (from + 1 + k)
    moved k d e = let same : from + suc k ≡ from + 1 + k = omega arith in
        subst (λ (t : ℕ). map (watch_of t) (get_or dones k d).looks ≡ g t) same e

-- looks of one thread are at readers that are there, where the watches are
pub looks-within : (t n : ℕ) (looks : List Looked) → All (λ (end : WatchEnd). end.reader < n) (map (watch_of t) looks) → All (λ (looked : Looked). looked.reader < n) looks
looks-within t n looks all =
    λ k d lt. subst (λ (end : WatchEnd). end.reader < n) (get_or-mapped (watch_of t) looks k d)
    (all k (watch_of t d) (let e = length-map looks (watch_of t) in omega (arith, e, lt)))

-- ---- histories

pub named-at : (histories : List History) (k : ℕ) (threads : List ℕ) → option_map (λ (history : History). history.threads) (slice_get histories k) ≡ Some threads
    → get_or (map (λ (history : History). history.threads) histories) k [] ≡ threads
named-at [] k threads e = absurd (none-some threads e)
named-at (history ∷ histories) zero threads e = same_Some history.threads threads e
named-at (history ∷ histories) (suc k) threads e = named-at histories k threads e

-- ---- the end

module _ (config : Config) (script : Script) (is : IsScript config script) (plan : IsPlan (plan_by config script)) (told after : Option LinkState) (old : Player) (was : IsPlayer old)
    (h : HasPlayed config script (reverse script.lines) told old) (closed : Closed) (c : Closes old told after closed) (rows : HistoriesHaveRows) (tells-all : RunsTellTheHeadline) where
  abbrev p : Plan
  p = plan_by config script

  abbrev lines : List Line
  lines = reverse script.lines

  abbrev new : Player
  new = c.new

  abbrev led : (done : List Bool) × (entries : List LinkEntry) × Stands p (Pump entries ∷ Tick 0 true (samples_of (passes_of new.session)) done ∷ h.steps) new.session
      × (TellsRun p h.steps told → TellsRun p (Pump entries ∷ Tick 0 true (samples_of (passes_of new.session)) done ∷ h.steps) after)
  led = c.ends.by.leads p h.steps h.stands

  abbrev steps : List Step
  steps = Pump led.1 ∷ Tick 0 true (samples_of (passes_of new.session)) led.0 ∷ h.steps

  stands : Stands p steps new.session
  stands = led.2

  -- it has no more ticks than a script's
  steps_are : AreSteps p steps
  steps_are = steps-more (ticks_of new.session) most_ticks p steps c.player.of_script.few stands.steps_are

  cells : length new.bank ≡ length script.metas
  cells = count_cells config script steps new c.player stands

  count : length (passes_of new.session) ≡ length script.metas
  count = c.player.bank.passes.count ∙ cells

  old-count : length (passes_of old.session) ≡ length script.metas
  old-count = was.bank.passes.count ∙ count_cells config script h.steps old was h.stands

  quotas-at : (set : ℕ) → set < length script.metas → (cell_at new.bank set).quotas ≡ map (λ (thread : ℕ). writes_in thread set script.lines) (range_with_len 0 8)
  quotas-at set lt =
      sym (get_or-mapped (λ (cell : CellData). cell.quotas) new.bank set no_cell)
      ∙ ap (λ (l : List (List ℕ)). get_or l set []) (ap (λ (q : Player). map (λ (cell : CellData). cell.quotas) q.bank) c.ends.rest ∙ h.quotas)
      ∙ get_or-map-range_with_len (λ (s : ℕ). map (λ (thread : ℕ). writes_in thread s script.lines) (range_with_len 0 8)) 0 (length config.dataset) set set []
      (let e = is.sets in omega (arith, e, lt)) (omega arith)

  -- nobody wrote but the script's threads
  flush-new : (set : ℕ) → set < length script.metas → length (pass_at (passes_of new.session) set).seen ≤ length (log_after (meta_in script.metas set) set lines)
  flush-new set lt =
      let here : set < length new.bank = (let e = cells in omega (arith, e, lt)) in
      let seen_here : set < length (passes_of new.session) = (let e = count in omega (arith, e, lt)) in
      let most = version_bound (cell_at new.bank set) (pass_at (passes_of new.session) set) (c.player.cells set no_cell here) (c.player.bank.passes.each set here) (c.ends.by.lawful set seen_here) in
      let quotas : sum (cell_at new.bank set).quotas ≡ sum (map (λ (thread : ℕ). writes_in thread set script.lines) (range_with_len 0 8)) = ap (λ (l : List ℕ). sum l) (quotas-at set lt) in
      let logged = quotas-logged (meta_in script.metas set) set script.lines in
      omega (arith, most, quotas, logged)

  more : (set : ℕ) → set < length script.metas → StartsWith (pass_at (passes_of new.session) set).seen (pass_at (passes_of old.session) set).seen
  more set lt = (c.ends.by.more set (let e = old-count in omega (arith, e, lt))).seen

  exact : IsExact p lines h.steps h.looks old
  exact = h.exact (λ set lt. let long = shorter (pass_at (passes_of new.session) set).seen (pass_at (passes_of old.session) set).seen (more set lt) in
      let most = flush-new set lt in omega (arith, long, most))

  seen : (set : ℕ) → set < length script.metas → (pass_at (passes_of new.session) set).seen ≡ log_after (meta_in script.metas set) set lines
  seen set lt =
      let same = ap (λ (l : List Entry). length l) (exact.seen set lt) in
      let most = flush-new set lt in
      whole (pass_at (passes_of new.session) set).seen (pass_at (passes_of old.session) set).seen (more set lt) (omega (arith, same, most)) ∙ exact.seen set lt

  ticked : IsTickedBy p lines 0 true h.steps steps
  ticked = (led.0, led.1, ap (λ (samples : List Sampled). Pump led.1 ∷ Tick 0 true samples led.0 ∷ h.steps) (samples_exact script.metas lines (passes_of new.session) count seen))

  -- ---- what the threads left

  done-eight : length c.by.dones ≡ 8
  done-eight = done-count new.hands.items c.by.dones c.by.dones_are ∙ c.player.eight

  in-hands : (t : ℕ) → t < length c.by.dones → t < length new.hands.items
  in-hands t lt = let e = done-count new.hands.items c.by.dones c.by.dones_are in omega (arith, e, lt)

  in-eight : (t : ℕ) → t < length c.by.dones → t < 8
  in-eight t lt = let e = done-eight in omega (arith, e, lt)

  in-order : AreInOrder c.by.dones
  in-order = record {
    few = let e = done-eight in omega (arith, e);
    numbers = λ t lt d. done-list new.hands.items c.by.dones c.by.dones_are t d (in-hands t lt);
  }

  authored : (set : ℕ) → set < length script.metas → IsAuthored set c.by.dones (writers_in script set)
  authored set there = record {
    known = known;
    placed = λ t lt d.
        ap (versions_in set)
        (done-versions new.hands.items c.by.dones c.by.dones_are t d (in-hands t lt)
        ∙ ap (λ (q : Player). versions_at q t) c.ends.rest)
        ∙ exact.versions t set (in-eight t lt) there;
  }
    where
      law : All (λ (e : Entry). e.author < 8) (pass_at (passes_of new.session) set).seen
      law = λ k d lt. ((c.ends.by.lawful set (let e = count in omega (arith, e, there))).entries k d lt).author

      known : All (λ (thread : ℕ). thread < length c.by.dones) (writers_in script set)
      known = All-map (λ (thread : ℕ). thread < length c.by.dones) (λ (e : Entry). e.author) (log_after (meta_in script.metas set) set lines)
          (subst (λ (log : List Entry). All (λ (e : Entry). e.author < length c.by.dones) log) (seen set there)
          (λ k d lt. let low = law k d lt in let e = done-eight in omega (arith, low, e)))

  closed_after : IsClosedAfter p steps closed
  closed_after = c.by.closed_after p steps stands in-order

  -- ---- the looks

  look-of : (k : ℕ) → k < length c.by.dones → (d : Done) → map (watch_of k) (get_or c.by.dones k d).looks ≡ filter (λ (look : WatchEnd). look.thread == k) h.looks
  look-of k lt d =
      ap (λ (l : List Looked). map (watch_of k) l)
      (done-looks new.hands.items c.by.dones c.by.dones_are k d (in-hands k lt) ∙ ap (λ (q : Player). looks_at q k) c.ends.rest)
      ∙ h.looked k (in-eight k lt)

  watches : closed.watches ≡ by_threads h.looks
  watches =
      c.by.watches
      ∙ by-numbers c.by.dones 0 g (c.by.dones_are.lists ∙ ap (λ (n : ℕ). range_with_len 0 n) (sym (done-count new.hands.items c.by.dones c.by.dones_are)))
      (λ k lt d. let same : k ≡ 0 + k = omega arith in subst (λ (t : ℕ). map (watch_of t) (get_or c.by.dones k d).looks ≡ g t) same (look-of k lt d))
      ∙ ap (λ (n : ℕ). flat_map g (range_with_len 0 n)) done-eight
    where
      g : ℕ → List WatchEnd
      g thread = filter (λ (look : WatchEnd). look.thread == thread) h.looks

  are-looks : AreLooksAt (readers config) c.by.dones
  are-looks = λ k d lt.
      looks-within k (length (readers config)) (get_or c.by.dones k d).looks
      (subst (λ (l : List WatchEnd). All (λ (end : WatchEnd). end.reader < length (readers config)) l) (sym (look-of k lt d))
      (All-filter (λ (look : WatchEnd). look.thread == k) (λ (end : WatchEnd). end.reader < length (readers config)) h.looks h.looks_there))

  pub is-closed-of : IsClosedOf config closed
  is-closed-of =
      let named : config_of new ≡ config = config_is config script steps new c.player stands in
      subst (λ (k : Config). IsClosedOf k closed) named
      (c.by.closed_of steps (subst (λ (q : Plan). Stands q steps new.session) (sym stands.plan) stands)
      (subst (λ (k : Config). AreLooksAt (readers k) c.by.dones) (sym named) are-looks))

  histories : map (λ (history : History). history.threads) closed.histories ≡ map (writers_in script) (range_with_len 0 (length config.dataset))
  histories =
      fill_by_all (writers_in script) (map (λ (history : History). history.threads) closed.histories) (length config.dataset) []
      (length-map closed.histories (λ (history : History). history.threads) ∙ is-closed-of.histories)
      (λ k lt. let there : k < length script.metas = (let e = is.sets in omega (arith, e, lt)) in
      named-at closed.histories k (writers_in script k)
      (c.by.histories k (writers_in script k) (let e = count in omega (arith, e, there)) (authored k there)
      (length-authors (log_after (meta_in script.metas k) k lines) ∙ sym (ap (λ (l : List Entry). length l) (seen k there)))))

  -- by these steps
  pub is-play-by : (play : IsPlayOf config script after closed) × (play.steps ≡ steps)
  is-play-by =
      let have = headline config script h.steps steps h.looks is exact.played ticked rows in
      let lived : HasRun p steps (row_written script) =
      record { plan = plan; steps_are = steps_are; run = stands.run; rise = have.0; versions = have.1 } in (
        record {
          earlier = h.steps;
          steps = steps;
          looks = h.looks;
          played = exact.played;
          ends = ticked;
          steps_are = steps_are;
          run = stands.run;
          lived = lived;
          tells = led.3 h.tells;
          closed_after = closed_after;
          histories = histories;
          watches = watches;
          headline = tells-all p steps (row_written script) closed lived closed_after;
        },
        refl,
      )

  pub is-play : IsPlayOf config script after closed
  is-play = is-play-by.0
