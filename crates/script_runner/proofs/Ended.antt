-- A run that is closed: its histories are legal and told, and the looks of its watches are told.
use Rattle.std.proofs.Common.{◌≡◌, ℕ, zero, suc, ◌+◌, ◌<◌, ◌≤◌, List, [], ◌∷◌, length, map, get_or, sym, ap, ◌∙◌, subst, arith, Option}
use Rattle.std.specs.Prelude.{All}
use Rattle.std.specs.List.{AllZip, flat_map, range_with_len}
use Rattle.std.proofs.lemmas.List.{get_or-map, length-map, map-id}
use Rattle.std.proofs.lemmas.List.Elements.{All-map, All-nil, All-weaker}
use Rattle.std.proofs.lemmas.List.FromFn.{fill_by_all}
use lib.ListN.{get_or-map as get_or-mapped}
use Rattle.dataset_meta.specs.Metas.{MetaData, no_meta}
use Rattle.ua_base.specs.Journal.{LinkState}
use Rattle.version_cell.specs.declared.rule.Entry.{Entry}
use Rattle.version_cell.specs.Cells.{CellData}
use Rattle.version_cell.specs.Sets.{cell_at, no_cell, pass_at}
use Rattle.target_cells.specs.Keeping.{TargetsData}
use Rattle.ps_config.specs.declared.parts.Config.{Config}
use Rattle.ps_config.specs.declared.parts.ReaderPart.{ReaderPart}
use Rattle.ps_config.specs.Sound.{readers}
use Rattle.ps_report.specs.Conditions.{IsClosedOf}
use Rattle.ps_report.specs.declared.closed.Closed.{Closed}
use Rattle.ps_report.specs.declared.closed.History.{History}
use Rattle.ps_report.specs.declared.closed.WatchEnd.{WatchEnd}
use Rattle.ps_script.specs.declared.script.Script.{Script}
use Rattle.session_model.specs.Closing.{IsClosedAfter}
use Rattle.session_model.specs.Sets.{meta_in}
use Rattle.session_model.specs.Steps.{Plan, Step}
use Rattle.app_threads.specs.declared.done.Done.{Done}
use Rattle.app_threads.specs.declared.done.Looked.{Looked}
use Rattle.app_threads.specs.declared.item.Item.{Item}
use Rattle.app_threads.specs.Closing.{IsJoined}
use Rattle.app_threads.specs.Duties.{Duty, Watched, duty_at}
use Rattle.app_threads.specs.Items.{patches_in, watches_in}
use Rattle.app_threads.specs.Looks.{IsLooked, NeverFalls, counts_in}
use Rattle.app_threads.specs.Marks.{authors}
use Rattle.app_threads.proofs.Joining.{versions_are}
use Rattle.app_threads.proofs.Looking.{watched_never_falls, watched_within}
use Rattle.pubsub_engine.specs.declared.session.Session.{Session}
use Rattle.pubsub_engine.specs.Authored.{AreInOrder, AreLooksAt, IsAuthored, watch_of}
use Rattle.pubsub_engine.specs.Holding.{keeper_of, passes_of, plan_of}
use Rattle.pubsub_engine.specs.Standing.{Stands}
use Rattle.script_player.specs.Player.{stored}
use Rattle.script_player.specs.Playing.{stores_at}
use Rattle.script_player.specs.Plays.{plan_by}
use Rattle.script_player.proofs.Finished.{by-numbers, named-at}
use Rattle.script_player.proofs.Stored.{stored_is}
use Rattle.script_runner.specs.Conducting.{seen_by}
use Rattle.script_runner.specs.Ended.{HasEnded}
use Rattle.script_runner.specs.Legal.{IsLegalLog}
use Rattle.script_runner.specs.Looks.{AreLooks, AreLooksBy}
use Rattle.script_runner.proofs.Items.{watches-are}
use Rattle.script_runner.proofs.Legal.{ClosedHistoriesAreLegal, legal-log}
use Rattle.script_runner.proofs.Handing.{AreCellsOf, sets-count, spent}
use Rattle.script_runner.proofs.Looks.{each-reader, looks-there, none-falls}

-- what holds of what each thread gives, whatever stands where there is no thread
in-map : {B : Type 0} (f : Done → B) (P : B → Type 0) (none : B) (dones : List Done) (t : ℕ) → t < length dones → ((d : Done) → P (f (get_or dones t d))) → P (get_or (map f dones) t none)
in-map f P none [] t lt each = absurd (omega (arith, lt))
in-map f P none (done ∷ dones) zero lt each = each done
in-map f P none (done ∷ dones) (suc t) lt each = in-map f P none dones t (omega (arith, lt)) each

-- what a run's end makes of what the session `new` has seen, and of what is closed
pub record Ends (config : Config) (script : Script) (steps : List Step) (new : Session) (dones : List Done) (closed : Closed) : Type 0 where
  pub legal : (set : ℕ) → set < length config.dataset → IsLegalLog script set (seen_by new set)
  pub histories : map (λ history. history.threads) closed.histories ≡ map (λ set. authors (seen_by new set)) (range_with_len 0 (length config.dataset))
  pub watches : AreLooks (plan_by config script) steps script.lines closed.watches
  pub in_order : AreInOrder dones
  pub closed_of : IsClosedOf config closed

module _ (config : Config) (script : Script) (bank : List CellData) (targets : TargetsData) (duties : List Duty) (dones : List Done) (session : Session)
    (steps : List Step) (told after : Option LinkState) (closed : Closed)
    (h : HasEnded config script bank targets duties dones session steps told after closed) where
  abbrev p : Plan
  p = plan_by config script

  abbrev new : Session
  new = h.finishes.new

  old-plan : plan_of session ≡ p
  old-plan = h.stands.plan

  new-plan : plan_of new ≡ p
  new-plan = h.finishes.plan ∙ old-plan

  cells : AreCellsOf config script bank targets.cells
  cells = record {
    metas = h.bank_is.metas ∙ ap (λ (q : Plan). q.full) old-plan;
    quotas = h.duties_are.quotas;
    targets_are = targets-count;
  }
    where
      targets-count : length targets.cells ≡ length (readers config)
      targets-count =
          sym (length-map targets.cells (λ (cell : CellData). cell.meta)) ∙ ap length h.targets_are.metas
          ∙ length-map (map (λ (reader : ReaderPart). reader.dataset) (readers (plan_of session).config)) (λ (set : ℕ). get_or (plan_of session).config.dataset set no_meta)
          ∙ length-map (readers (plan_of session).config) (λ (reader : ReaderPart). reader.dataset)
          ∙ ap (λ (q : Plan). length (readers q.config)) old-plan

  count : length bank ≡ length config.dataset
  count = sets-count config script h.script_is bank targets.cells cells

  passes-count : length (passes_of new) ≡ length bank
  passes-count = h.finishes.bank_is.passes.count

  cell-meta : (set : ℕ) → (cell_at bank set).meta ≡ meta_in script.metas set
  cell-meta set = sym (get_or-mapped (λ (cell : CellData). cell.meta) bank set no_cell) ∙ ap (λ (l : List MetaData). meta_in l set) cells.metas

  -- ---- the threads

  done-count : length dones ≡ 8
  done-count = h.done.count ∙ h.duties_are.eight

  in-duties : (t : ℕ) → t < length dones → t < length duties
  in-duties t lt = let e = h.done.count in omega (arith, e, lt)

  in-eight : (t : ℕ) → t < length dones → t < 8
  in-eight t lt = let e = done-count in omega (arith, e, lt)

  pub in-order : AreInOrder dones
  in-order = record {
    few = let e = done-count in omega (arith, e);
    numbers = λ t lt d. (h.done.each t d (in-duties t lt)).list;
  }

  -- ---- the histories

  joined : (set : ℕ) → set < length bank → IsJoined bank targets.cells duties dones set (pass_at (passes_of new) set)
  joined set lt = record {
    within = lt;
    is_cell = h.duties_are.cells set no_cell lt;
    own = h.finishes.bank_is.passes.each set lt;
    lawful = h.finishes.lawful set (let e = passes-count in omega (arith, e, lt));
    few = (let e = h.duties_are.eight in omega (arith, e));
    ready = h.duties_are.ready;
    done = h.done;
    unseen = h.duties_are.unseen;
    spent = λ t low. ap (λ (l : List Item). length (patches_in set l)) (h.duties_are.lists t low) ∙ spent config script h.script_is bank targets.cells cells t set low lt;
    seen = λ t none there. h.finishes.met t set there lt none;
  }

  pub legal : ClosedHistoriesAreLegal → (set : ℕ) → set < length config.dataset → IsLegalLog script set (seen_by new set)
  legal laws set lt =
      legal-log config script bank targets.cells duties h.duties_are laws dones set (pass_at (passes_of new) set)
      (joined set (let e = count in omega (arith, e, lt))) (cell-meta set)

  authored : (set : ℕ) → set < length bank → IsAuthored set dones (authors (seen_by new set))
  authored set there = record {
    known = All-map (λ (thread : ℕ). thread < length dones) (λ (e : Entry). e.author) (seen_by new set)
        (λ k d lt. let low = ((joined set there).lawful.entries k d lt).author in let e = done-count in omega (arith, low, e));
    placed = λ t lt d.
        versions_are bank targets.cells duties dones set (pass_at (passes_of new) set) (joined set there) t d (in-duties t lt);
  }

  -- ---- the looks

  abbrev looks-of : ℕ → List Looked
  looks-of t = get_or (map (λ (done : Done). done.looks) dones) t []

  looks-at : (t : ℕ) (d : Done) → t < length dones → (get_or dones t d).looks ≡ looks-of t
  looks-at t d lt = sym (get_or-map (λ (done : Done). done.looks) dones t d [] lt)

  -- a thread's looks are those of its watches
  zipped : (t : ℕ) (d : Done) → t < length dones → AllZip IsLooked (watches_in (duty_at duties t).list) (get_or dones t d).looks
  zipped t d lt = (h.done.each t d (in-duties t lt)).looks

  there : (t : ℕ) (d : Done) → t < length dones → All (λ (looked : Looked). looked.reader < length targets.cells) (get_or dones t d).looks
  there t d lt =
      looks-there bank targets.cells (duty_at duties t).list (get_or dones t d).looks (h.duties_are.ready t (in-duties t lt)).fit (zipped t d lt)

  pub looks-within : AreLooksAt (readers config) dones
  looks-within t d lt =
      All-weaker (λ (looked : Looked). looked.reader < length targets.cells) (λ (looked : Looked). looked.reader < length (readers config))
      (λ (looked : Looked) low. let e = cells.targets_are in omega (arith, low, e)) (get_or dones t d).looks (there t d lt)

  watched : (t reader : ℕ) (d : Done) → t < length dones → reader < length targets.cells
      → Watched (pass_at (duty_at duties t).watches reader) (pass_at (get_or dones t d).watches reader) (counts_in reader (get_or dones t d).looks)
  watched t reader d lt low = (h.done.each t d (in-duties t lt)).watched reader low

  looks-by : (t : ℕ) (d : Done) → t < length dones → AreLooksBy p steps script.lines t (get_or dones t d).looks
  looks-by t d lt =
      let looks = (get_or dones t d).looks in
      record {
        watches = subst (λ (w : List (ℕ × ℕ)). AllZip IsLooked w looks)
            (ap (λ (l : List Item). watches_in l) (h.duties_are.lists t (in-eight t lt)) ∙ watches-are t script.lines) (zipped t d lt);
        rising = λ reader.
            each-reader NeverFalls (length targets.cells) reader looks none-falls
            (λ low. watched_never_falls (pass_at (duty_at duties t).watches reader) (pass_at (get_or dones t d).watches reader) (counts_in reader looks) (watched t reader d lt low))
            (there t d lt);
        counted = λ reader.
            each-reader (λ (counts : List ℕ). All (λ (n : ℕ). n ≤ stores_at p steps reader) counts) (length targets.cells) reader looks
            (All-nil (λ (n : ℕ). n ≤ stores_at p steps reader)) (counted reader)
            (there t d lt);
      }
    where
      counted : (reader : ℕ) → reader < length targets.cells → All (λ (n : ℕ). n ≤ stores_at p steps reader) (counts_in reader (get_or dones t d).looks)
      counted reader low =
          let kept = pass_at (keeper_of session) reader in
          let all : stored session reader ≡ stores_at p steps reader =
          stored_is p steps session reader h.stands (let e = cells.targets_are in omega (arith, e, low)) in
          subst (λ (m : ℕ). All (λ (n : ℕ). n ≤ m) (counts_in reader (get_or dones t d).looks)) all
          (watched_within (pass_at (duty_at duties t).watches reader) (pass_at (get_or dones t d).watches reader) kept (counts_in reader (get_or dones t d).looks) (watched t reader d lt low)
          (h.finishes.stored t reader lt low d))

  watches-told : closed.watches ≡ flat_map (λ (thread : ℕ). map (watch_of thread) (looks-of thread)) (range_with_len 0 8)
  watches-told =
      h.finishes.watches in-order
      ∙ by-numbers dones 0 g lists
      (λ k lt d. let same : k ≡ 0 + k = omega arith in
      subst (λ (t : ℕ). map (watch_of t) (get_or dones k d).looks ≡ g t) same (ap (map (watch_of k)) (looks-at k d lt)))
      ∙ ap (λ (n : ℕ). flat_map g (range_with_len 0 n)) done-count
    where
      g : ℕ → List WatchEnd
      g thread = map (watch_of thread) (looks-of thread)

      numbers : (k : ℕ) → k < length dones → get_or (map (λ (done : Done). done.list) dones) k 0 ≡ k
      numbers k lt = in-map (λ (done : Done). done.list) (λ (list : ℕ). list ≡ k) 0 dones k lt (in-order.numbers k lt)

      lists : map (λ (done : Done). done.list) dones ≡ range_with_len 0 (length dones)
      lists =
          fill_by_all (λ (n : ℕ). n) (map (λ (done : Done). done.list) dones) (length dones) 0 (length-map dones (λ (done : Done). done.list)) numbers
          ∙ map-id (range_with_len 0 (length dones))

  pub watches : AreLooks p steps script.lines closed.watches
  watches = record {
    looks = looks-of;
    of_threads = λ t lt. let here : t < length dones = (let e = done-count in omega (arith, e, lt)) in
        in-map (λ (done : Done). done.looks) (AreLooksBy p steps script.lines t) [] dones t here (λ d. looks-by t d here);
    told = watches-told;
  }

  -- ---- what is closed

  module _ (last : List Step) (stands : Stands p last new) where
    pub closed-after : IsClosedAfter p last closed
    closed-after = h.finishes.closed_after p last stands in-order

    pub closed-of : IsClosedOf config closed
    closed-of =
        subst (λ (q : Plan). IsClosedOf q.config closed) new-plan
        (h.finishes.closed_of last (subst (λ (q : Plan). Stands q last new) (sym new-plan) stands)
        (subst (λ (q : Plan). AreLooksAt (readers q.config) dones) (sym new-plan) looks-within))

    pub histories : map (λ (history : History). history.threads) closed.histories ≡ map (λ (set : ℕ). authors (seen_by new set)) (range_with_len 0 (length config.dataset))
    histories =
        fill_by_all (λ (set : ℕ). authors (seen_by new set)) (map (λ (history : History). history.threads) closed.histories) (length config.dataset) []
        (length-map closed.histories (λ (history : History). history.threads) ∙ closed-of.histories)
        (λ k lt. let here : k < length bank = (let e = count in omega (arith, e, lt)) in
        named-at closed.histories k (authors (seen_by new k))
        (h.finishes.histories in-order k (authors (seen_by new k)) (let e = passes-count in omega (arith, e, here)) (authored k here)
        (length-map (seen_by new k) (λ (e : Entry). e.author))))

    pub ends : ClosedHistoriesAreLegal → Ends config script steps new dones closed
    ends laws = record {
      legal = legal laws;
      histories = histories;
      watches = watches;
      in_order = in-order;
      closed_of = closed-of;
    }
