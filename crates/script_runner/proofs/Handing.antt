-- What the threads of a script ask for is there, and a new crew with their lists may run.
use Rattle.std.proofs.Common.{◌≡◌, ℕ, zero, suc, ◌<◌, ◌^◌, ◌==◌, Bool, true, false, cond, List, [], ◌∷◌, length, map, get_or, refl, sym, ap, ◌∙◌, subst, arith, Vec, vec_len}
use Rattle.std.specs.Prelude.{All, slice_index, take}
use Rattle.std.specs.List.{range_with_len}
use Rattle.std.specs.declared.alloc.Global.{Global}
use Rattle.std.proofs.lemmas.List.{get_or-map, length-map}
use Rattle.std.proofs.lemmas.List.Elements.{All-cons, All-nil}
use Rattle.std.proofs.lemmas.List.FromFn.{get_or-map-range_with_len}
use lib.ListN.{get_or-map as get_or-mapped}
use Rattle.dataset_meta.specs.Metas.{MetaData, no_meta}
use Rattle.row_words.specs.Patches.{IsPatchOf}
use Rattle.version_cell.specs.Cells.{CellData, IsCell}
use Rattle.version_cell.specs.Known.{Known}
use Rattle.version_cell.specs.Sets.{ArePassesOf, cell_at, no_cell}
use Rattle.cell_bank.specs.Hands.{AreHands}
use Rattle.app_threads.specs.declared.item.Item.{Item}
use Rattle.app_threads.specs.declared.item.Item.TheVariants as items
use Rattle.app_threads.specs.Duties.{duty_at}
use Rattle.app_threads.specs.Items.{FitsItem, patches_in}
use Rattle.app_threads.specs.Crews.{AreWithin, given_to, list_of}
use Rattle.app_threads.proofs.Starting.{ready, unseen}
use Rattle.ps_config.specs.declared.parts.Config.{Config}
use Rattle.ps_config.specs.Sound.{readers}
use Rattle.ps_script.specs.declared.script.Act.{Act}
use Rattle.ps_script.specs.declared.script.Act.TheVariants as act
use Rattle.ps_script.specs.declared.script.Line.{Line}
use Rattle.ps_script.specs.declared.script.Script.{Script}
use Rattle.ps_script.specs.Sessions.{writes_in}
use Rattle.ps_script.specs.Sound.{IsAct, IsScript}
use Rattle.script_player.specs.Sizes.{quotas_by}
use Rattle.script_runner.specs.Ended.{AreDutiesOf}
use Rattle.script_runner.specs.Lists.{item_by, items_by}
use Rattle.script_runner.proofs.Items.{items-all, items-few, patches-are, patches-count}

-- the cells and the targets of a session of the script
pub record AreCellsOf (config : Config) (script : Script) (bank targets : List CellData) : Type 0 where
  pub metas : map (λ cell. cell.meta) bank ≡ script.metas
  pub quotas : map (λ cell. cell.quotas) bank ≡ quotas_by (length config.dataset) script.lines
  pub targets_are : length targets ≡ length (readers config)

module _ (config : Config) (script : Script) (is : IsScript config script) (bank targets : List CellData) (are : AreCellsOf config script bank targets) where
  pub cells-count : length bank ≡ length script.metas
  cells-count = sym (length-map bank (λ (cell : CellData). cell.meta)) ∙ ap length are.metas

  pub sets-count : length bank ≡ length config.dataset
  sets-count = cells-count ∙ is.sets

  pub quotas-at : (set : ℕ) → set < length bank → (cell_at bank set).quotas ≡ map (λ (thread : ℕ). writes_in thread set script.lines) (range_with_len 0 8)
  quotas-at set lt =
      sym (get_or-mapped (λ (cell : CellData). cell.quotas) bank set no_cell)
      ∙ ap (λ (l : List (List ℕ)). get_or l set []) are.quotas
      ∙ get_or-map-range_with_len (λ (s : ℕ). map (λ (thread : ℕ). writes_in thread s script.lines) (range_with_len 0 8)) 0 (length config.dataset) set set []
      (let e = sets-count in omega (arith, e, lt)) (omega arith)

  pub quota-at : (thread set : ℕ) → thread < 8 → set < length bank → slice_index (cell_at bank set).quotas thread ≡ writes_in thread set script.lines
  quota-at thread set low lt =
      ap (λ (l : List ℕ). slice_index l thread) (quotas-at set lt)
      ∙ get_or-map-range_with_len (λ (t : ℕ). writes_in t set script.lines) 0 8 thread thread 0 low (omega arith)

  -- a thread's writes of a data set spend its quota
  pub spent : (thread set : ℕ) → thread < 8 → set < length bank → length (patches_in set (items_by thread script.lines)) ≡ slice_index (cell_at bank set).quotas thread
  spent thread set low lt = ap length (patches-are thread set script.lines) ∙ patches-count thread set script.lines ∙ sym (quota-at thread set low lt)

  act-fits : (thread : ℕ) (before : List Line) (a : Act) → IsAct config script.metas before a → All (FitsItem bank targets) (item_by thread a)
  act-fits thread before (act.Write writer set patch) fits = go (writer == thread)
    where
      there : set < length bank
      there = let lt = fits.there in let e = cells-count in omega (arith, lt, e)

      of-cell : IsPatchOf (cell_at bank set).meta patch
      of-cell =
          subst (λ (m : MetaData). IsPatchOf m patch)
          (sym (sym (get_or-map (λ (cell : CellData). cell.meta) bank set no_cell no_meta there) ∙ ap (λ (l : List MetaData). get_or l set no_meta) are.metas)) (fits.of no_meta)

      go : (b : Bool) → All (FitsItem bank targets) (cond b (items.Write set patch ∷ []) [])
      go true = All-cons (FitsItem bank targets) (items.Write set patch) [] (there, of-cell) (All-nil (FitsItem bank targets))
      go false = All-nil (FitsItem bank targets)
  act-fits thread before (act.Watch watcher reader times) fits = go (watcher == thread)
    where
      there : reader < length targets
      there = let lt = fits.there in let e = are.targets_are in omega (arith, lt, e)

      go : (b : Bool) → All (FitsItem bank targets) (cond b (items.Watch reader times ∷ []) [])
      go true = All-cons (FitsItem bank targets) (items.Watch reader times) [] there (All-nil (FitsItem bank targets))
      go false = All-nil (FitsItem bank targets)
  act-fits thread before (act.Tick ms) fits = All-nil (FitsItem bank targets)
  act-fits thread before (act.Enable id) fits = All-nil (FitsItem bank targets)
  act-fits thread before (act.Disable id) fits = All-nil (FitsItem bank targets)
  act-fits thread before (act.Fated k fate) fits = All-nil (FitsItem bank targets)
  act-fits thread before (act.Append other) fits = All-nil (FitsItem bank targets)

  pub items-fit : (thread : ℕ) → All (FitsItem bank targets) (items_by thread script.lines)
  items-fit thread = items-all (FitsItem bank targets) thread script.lines (λ k line at. act-fits thread (take k script.lines) line.act (is.acts k line at))

  -- ---- the lists of the eight threads

  module _ (lists : List (Vec Item Global)) (eight : length lists ≡ 8) (each : (thread : ℕ) → thread < 8 → list_of lists thread ≡ items_by thread script.lines) where
    low : (t : ℕ) → t < length lists → t < 8
    low t lt = omega (arith, lt, eight)

    pub lists-within : AreWithin bank targets lists
    lists-within = record {
      fit = λ t lt. subst (All (FitsItem bank targets)) (sym (each t (low t lt))) (items-fit t);
      enough = λ t set lt small.
          let here = ap (λ (l : List Item). length (patches_in set l)) (each t (low t lt)) in
          let all = spent t set (low t lt) small in
          omega (arith, here, all);
    }

    -- no list is longer than a thread can count
    pub lists-short : All (λ (list : Vec Item Global). vec_len list < 2 ^ 32) lists
    lists-short k d lt =
        let list = get_or lists k d in
        let here : length list.items ≡ length (list_of lists k) = ap length (sym (get_or-map (λ (l : Vec Item Global). l.items) lists k d [] lt)) in
        let by = ap (λ (l : List Item). length l) (each k (low k lt)) in
        let few = items-few k script.lines in
        let writes = is.few.writes in
        let watches = is.few.watches in
        let long = list.ok.0 in
        omega (arith, here, by, few, writes, watches, long)

    pub given-duties : (hands : List (List Known)) (watches : List Known) → All IsCell bank → AreHands bank hands → ArePassesOf targets watches
        → AreDutiesOf config script bank targets (given_to lists hands watches)
    given-duties hands watches cells are-hands own = record {
      cells = cells;
      quotas = are.quotas;
      eight = given-count lists hands watches (eight ∙ sym are-hands.eight) ∙ eight;
      lists = λ t lt. given-list lists hands watches t (omega (arith, lt, eight)) (let e = are-hands.eight in omega (arith, lt, e)) ∙ each t lt;
      ready = ready bank targets hands watches lists cells are-hands own eight lists-within;
      unseen = unseen bank hands watches lists are-hands eight;
    }
      where
        given-count : (ls : List (Vec Item Global)) (hs : List (List Known)) (ws : List Known) → length ls ≡ length hs → length (given_to ls hs ws) ≡ length ls
        given-count [] hs ws e = omega arith
        given-count (l ∷ ls) [] ws e = absurd (omega (arith, e))
        given-count (l ∷ ls) (h ∷ hs) ws e = let rest = given-count ls hs ws (omega (arith, e)) in omega (arith, rest)

        given-list : (ls : List (Vec Item Global)) (hs : List (List Known)) (ws : List Known) (t : ℕ) → t < length ls → t < length hs
            → (duty_at (given_to ls hs ws) t).list ≡ list_of ls t
        given-list [] hs ws t lt lt' = absurd (omega (arith, lt))
        given-list (l ∷ ls) [] ws t lt lt' = absurd (omega (arith, lt'))
        given-list (l ∷ ls) (h ∷ hs) ws zero lt lt' = refl
        given-list (l ∷ ls) (h ∷ hs) ws (suc t) lt lt' = given-list ls hs ws t (omega (arith, lt)) (omega (arith, lt'))
