-- The lists of a crew ask for what is there, and what its parts begin with.
use Rattle.std.proofs.Common.{◌≡◌, ℕ, zero, suc, ◌+◌, ◌<◌, ◌≤◌, List, [], ◌∷◌, ◌++◌, length, map, get_or, refl, sym, ap, ◌∙◌, subst, arith, Some, Vec}
use Rattle.std.specs.Prelude.{All, Option, replicate, slice_index}
use Rattle.std.specs.declared.alloc.Global.{Global}
use Rattle.std.proofs.lemmas.List.{get_or-map, get_or-replicate, length-map}
use Rattle.std.proofs.lemmas.List.Elements.{All-nil, All-cons, All-head, All-tail}
use Rattle.dataset_meta.specs.Metas.{MetaData, no_meta}
use Rattle.row_words.specs.declared.patch.Patch.{Patch}
use Rattle.row_words.specs.Patches.{IsPatchOf}
use Rattle.version_cell.specs.Cells.{CellData}
use Rattle.version_cell.specs.Known.{Known}
use Rattle.version_cell.specs.Cells.{IsCell}
use Rattle.version_cell.specs.Passes.{shared_by}
use Rattle.version_cell.specs.Sets.{ArePassesOf, cell_at, new_passes, no_cell, pass_at}
use Rattle.version_cell.proofs.Each.{new_at, shared_own}
use Rattle.cell_bank.specs.Hands.{AreHands}
use Rattle.app_threads.specs.declared.item.Item.{Item}
use Rattle.app_threads.specs.declared.item.Item.TheVariants as items
use Rattle.app_threads.specs.declared.done.Done.{Done}
use Rattle.app_threads.specs.Items.{FitsItem, patches_in}
use Rattle.app_threads.specs.Duties.{Duty, IsDone}
use Rattle.app_threads.specs.Crews.{AreDone, AreReady, AreWithin, given_to, list_of}
use Rattle.app_threads.proofs.Starting.{ready}
use Rattle.test_threads.specs.Lists.{AreThreeItems, IsDoneOf, three_items}

list_is : (lists : List (Vec Item Global)) (first second : Patch) (t : ℕ) → All (λ list. AreThreeItems first second list.items) lists → t < length lists → AreThreeItems first second (list_of lists t)
list_is [] first second t all lt = absurd (omega arith)
list_is (list ∷ lists) first second zero all lt = All-head (λ (l : Vec Item Global). AreThreeItems first second l.items) list lists all
list_is (list ∷ lists) first second (suc t) all lt = list_is lists first second t (All-tail (λ (l : Vec Item Global). AreThreeItems first second l.items) list lists all) (omega arith)

two_for : (t : ℕ) → t < 8 → slice_index (replicate 8 2) t ≡ 2
two_for t lt = get_or-replicate 8 t 2 0 lt

one_cell : (bank : List CellData) → map (λ cell. cell.quotas) bank ≡ replicate 8 2 ∷ [] → length bank ≡ 1
one_cell bank e = sym (length-map bank (λ (cell : CellData). cell.quotas)) ∙ ap length e

pub within : (bank targets : List CellData) (lists : List (Vec Item Global)) (first second : Patch) → map (λ cell. cell.quotas) bank ≡ replicate 8 2 ∷ []
    → IsPatchOf (cell_at bank 0).meta first → IsPatchOf (cell_at bank 0).meta second → 0 < length targets → length lists ≡ 8
    → All (λ list. AreThreeItems first second list.items) lists → AreWithin bank targets lists
within bank targets lists first second quotas one two some eight all = record {
  fit = λ t lt. let is = list_is lists first second t all lt in subst (All (FitsItem bank targets)) (sym is.1) (fits is.0);
  enough = λ t set lt small.
      let zero_is : 0 ≡ set = omega (arith, small, count) in
      subst (λ (s : ℕ). length (patches_in s (list_of lists t)) ≤ slice_index (cell_at bank s).quotas t) zero_is (enough t lt);
}
  where
    count : length bank ≡ 1
    count = one_cell bank quotas

    there : 0 < length bank
    there = omega (arith, count)

    fits : (times : ℕ) → All (FitsItem bank targets) (three_items first second times)
    fits times = All-cons (FitsItem bank targets) (items.Write 0 first) (items.Write 0 second ∷ items.Watch 0 times ∷ []) (there, one)
        (All-cons (FitsItem bank targets) (items.Write 0 second) (items.Watch 0 times ∷ []) (there, two)
        (All-cons (FitsItem bank targets) (items.Watch 0 times) [] some (All-nil (FitsItem bank targets))))

    enough : (t : ℕ) → t < length lists → length (patches_in 0 (list_of lists t)) ≤ slice_index (cell_at bank 0).quotas t
    enough t lt =
        let n = ap (λ (l : List Item). length (patches_in 0 l)) (list_is lists first second t all lt).1 in
        let q = sym (get_or-map (λ (cell : CellData). cell.quotas) bank 0 no_cell [] there) ∙ ap (λ (l : List (List ℕ)). get_or l 0 []) quotas in
        let two = ap (λ (l : List ℕ). slice_index l t) q ∙ two_for t (omega (arith, lt, eight)) in
        omega (arith, n, two)

-- what a crew of such lists begins with can run
pub made_ready : (bank targets : List CellData) (hands : List (List Known)) (looks : List Known) (lists : List (Vec Item Global)) (first second : Patch) (meta : MetaData)
    → All IsCell bank → AreHands bank hands → map (λ cell. cell.quotas) bank ≡ replicate 8 2 ∷ [] → (cell_at bank 0).meta ≡ meta → IsPatchOf meta first
    → IsPatchOf meta second → ArePassesOf targets looks → 0 < length targets → length lists ≡ 8
    → All (λ list. AreThreeItems first second list.items) lists → AreReady bank targets (given_to lists hands (map shared_by looks))
made_ready bank targets hands looks lists first second meta cells are quotas is one two own some eight all =
    ready bank targets hands (map shared_by looks) lists cells are (shared_own targets looks own) eight
    (within bank targets lists first second quotas (subst (λ (m : MetaData). IsPatchOf m first) (sym is) one)
    (subst (λ (m : MetaData). IsPatchOf m second) (sym is) two) some eight all)

-- there is a cell for each meta
pub one_made : (cells : List CellData) (metas : List MetaData) → map (λ cell. cell.meta) cells ≡ metas → length metas ≡ 1 → length cells ≡ 1
one_made cells metas e n = sym (length-map cells (λ (cell : CellData). cell.meta)) ∙ ap length e ∙ n

-- the meta of the one cell
pub first_meta : (cells : List CellData) (metas : List MetaData) (meta : MetaData) → map (λ cell. cell.meta) cells ≡ metas → metas ≡ meta ∷ [] → (cell_at cells 0).meta ≡ meta
first_meta cells metas meta e is =
    let n = one_made cells metas e (ap length is) in
    sym (get_or-map (λ (cell : CellData). cell.meta) cells 0 no_cell no_meta (omega (arith, n))) ∙ ap (λ (l : List MetaData). get_or l 0 no_meta) (e ∙ is)

-- what each thread left is of the bank and the targets
pub all_done : (bank targets : List CellData) (duties : List Duty) (dones : List Done) → AreDone bank targets duties dones → All (IsDoneOf bank targets) dones
all_done bank targets duties dones h t d lt =
    let one = h.each t d (let c = h.count in omega (arith, lt, c)) in
    record { passes = one.of_bank; watches = one.of_targets }

-- a new pass of the one cell has seen no entry
pub unseen_at : (cells : List CellData) (author : Option ℕ) → length cells ≡ 1 → (pass_at (new_passes cells author) 0).seen ≡ []
unseen_at cells author n = ap (λ (p : Known). p.seen) (new_at cells author 0 (omega (arith, n)))
