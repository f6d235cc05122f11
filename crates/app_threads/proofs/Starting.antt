-- The duties of a crew, and new hands that may run them.
use Rattle.std.proofs.Common.{◌≡◌, ℕ, zero, suc, ◌+◌, ◌<◌, ◌≤◌, List, [], ◌∷◌, ◌++◌, length, take, drop, get_or, refl, sym, ap, ◌∙◌, subst, arith, Some, Vec}
use Rattle.std.specs.Prelude.{All, slice_index}
use Rattle.std.specs.declared.alloc.Global.{Global}
use Rattle.std.proofs.lemmas.List.{append-nil, drop_all, get_or-map, get_or_append_left, get_or_push, take_all}
use native.Mathlib.Decide.{ℕ_discrete}
use Rattle.row_words.specs.Shapes.{shape_of}
use Rattle.version_cell.specs.Histories.{own}
use Rattle.version_cell.specs.Terms.{quota}
use Rattle.version_cell.specs.Known.{Known}
use Rattle.version_cell.specs.Cells.{CellData, IsCell, terms_of}
use Rattle.version_cell.specs.Sets.{ArePassesOf, cell_at, pass_at, new_passes, no_cell}
use Rattle.version_cell.proofs.Each.{new_at, new_own}
use Rattle.cell_bank.specs.Hands.{AreHands}
use Rattle.app_threads.specs.declared.item.Item.{Item}
use Rattle.app_threads.specs.declared.done.Done.{Done}
use Rattle.app_threads.specs.Items.{patches_in}
use Rattle.app_threads.specs.Duties.{Duty, CanRun, IsDone, duty_at, begun_with}
use Rattle.app_threads.specs.Crews.{duties_of, given_to, list_of, AreReady, AreUnseen, AreDone, AreWithin, AreFresh, AreAtStart, AreAtEnd}

-- the duty of a thread
pub duty_of-begun : (lists : List (Vec Item Global)) (dones : List Done) (t : ℕ) (none : Done) → t < length lists → t < length dones → duty_at (duties_of lists dones) t ≡ begun_with (list_of lists t) (get_or dones t none)
duty_of-begun [] dones t none lt lt' = absurd (omega arith)
duty_of-begun (list ∷ lists) [] t none lt lt' = absurd (omega arith)
duty_of-begun (list ∷ lists) (done ∷ dones) zero none lt lt' = refl
duty_of-begun (list ∷ lists) (done ∷ dones) (suc t) none lt lt' = duty_of-begun lists dones t none (omega arith) (omega arith)

pub length-duties : (lists : List (Vec Item Global)) (dones : List Done) → length dones ≡ length lists → length (duties_of lists dones) ≡ length lists
length-duties [] dones e = refl
length-duties (list ∷ lists) [] e = absurd (omega arith)
length-duties (list ∷ lists) (done ∷ dones) e = ap suc (length-duties lists dones (omega arith))

given_at : (lists : List (Vec Item Global)) (hands : List (List Known)) (watches : List Known) (t : ℕ) → t < length lists → t < length hands
    → duty_at (given_to lists hands watches) t ≡ record { list = list_of lists t; passes = get_or hands t []; watches = watches }
given_at [] hands watches t lt lt' = absurd (omega arith)
given_at (list ∷ lists) [] watches t lt lt' = absurd (omega arith)
given_at (list ∷ lists) (passes ∷ hands) watches zero lt lt' = refl
given_at (list ∷ lists) (passes ∷ hands) watches (suc t) lt lt' = given_at lists hands watches t (omega arith) (omega arith)

length-given : (lists : List (Vec Item Global)) (hands : List (List Known)) (watches : List Known) → length (given_to lists hands watches) ≤ length lists
length-given [] hands watches = omega arith
length-given (list ∷ lists) [] watches = omega arith
length-given (list ∷ lists) (passes ∷ hands) watches = let a = length-given lists hands watches in omega arith

pub ready : (bank targets : List CellData) (hands : List (List Known)) (watches : List Known) (lists : List (Vec Item Global)) → All IsCell bank
    → AreHands bank hands → ArePassesOf targets watches → length lists ≡ 8 → AreWithin bank targets lists → AreReady bank targets (given_to lists hands watches)
ready bank targets hands watches lists cells are looks eight within t lt = subst (CanRun bank targets t) (sym is) (record {
  of_bank = new_own bank (Some t);
  of_targets = looks;
  numbered = λ set small. ap (λ (p : Known). p.author) (new_at bank (Some t) set small);
  enough = λ set small. subst (λ (p : Known). length (own t p.seen) + length (patches_in set (list_of lists t)) ≤ quota t p.terms) (sym (new_at bank (Some t) set small)) (enough set small);
  fit = within.fit t below;
})
  where
    below : t < length lists
    below = let a = length-given lists hands watches in omega (arith, a, lt)

    below_eight : t < 8
    below_eight = let a = below in omega (arith, a, eight)

    is : duty_at (given_to lists hands watches) t ≡ record { list = list_of lists t; passes = new_passes bank (Some t); watches = watches }
    is = given_at lists hands watches t below (let a = below_eight in let e = are.eight in omega (arith, a, e)) ∙ ap (λ (passes : List Known). record { list = list_of lists t; passes = passes; watches = watches }) (are.each t below_eight)

    enough : (set : ℕ) → set < length bank → 0 + length (patches_in set (list_of lists t)) ≤ quota t (terms_of (cell_at bank set).quotas (cell_at bank set).meta)
    enough set small =
        let room = within.enough t set below small in
        let e = (cells set no_cell small).eight in
        let q : quota t (terms_of (cell_at bank set).quotas (cell_at bank set).meta) ≡ slice_index (cell_at bank set).quotas t =
        get_or_append_left (cell_at bank set).quotas (shape_of (cell_at bank set).meta) 0 t (let a = below_eight in omega (arith, a, e)) in
        omega (arith, room, q)

pub unseen : (bank : List CellData) (hands : List (List Known)) (watches : List Known) (lists : List (Vec Item Global)) → AreHands bank hands → length lists ≡ 8 → AreUnseen bank (given_to lists hands watches)
unseen bank hands watches lists are eight t set lt small =
    let a = length-given lists hands watches in
    let below : t < length lists = omega (arith, a, lt) in
    let below_eight : t < 8 = omega (arith, below, eight) in
    let e = are.eight in
    let is = given_at lists hands watches t below (omega (arith, below_eight, e)) in
    ap (λ (d : Duty). (pass_at d.passes set).seen) is ∙ ap (λ (passes : List Known). (pass_at passes set).seen) (are.each t below_eight)
    ∙ ap (λ (p : Known). p.seen) (new_at bank (Some t) set small)

-- the duties that are given are those that the threads begin with
pub same_duties : (lists : List (Vec Item Global)) (dones : List Done) (hands : List (List Known)) (watches : List Known) → length dones ≡ length lists → length hands ≡ length lists
    → ((t : ℕ) (none : Done) → t < length lists → ((get_or dones t none).passes ≡ get_or hands t []) × ((get_or dones t none).watches ≡ watches))
    → duties_of lists dones ≡ given_to lists hands watches
same_duties [] dones hands watches e e' h = refl
same_duties (list ∷ lists) [] hands watches e e' h = absurd (omega arith)
same_duties (list ∷ lists) (done ∷ dones) [] watches e e' h = absurd (omega arith)
same_duties (list ∷ lists) (done ∷ dones) (passes ∷ hands) watches e e' h =
    let first = h 0 done (omega arith) in
    let rest = same_duties lists dones hands watches (omega arith) (omega arith) (λ t none lt. h (suc t) none (omega arith)) in
    λ i. record { list = list.items; passes = first.0 i; watches = first.1 i } ∷ rest i

-- a crew whose threads may run
pub at_start : (bank targets : List CellData) (lists : List (Vec Item Global)) (dones : List Done) → AreFresh lists dones → AreReady bank targets (duties_of lists dones) → AreAtStart bank targets lists dones
at_start bank targets lists dones fresh ready = record {
  count = fresh.count;
  each = λ t none lt.
      let c = fresh.count in
      let within : t < length lists = omega (arith, lt, c) in
      let n = length-duties lists dones c in
      record {
        fresh = fresh.each t none within;
        can_run = subst (CanRun bank targets t) (duty_of-begun lists dones t none within lt) (ready t (omega (arith, within, n)));
      };
}

-- and what they leave
pub at_end : (bank targets : List CellData) (lists : List (Vec Item Global)) (old new : List Done) → length old ≡ length lists → length new ≡ length old → AreAtEnd bank targets lists old new
    → AreDone bank targets (duties_of lists old) new
at_end bank targets lists old new count same done = record {
  count = same ∙ count ∙ sym (length-duties lists old count);
  each = λ t none lt.
      let n = length-duties lists old count in
      let within : t < length lists = omega (arith, lt, n) in
      let within' : t < length old = omega (arith, within, count) in
      subst (λ (d : Duty). IsDone bank targets t d (get_or new t none)) (sym (duty_of-begun lists old t none within within')) (done t none within');
}

-- where nothing is left, all have been taken
pub all_left : {A : Type 0} (xs rest : List A) (t : ℕ) → drop t xs ≡ rest → length rest ≡ 0 → length xs ≤ t
all_left [] rest t e n = omega arith
all_left (x ∷ xs) rest zero e n = absurd (let c = ap length e in omega (arith, c, n))
all_left (x ∷ xs) rest (suc t) e n = let r = all_left xs rest t e n in omega (arith, r)

-- what is written back to a list of the same length
pub written_back : {A : Type 0} (len : ℕ) (new old : List A) → length new ≡ length old → length old ≡ len → take len (new ++ drop (length new) old) ≡ new
written_back {A} len new old same count =
    let gone : drop (length new) old ≡ [] = drop_all (length new) old (omega (arith, same)) in
    ap (λ (l : List A). take len (new ++ l)) gone ∙ ap (take len) (append-nil new) ∙ take_all len new (omega (arith, same, count))

-- one more of what holds of each
pub push_each : {A : Type 0} (P : ℕ → A → Type 0) (xs ys : List A) (y : A) (t : ℕ) → length xs ≡ t → ys ≡ xs ++ y ∷ [] → ((s : ℕ) (none : A) → s < t → P s (get_or xs s none)) → P t y
    → (s : ℕ) (none : A) → s < t + 1 → P s (get_or ys s none)
push_each {A} P xs ys y t count is each here s none lt = go (ℕ_discrete s t)
  where
    go : Dec (s ≡ t) → P s (get_or ys s none)
    go (yes e) =
        let last : get_or ys s none ≡ y = ap (λ (l : List A). get_or l s none) is ∙ get_or_push xs y none s (count ∙ sym e) in
        subst (P s) (sym last) (subst (λ (j : ℕ). P j y) (sym e) here)
    go (no n) =
        let below : s < length xs = omega (arith, count, lt, n) in
        let old : get_or ys s none ≡ get_or xs s none = ap (λ (l : List A). get_or l s none) is ∙ get_or_append_left xs (y ∷ []) none s below in
        subst (P s) (sym old) (each s none (omega (arith, below, count)))

pub list_at : (lists : List (Vec Item Global)) (t : ℕ) (one : Vec Item Global) → t < length lists → one ≡ get_or lists t one → list_of lists t ≡ one.items
list_at lists t one lt e = get_or-map (λ (l : Vec Item Global). l.items) lists t one [] lt ∙ ap (λ (l : Vec Item Global). l.items) (sym e)
