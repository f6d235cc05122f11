-- A joined pass has seen each thread's whole list, and no other entry.
use Rattle.std.proofs.Common.{◌≡◌, ℕ, ◌<◌, ◌≤◌, List, [], ◌∷◌, ◌++◌, length, get_or, sym, ap, ◌∙◌, subst, arith, eq-eqb, ne_eqb, cond, Bool}
use Rattle.std.specs.Prelude.{All, slice_index}
use Rattle.std.proofs.lemmas.List.{get_or-map, get_or_past, get_or_append_left, nil_from_length, length-map}
use Rattle.std.proofs.lemmas.List.Elements.{All-nil, All-cons, All-append, All-head, All-tail}
use native.Mathlib.Decide.{ℕ_discrete, dec_le}
use Rattle.row_words.specs.declared.patch.Patch.{Patch}
use Rattle.row_words.specs.Patches.{IsPatchOf}
use Rattle.row_words.specs.Shapes.{shape_of}
use Rattle.pubsub_model.specs.History.{places}
use Rattle.version_cell.specs.declared.rule.Entry.{Entry}
use Rattle.version_cell.specs.Histories.{StartsWith, own, opening_words}
use Rattle.version_cell.specs.Terms.{quota}
use Rattle.version_cell.specs.Known.{Known}
use Rattle.version_cell.specs.Cells.{CellData, IsCell, terms_of}
use Rattle.version_cell.specs.Sets.{cell_at, pass_at}
use Rattle.version_cell.proofs.Sole.{filled}
use Rattle.app_threads.specs.declared.item.Item.{Item}
use Rattle.app_threads.specs.declared.item.Item.TheVariants as items
use Rattle.app_threads.specs.declared.done.Done.{Done}
use Rattle.app_threads.specs.Marks.{Mark, marks_of, versions_of, AreLaid, authors}
use Rattle.app_threads.specs.Items.{only_at, patches_in, versions_in, FitsItem}
use Rattle.app_threads.specs.Duties.{Duty, Worked, no_duty, duty_at}
use Rattle.app_threads.specs.Closing.{IsClosed, IsJoined, lists_of}
use Rattle.app_threads.proofs.Marking.{Made-count, marks_same, length-marks}
use Rattle.app_threads.proofs.Rising.{marks-places}
use Rattle.app_threads.proofs.Legal.{get_or-mapped}

-- the patches of a list that fits are patches of the cell's meta
patches_fit : (bank targets : List CellData) (set : ℕ) (list : List Item) → All (FitsItem bank targets) list → All (IsPatchOf (cell_at bank set).meta) (patches_in set list)
patches_fit bank targets set [] h = All-nil (IsPatchOf (cell_at bank set).meta)
patches_fit bank targets set (items.Write there patch ∷ list) h =
    All-append (IsPatchOf (cell_at bank set).meta) (only_at there set patch) (patches_in set list) (go (ℕ_discrete there set)) (patches_fit bank targets set list (All-tail (FitsItem bank targets) (items.Write there patch) list h))
  where
    go : Dec (there ≡ set) → All (IsPatchOf (cell_at bank set).meta) (only_at there set patch)
    go (yes e) =
        let first = All-head (FitsItem bank targets) (items.Write there patch) list h in
        let fits = subst (λ (k : ℕ). IsPatchOf (cell_at bank k).meta patch) e first.1 in
        subst (λ (b : Bool). All (IsPatchOf (cell_at bank set).meta) (cond b (patch ∷ []) [])) (sym (eq-eqb there set e))
        (All-cons (IsPatchOf (cell_at bank set).meta) patch [] fits (All-nil (IsPatchOf (cell_at bank set).meta)))
    go (no n) =
        subst (λ (b : Bool). All (IsPatchOf (cell_at bank set).meta) (cond b (patch ∷ []) [])) (sym (ne_eqb there set n)) (All-nil (IsPatchOf (cell_at bank set).meta))
patches_fit bank targets set (items.Watch reader times ∷ list) h = patches_fit bank targets set list (All-tail (FitsItem bank targets) (items.Watch reader times) list h)

quota_at : (cell : CellData) (t : ℕ) → IsCell cell → t < 8 → quota t (terms_of cell.quotas cell.meta) ≡ slice_index cell.quotas t
quota_at cell t is lt = get_or_append_left cell.quotas (shape_of cell.meta) 0 t (let e = is.eight in omega (arith, e, lt))

some_done : (dones : List Done) → 0 < length dones → Done
some_done [] lt = absurd (omega arith)
some_done (done ∷ dones) lt = done

module _ (bank targets : List CellData) (duties : List Duty) (dones : List Done) (set : ℕ) (p : Known) (j : IsJoined bank targets duties dones set p) where
  full : (t : ℕ) → t < 8 → quota t p.terms ≡ length (patches_in set (duty_at duties t).list)
  full t lt = ap (quota t) j.own.terms ∙ quota_at (cell_at bank set) t j.is_cell lt ∙ sym (j.spent t lt)

  module _ (t : ℕ) (none : Done) (lt : t < length duties) where
    small : t < 8
    small = let f = j.few in omega (arith, lt, f)

    worked : Worked (cell_at bank set).meta.fields t (pass_at (duty_at duties t).passes set) (pass_at (get_or dones t none).passes set) (versions_in set (get_or dones t none).versions) (patches_in set (duty_at duties t).list)
    worked = (j.done.each t none lt).worked set j.within

    here : StartsWith p.seen (pass_at (get_or dones t none).passes set).seen
    here = j.seen t none (let c = j.done.count in omega (arith, lt, c))

    -- its entries fill its quota
    spent : length (own t (pass_at (get_or dones t none).passes set).seen) ≡ quota t p.terms
    spent =
        let made = Made-count (cell_at bank set).meta.fields t (pass_at (duty_at duties t).passes set).seen (pass_at (get_or dones t none).passes set).seen (versions_in set (get_or dones t none).versions) (patches_in set (duty_at duties t).list) worked.made in
        let before : length (own t (pass_at (duty_at duties t).passes set).seen) ≡ 0 = ap (λ (l : List Entry). length (own t l)) (j.unseen t set lt j.within) in
        let q = full t small in
        omega (arith, made, before, q)

    marks_are : marks_of t p.seen ≡ worked.made.marks
    marks_are =
        marks_same t (pass_at (get_or dones t none).passes set).seen p.seen here (filled p.terms p.seen (pass_at (get_or dones t none).passes set).seen t small j.lawful here spent)
        ∙ worked.made.more ∙ ap (λ (l : List Entry). marks_of t l ++ worked.made.marks) (j.unseen t set lt j.within)

    laid : AreLaid (cell_at bank set).meta.fields (marks_of t p.seen) (patches_in set (duty_at duties t).list)
    laid = subst (λ (ms : List Mark). AreLaid (cell_at bank set).meta.fields ms (patches_in set (duty_at duties t).list)) (sym marks_are) worked.made.laid

    pub versions_are : versions_in set (get_or dones t none).versions ≡ places t 0 (authors p.seen)
    versions_are = sym worked.made.versions_are ∙ ap versions_of (sym marks_are) ∙ marks-places t 0 opening_words p.seen

  list_is : (t : ℕ) → get_or (lists_of set duties) t [] ≡ patches_in set (duty_at duties t).list
  list_is t = get_or-mapped (λ (d : Duty). patches_in set d.list) duties t no_duty

  -- where there is no such thread, the number has no quota
  none_laid : (t : ℕ) → t < 8 → length duties ≤ t → AreLaid (cell_at bank set).meta.fields (marks_of t p.seen) (patches_in set (duty_at duties t).list)
  none_laid t lt le =
      let past : duty_at duties t ≡ no_duty = get_or_past duties t no_duty le in
      let count : length (patches_in set (duty_at duties t).list) ≡ 0 = ap (λ (d : Duty). length (patches_in set d.list)) past in
      let most = j.lawful.within t lt in
      let q = full t lt in
      let n = length-marks t 0 opening_words p.seen in
      let none : marks_of t p.seen ≡ [] = nil_from_length (marks_of t p.seen) (omega (arith, count, most, q, n)) in
      subst (λ (x : List Mark × Duty). AreLaid (cell_at bank set).meta.fields x.0 (patches_in set x.1.list)) (λ i. (sym none i, sym past i)) tt

  all_laid : (t : ℕ) → t < 8 → AreLaid (cell_at bank set).meta.fields (marks_of t p.seen) (get_or (lists_of set duties) t [])
  all_laid t lt = subst (AreLaid (cell_at bank set).meta.fields (marks_of t p.seen)) (sym (list_is t)) (go (dec_le (length duties) t))
    where
      go : Dec (length duties ≤ t) → AreLaid (cell_at bank set).meta.fields (marks_of t p.seen) (patches_in set (duty_at duties t).list)
      go (yes le) = none_laid t lt le
      go (no above) =
          let below : t < length duties = omega (arith, above) in
          laid t (some_done dones (let c = j.done.count in omega (arith, below, c))) below

  all_fit : All (λ list. All (IsPatchOf (cell_at bank set).meta) list) (lists_of set duties)
  all_fit t d lt =
      let below : t < length duties = omega (arith, lt, length-map duties (λ (d : Duty). patches_in set d.list)) in
      subst (λ (l : List Patch). All (IsPatchOf (cell_at bank set).meta) l) (sym (get_or-map (λ (d : Duty). patches_in set d.list) duties t no_duty d below))
      (patches_fit bank targets set (duty_at duties t).list (j.ready t below).fit)

  pub joined_closed : IsClosed (cell_at bank set) p (lists_of set duties)
  joined_closed = record {
    is_cell = j.is_cell;
    own = j.own;
    lawful = j.lawful;
    few = let n = length-map duties (λ (d : Duty). patches_in set d.list) in let f = j.few in omega (arith, n, f);
    patches = all_fit;
    laid = all_laid;
  }
