-- What the calls of a cell give to a pass of it, in the words of their contracts.
use Rattle.std.proofs.Common.{◌≡◌, ℕ, ◌+◌, ◌<◌, ◌≤◌, true, false, List, [], ◌∷◌, ◌++◌, length, take, refl, sym, ap, ◌∙◌, subst, nat_eq}
use Rattle.std.specs.Prelude.{Some, if◌then◌else◌, sum, slice_index, slice_range}
use lib.Pointwise.{pointwise}
use Rattle.crossbeam_utils.specs.Register.{Turns}
use Rattle.crossbeam_utils.specs.Seq.{cell_view, IsSamePass}
use Rattle.row_words.specs.declared.patch.Patch.{Patch}
use Rattle.row_words.specs.Belonging.{Belongs}
use Rattle.row_words.specs.Patches.{IsPatchOf, patched_words}
use Rattle.row_words.specs.Shapes.{BelongsTo}
use Rattle.version_cell.specs.declared.cell.Cell.TheInside.{Inside as CellInside}
use Rattle.version_cell.specs.declared.cell.Wrote.TheVariants as wrote
use Rattle.version_cell.specs.declared.pass.Pass.TheInside.{Inside}
use Rattle.version_cell.specs.declared.rule.View.{View}
use Rattle.version_cell.specs.Histories.{entry, longer, row_after}
use Rattle.version_cell.specs.Terms.{quota, shape_in}
use Rattle.version_cell.specs.Views.{joined, view}
use Rattle.version_cell.specs.Rule.{Kept, spell}
use Rattle.version_cell.specs.Steps.{Closes, Reads, Tries}
use Rattle.version_cell.specs.Known.{Known}
use Rattle.version_cell.specs.Widths.{StandsIn}
use Rattle.version_cell.specs.Strips.{table_of}
use Rattle.version_cell.specs.Front.{IsFront, known_by, terms_in}
use Rattle.version_cell.specs.Cells.{CellData}
use Rattle.version_cell.specs.CellFields.{HasTerms, cell_by}
use Rattle.version_cell.specs.Passes.{Adds, HasLeft, IsPassOf, Joins, SeesLawful, SeesMore, Tried, row_with}
use Rattle.version_cell.proofs.CellLaws.{RowLaws, name_here, terms_known, front_belongs, front_laid}
use Rattle.version_cell.proofs.Fronts.{may_write, has_left, wrote, front_after_write, adds, front_after_load, sees_more, rose, version_below, is_lawful, front_after_join, joins}
use Rattle.version_cell.proofs.Widths.{row_stands}

-- a cell and a pass of it, by their fields
module _ (c : CellInside) (h : HasTerms c) (cell : CellData) (cell_is : cell_by c ≡ cell) (p : Inside) (f : IsFront p) (old : Known) (old_is : known_by p ≡ old) (own : IsPassOf cell old) where
  pub same_name : p.place.table_id ≡ table_of c.words
  same_name = ap (λ (k : Known). k.cell) old_is ∙ name_here c h cell cell_is old own

  pub same_terms : terms_in (cell_view p.place).terms ≡ c.terms
  same_terms = ap (λ (k : Known). k.terms) old_is ∙ terms_known c h cell cell_is old own

  pub version_in : p.version ≤ sum (take 8 c.terms)
  version_in = version_below p c.terms f same_terms

  pub row_fits : RowLaws → Belongs c.meta p.row.words
  row_fits laws = front_belongs laws c.meta c.terms h.meta h.shape p f same_terms

  -- the row of its front with a patch laid in
  module _ (patch : Patch) (of : IsPatchOf cell.meta patch) where
    pub is_patch : IsPatchOf c.meta patch
    is_patch = subst (λ (d : CellData). IsPatchOf d.meta patch) (sym cell_is) of

    module _ (laws : RowLaws) (t : ℕ) (row front next : List ℕ) (named : p.author ≡ Some t) (below : p.made < quota t c.terms) (laid : row ≡ patched_words c.meta.fields patch p.row.words)
        (is_front : front ≡ spell p.version 8 p.row.words c.terms) (is_next : next ≡ spell (p.version + 1) 8 row c.terms) where
      fits : BelongsTo (shape_in c.terms) row
      fits = subst (BelongsTo (shape_in c.terms)) (sym laid) (front_laid laws c.meta c.terms h.meta h.shape p f same_terms patch is_patch)

      row_is : row ≡ row_with cell patch old
      row_is = laid ∙ (λ i. patched_words (cell_is i).meta.fields patch (f.row i)) ∙ ap (row_with cell patch) old_is

      left : HasLeft old
      left = subst HasLeft old_is (has_left p c.terms f same_terms t row front next named fits below is_front is_next)

      pub front_stands : StandsIn (table_of c.words) front
      front_stands = row_stands c h p.version p.row.words front (row_fits laws) is_front

      pub next_stands : StandsIn (table_of c.words) next
      next_stands = row_stands c h (p.version + 1) row next ((laws.by_shape c.meta row h.meta).0 (subst (λ (s : List ℕ). BelongsTo s row) h.shape fits)) is_next

      pub may_exchange : (place : ℕ) → Turns Kept place (cell_view p.place) (λ x. if pointwise nat_eq x front then next else x) Tries
      may_exchange = may_write p c.terms f same_terms t row front next named fits below is_front is_next

      -- an exchange that won
      module _ (p' : Inside) (x : List ℕ) (same : pointwise nat_eq x front ≡ true) (told : Tries (cell_view p.place) x next (cell_view p'.place)) where
        after : cell_view p'.place ≡ view ((cell_view p.place).seen ++ entry t row ∷ []) (cell_view p.place).author (cell_view p.place).count (cell_view p.place).terms (cell_view p.place).olds
        after = wrote p c.terms f same_terms t row front next named fits below is_front is_next x (cell_view p'.place) same told

        pub front_won : p'.version ≡ p.version + 1 → p'.row.words ≡ row → p'.author ≡ p.author → p'.made ≡ p.made + 1 → IsFront p'
        front_won = front_after_write p c.terms f same_terms t row front next named fits below is_front is_next p' after

        pub tried_won : p'.version ≡ p.version + 1 → p'.row.words ≡ row → p'.author ≡ p.author → p'.made ≡ p.made + 1 → IsSamePass p.place p'.place → Tried cell patch old (known_by p') (wrote.Wrote p'.version)
        tried_won ev er ea em kept =
            let added = adds p c.terms f same_terms t row front next named fits below is_front is_next p' after kept in
            (left, subst (λ (k : Known × List ℕ). Adds k.0 (known_by p') k.1) (λ i. (old_is i, row_is i)) added, (front_won ev er ea em).version)

        pub lawful_won : p'.version ≡ p.version + 1 → p'.row.words ≡ row → p'.author ≡ p.author → p'.made ≡ p.made + 1 → SeesLawful (known_by p')
        lawful_won ev er ea em = is_lawful p' (front_won ev er ea em)

      -- an exchange that lost
      module _ (p' : Inside) (x : List ℕ) (other : pointwise nat_eq x front ≡ false) (told : Tries (cell_view p.place) x x (cell_view p'.place)) where
        read : Reads (cell_view p.place) x x (cell_view p'.place)
        read = told.0 refl

        pub front_lost : p'.version ≡ slice_index x 0 → p'.row.words ≡ slice_range x 26 151 → p'.author ≡ p.author → p'.made ≡ p.made → IsFront p'
        front_lost = front_after_load p p' x x f read

        pub tried_lost : p'.version ≡ slice_index x 0 → p'.row.words ≡ slice_range x 26 151 → p'.author ≡ p.author → p'.made ≡ p.made → IsSamePass p.place p'.place → Tried cell patch old (known_by p') (wrote.Moved p'.version)
        tried_lost ev er ea em kept =
            let more = sees_more p p' x x f read kept in
            let up = rose p c.terms f same_terms t row front next named fits below is_front is_next x (cell_view p'.place) other read in
            (left, subst (λ (k : Known). SeesMore k (known_by p')) old_is more, subst (λ (k : Known). length k.seen < length (cell_view p'.place).seen) old_is up, (front_lost ev er ea em).version)

  -- the pass takes in another of the cell
  module _ (o : Inside) (g : IsFront o) (other : Known) (other_is : known_by o ≡ other) (own_other : IsPassOf cell other) where
    pub other_name : o.place.table_id ≡ table_of c.words
    other_name = ap (λ (k : Known). k.cell) other_is ∙ name_here c h cell cell_is other own_other

    other_terms : terms_in (cell_view o.place).terms ≡ c.terms
    other_terms = ap (λ (k : Known). k.terms) other_is ∙ terms_known c h cell cell_is other own_other

    module _ (p' : Inside) (j : View) (x : List ℕ) (j_is : j ≡ joined (cell_view p.place) (cell_view o.place)) (closed : Closes j x x (cell_view p'.place)) where
      pub front_joined : p'.version ≡ length (longer (cell_view p.place).seen (cell_view o.place).seen) → p'.row.words ≡ row_after (longer (cell_view p.place).seen (cell_view o.place).seen)
          → p'.author ≡ p.author → p'.made ≡ p.made → IsFront p'
      front_joined = front_after_join p o p' c.terms f g same_terms other_terms j x j_is closed

      pub joined_by : IsSamePass p.place p'.place → Joins old other (known_by p')
      joined_by kept = subst (λ (k : Known × Known). Joins k.0 k.1 (known_by p')) (λ i. (old_is i, other_is i)) (joins p o p' c.terms f g same_terms other_terms j x j_is closed kept)
