-- What the fields of a cell give, and what they are to a pass of it.
use Rattle.std.proofs.Common.{◌≡◌, ℕ, ◌+◌, ◌<◌, ◌≤◌, List, [], ◌∷◌, ◌++◌, length, take, drop, sym, ap, ◌∙◌, subst, arith, length-take-le, take-append-drop}
use Rattle.std.specs.Prelude.{◌↔◌, ◌^◌, All, replicate, sum}
use Rattle.std.proofs.Math.Seq.{take-append_seam, drop-append_seam}
use Rattle.std.proofs.lemmas.List.Elements.{All-tail, All-head}
use Rattle.crossbeam_utils.specs.Seq.{cell_view}
use Rattle.dataset_meta.specs.Metas.{MetaData, IsMeta}
use Rattle.row_words.specs.declared.patch.Patch.{Patch}
use Rattle.row_words.specs.Belonging.{Belongs}
use Rattle.row_words.specs.Patches.{IsPatchOf, patched_words}
use Rattle.row_words.specs.Shapes.{BelongsTo, shape_of}
use Rattle.version_cell.specs.declared.cell.Cell.TheInside.{Inside as CellInside}
use Rattle.version_cell.specs.declared.pass.Pass.TheInside.{Inside}
use Rattle.version_cell.specs.declared.rule.Entry.{Entry}
use Rattle.version_cell.specs.Histories.{last_words, opening_words, row_after}
use Rattle.version_cell.specs.Terms.{IsEntry, IsLawful, shape_in}
use Rattle.version_cell.specs.Rule.{spell}
use Rattle.version_cell.specs.Known.{Known}
use Rattle.version_cell.specs.Widths.{row_width}
use Rattle.version_cell.specs.Strips.{table_of}
use Rattle.version_cell.specs.Front.{IsFront, terms_in}
use Rattle.version_cell.specs.Cells.{CellData, IsCell, terms_of}
use Rattle.version_cell.specs.CellFields.{HasTerms, cell_by}
use Rattle.version_cell.specs.Passes.{IsPassOf}

pub opening_is : (words : List ℕ) → words ≡ replicate 125 0 → words ≡ opening_words
unfolding opening_words
opening_is words e = e

-- the words of a cell with no entries
pub spelled_anew : (row : List ℕ) (given : ℕ) (terms words : List ℕ) → row ≡ replicate 125 0 → words ≡ spell 0 given row terms → words ≡ spell 0 given opening_words terms
spelled_anew row given terms words zeros is = is ∙ ap (λ l. spell 0 given l terms) (opening_is row zeros)

pub terms_here : (c : CellInside) → HasTerms c → terms_of (cell_by c).quotas (cell_by c).meta ≡ c.terms
terms_here c h = ap (λ l. take 8 c.terms ++ l) (sym h.shape) ∙ take-append-drop 8 c.terms

pub quotas_here : (terms quotas shape : List ℕ) → terms ≡ quotas ++ shape → length quotas ≡ 8 → take 8 terms ≡ quotas
quotas_here terms quotas shape is eight = ap (take 8) is ∙ ap (λ (n : ℕ). take n (quotas ++ shape)) (sym eight) ∙ take-append_seam quotas shape

pub has_terms : (c : CellInside) (quotas : List ℕ) (meta : MetaData) → c.terms ≡ quotas ++ shape_of meta → c.meta ≡ meta → length quotas ≡ 8 → length c.terms ≡ 24 → sum quotas < 2 ^ 63 → IsMeta meta.fields → row_width meta + 27 ≤ (table_of c.words).words → HasTerms c
has_terms c quotas meta is same eight wide small is_meta room = record {
  wide = wide;
  shape = ap (drop 8) is ∙ ap (λ (n : ℕ). drop n (quotas ++ shape_of meta)) (sym eight) ∙ drop-append_seam quotas (shape_of meta) ∙ ap shape_of (sym same);
  small = subst (λ (qs : List ℕ). sum qs < 2 ^ 63) (sym (quotas_here c.terms quotas (shape_of meta) is eight)) small;
  meta = subst (λ (m : MetaData). IsMeta m.fields) (sym same) is_meta;
  room = subst (λ (m : MetaData). row_width m + 27 ≤ (table_of c.words).words) (sym same) room;
}

pub room_of : (row width words : ℕ) → row ≡ width → row + 27 ≤ words → width + 27 ≤ words
room_of row width words same room = omega (arith, same, room)

pub is_cell : (c : CellInside) → HasTerms c → IsCell (cell_by c)
is_cell c h = record { eight = length-take-le 8 c.terms (omega (arith, h.wide)); small = h.small; meta = h.meta }

-- a pass of the cell
module _ (c : CellInside) (h : HasTerms c) (cell : CellData) (is : cell_by c ≡ cell) (p : Known) (own : IsPassOf cell p) where
  pub name_here : p.cell ≡ table_of c.words
  name_here = own.name ∙ ap (λ (d : CellData). d.id) (sym is)

  pub terms_known : p.terms ≡ c.terms
  terms_known = own.terms ∙ ap (λ (d : CellData). terms_of d.quotas d.meta) (sym is) ∙ terms_here c h

last_belongs : (terms row : List ℕ) (log : List Entry) → BelongsTo (shape_in terms) row → All (IsEntry 8 terms) log → BelongsTo (shape_in terms) (last_words row log)
last_belongs terms row [] here h = here
last_belongs terms row (e ∷ log) here h = last_belongs terms e.row log (All-head (IsEntry 8 terms) e log h).row (All-tail (IsEntry 8 terms) e log h)

-- what the crate of rows says of words and shapes
pub record RowLaws : Type 0 where
  pub by_shape : (meta : MetaData) (words : List ℕ) → IsMeta meta.fields → BelongsTo (shape_of meta) words ↔ Belongs meta words
  pub zeros : (meta : MetaData) → IsMeta meta.fields → BelongsTo (shape_of meta) (replicate 125 0)
  pub laid : (meta : MetaData) (patch : Patch) (shape words : List ℕ) → IsMeta meta.fields → shape_of meta ≡ shape → IsPatchOf meta patch → BelongsTo shape words
      → BelongsTo shape (patched_words meta.fields patch words)

-- the row that lawful entries leave belongs to the meta of the shape
module _ (laws : RowLaws) (meta : MetaData) (terms : List ℕ) (is : IsMeta meta.fields) (shape : shape_in terms ≡ shape_of meta) where
  opening_belongs : BelongsTo (shape_in terms) opening_words
  unfolding opening_words
  opening_belongs = subst (λ (s : List ℕ). BelongsTo s (replicate 125 0)) (sym shape) (laws.zeros meta is)

  pub row_after_to : (log : List Entry) → IsLawful terms log → BelongsTo (shape_in terms) (row_after log)
  row_after_to log h = last_belongs terms opening_words log opening_belongs h.entries

  pub row_after_belongs : (log : List Entry) → IsLawful terms log → Belongs meta (row_after log)
  row_after_belongs log h = (laws.by_shape meta (row_after log) is).0 (subst (λ (s : List ℕ). BelongsTo s (row_after log)) shape (row_after_to log h))

  pub laid_to : (patch : Patch) (log : List Entry) → IsPatchOf meta patch → IsLawful terms log → BelongsTo (shape_in terms) (patched_words meta.fields patch (row_after log))
  laid_to patch log of h = laws.laid meta patch (shape_in terms) (row_after log) is (sym shape) of (row_after_to log h)

  -- and so does the row of a pass's front
  module _ (p : Inside) (f : IsFront p) (known : terms_in (cell_view p.place).terms ≡ terms) where
    lawful_here : IsLawful terms (cell_view p.place).seen
    lawful_here = subst (λ (l : List ℕ). IsLawful l (cell_view p.place).seen) (sym (ap terms_in f.has_terms) ∙ known) f.lawful

    pub front_belongs : Belongs meta p.row.words
    front_belongs = subst (Belongs meta) (sym f.row) (row_after_belongs (cell_view p.place).seen lawful_here)

    pub front_laid : (patch : Patch) → IsPatchOf meta patch → BelongsTo (shape_in terms) (patched_words meta.fields patch p.row.words)
    front_laid patch of = subst (λ (words : List ℕ). BelongsTo (shape_in terms) (patched_words meta.fields patch words)) (sym f.row) (laid_to patch (cell_view p.place).seen of lawful_here)
