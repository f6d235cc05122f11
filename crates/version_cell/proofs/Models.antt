-- What passes have seen, as histories of the model.
use Rattle.std.proofs.Common.{◌≡◌, ℕ, ◌≤◌, zero, suc, List, [], ◌∷◌, ◌++◌, length, take, drop, refl, sym, ap, ◌∙◌, subst, arith, length-append}
use Rattle.std.specs.Prelude.{◌<◌, All, sum, slice_get, slice_index, option_map, unwrap_or}
use Rattle.std.proofs.lemmas.List.{get_or_append_left}
use Rattle.std.proofs.Math.Seq.{take-append_seam, drop-append_seam}
use Rattle.std.proofs.lemmas.List.Elements.{All-nil, All-cons, All-tail, All-head}
use Rattle.dataset_meta.specs.declared.field.Field.{Field}
use Rattle.dataset_meta.specs.Rows.{IsRow, opening_row}
use Rattle.row_words.specs.Belonging.{Belongs, row_in}
use Rattle.row_words.specs.Shapes.{BelongsTo, shape_of}
use Rattle.pubsub_model.specs.History.{Written, IsHistory, row_of}
use Rattle.version_cell.specs.declared.rule.Entry.{Entry}
use Rattle.version_cell.specs.Histories.{history_of, last_words, opening_words, row_after, written_of}
use Rattle.version_cell.specs.Terms.{IsEntry, quota, shape_in}
use Rattle.version_cell.specs.Known.{Known}
use Rattle.version_cell.specs.Cells.{CellData, IsCell}
use Rattle.version_cell.specs.Passes.{IsPassOf, SeesLawful}
use Rattle.version_cell.proofs.Fronts.{version_small}
use Rattle.version_cell.proofs.CellLaws.{RowLaws, row_after_belongs}

-- a pass of a cell: its terms end with the shape of the cell's meta
module _ (cell : CellData) (p : Known) (is : IsCell cell) (own : IsPassOf cell p) where
  shape_known : shape_in p.terms ≡ shape_of cell.meta
  shape_known =
      ap shape_in own.terms ∙ ap (λ (n : ℕ). drop n (cell.quotas ++ shape_of cell.meta)) (sym is.eight) ∙ drop-append_seam cell.quotas (shape_of cell.meta)

  quotas_known : take 8 p.terms ≡ cell.quotas
  quotas_known = ap (take 8) own.terms ∙ ap (λ (n : ℕ). take n (cell.quotas ++ shape_of cell.meta)) (sym is.eight) ∙ take-append_seam cell.quotas (shape_of cell.meta)

  pub quota_known : (author : ℕ) → author < 8 → quota author p.terms ≡ slice_index cell.quotas author
  quota_known author lt =
      ap (λ (terms : List ℕ). slice_index terms author) own.terms ∙ get_or_append_left cell.quotas (shape_of cell.meta) 0 author (let e = is.eight in omega (arith, lt, e))

  pub row_seen_belongs : RowLaws → SeesLawful p → Belongs cell.meta (row_after p.seen)
  row_seen_belongs laws h = row_after_belongs laws cell.meta p.terms is.meta shape_known p.seen h

  entries_fit : RowLaws → (log : List Entry) → All (IsEntry 8 p.terms) log → IsHistory cell.meta (history_of cell.meta.fields log)
  entries_fit laws [] h = All-nil (λ (w : Written). IsRow cell.meta w.row)
  entries_fit laws (e ∷ log) h =
      let head = (All-head (IsEntry 8 p.terms) e log h).row in
      let belongs : Belongs cell.meta e.row = (laws.by_shape cell.meta e.row is.meta).0 (subst (λ (s : List ℕ). BelongsTo s e.row) shape_known head) in
      All-cons (λ (w : Written). IsRow cell.meta w.row) (written_of cell.meta.fields e) (history_of cell.meta.fields log) belongs.row
      (entries_fit laws log (All-tail (IsEntry 8 p.terms) e log h))

  pub IsHistory-seen : RowLaws → SeesLawful p → IsHistory cell.meta (history_of cell.meta.fields p.seen)
  IsHistory-seen laws h = entries_fit laws p.seen h.entries

  pub version_bound : SeesLawful p → length p.seen ≤ sum cell.quotas
  version_bound h =
      let eight : 8 ≤ length p.terms = (let n = ap length own.terms in let m = length-append cell.quotas (shape_of cell.meta) in let k = is.eight in omega arith) in
      subst (λ (qs : List ℕ). length p.seen ≤ sum qs) quotas_known (version_small p.terms p.seen eight h)

row_of_last : (fields : List Field) (row : List ℕ) (e : Entry) (log : List Entry)
    → unwrap_or (option_map (λ (w : Written). w.row) (slice_get (history_of fields (e ∷ log)) (length log))) (opening_row fields) ≡ row_in fields (last_words row (e ∷ log))
row_of_last fields row e [] = refl
row_of_last fields row e (next ∷ log) = row_of_last fields e.row next log

pub row_of-seen : (fields : List Field) (log : List Entry) → row_in fields opening_words ≡ opening_row fields → row_of fields (history_of fields log) (length log) ≡ row_in fields (row_after log)
row_of-seen fields [] opening = sym opening
row_of-seen fields (e ∷ log) opening = row_of_last fields opening_words e log

row_of_each : (fields : List Field) (row : List ℕ) (log : List Entry) (n : ℕ) → n < length log
    → unwrap_or (option_map (λ (w : Written). w.row) (slice_get (history_of fields log) n)) (opening_row fields) ≡ row_in fields (last_words row (take (suc n) log))
row_of_each fields row [] n lt = absurd (omega arith)
row_of_each fields row (e ∷ log) zero lt = refl
row_of_each fields row (e ∷ log) (suc n) lt = row_of_each fields e.row log n (omega arith)

pub row_of-version : (fields : List Field) (log : List Entry) (version : ℕ) → row_in fields opening_words ≡ opening_row fields → version ≤ length log
    → row_of fields (history_of fields log) version ≡ row_in fields (row_after (take version log))
row_of-version fields [] zero opening le = sym opening
row_of-version fields (e ∷ log) zero opening le = sym opening
row_of-version fields log (suc n) opening le = row_of_each fields opening_words log n (omega arith)
