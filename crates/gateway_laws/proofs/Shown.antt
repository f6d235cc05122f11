-- What a pass shows of a target is what is collected of the source's stores.
use Rattle.std.proofs.Common.{◌≡◌, refl, sym, ap, ◌∙◌, subst, arith, ℕ, ◌+◌, List, [], ◌∷◌, ◌++◌, length, map, reverse}
use Rattle.std.proofs.lemmas.List.{length-map, map-append, reverse-append, length-reverse}
use Rattle.dataset_meta.specs.declared.field.Field.{Field}
use Rattle.dataset_meta.specs.DataValues.{DataValue}
use Rattle.dataset_meta.specs.Metas.{MetaData, IsMeta}
use Rattle.dataset_meta.specs.Rows.{opening_row}
use Rattle.row_words.specs.Belonging.{Belongs, row_in}
use Rattle.version_cell.specs.Cells.{CellData, IsCell}
use Rattle.version_cell.specs.Histories.{opening_words, row_after}
use Rattle.version_cell.specs.Known.{Known}
use Rattle.version_cell.specs.Passes.{IsPassOf, SeesLawful}
use Rattle.version_cell.specs.declared.rule.Entry.{Entry}
use Rattle.session_model.specs.Stores.{Store}
use Rattle.gateway_laws.specs.Relays.{IsCollected, store_row}
use Rattle.gateway_laws.specs.Versions.{HasStored}
use Rattle.gateway_laws.proofs.Storing.{last-row}
use Rattle.gateway_core.specs.Lived.{sample_of}

abbrev pub BelongsLaw : Type 0
BelongsLaw = (cell : CellData) (p : Known) → IsCell cell → IsPassOf cell p → SeesLawful p → Belongs cell.meta (row_after p.seen)

abbrev pub OpeningLaw : Type 0
OpeningLaw = (fields : List Field) → IsMeta fields → row_in fields opening_words ≡ opening_row fields

belongs-as : (m n : MetaData) (words : List ℕ) → m.fields ≡ n.fields → m.quality ≡ n.quality → Belongs m words → Belongs n words
belongs-as m n words e f b = record {
  whole = b.whole;
  row = subst (λ (fields : List Field). Rattle.dataset_meta.specs.Rows.IsRowOf n.quality fields (row_in fields words)) e
      (subst (λ (q : Rattle.std.proofs.Common.Bool). Rattle.dataset_meta.specs.Rows.IsRowOf q m.fields (row_in m.fields words)) f b.row);
  spelled = subst (λ (fields : List Field). words ≡ Rattle.row_words.specs.Belonging.spelled_row fields (row_in fields words)) e b.spelled;
}

abbrev rows_of : List Field → List Entry → List (List DataValue)
rows_of fields seen = map (λ (entry : Entry). row_in fields entry.row) seen

none-seen : (fields : List Field) (words : List ℕ) (seen : List Entry) → rows_of fields seen ≡ [] → Rattle.version_cell.specs.Histories.last_words words seen ≡ words
none-seen fields words [] e = refl
none-seen fields words (entry ∷ seen) e = absurd (cc)

last-of : (fields : List Field) (words : List ℕ) (seen : List Entry) (front : List (List DataValue)) (row : List DataValue) → rows_of fields seen ≡ front ++ row ∷ [] → row_in fields (Rattle.version_cell.specs.Histories.last_words words seen) ≡ row
last-of fields words [] [] row e = absurd (cc)
last-of fields words [] (x ∷ front) row e = absurd (cc)
last-of fields words (entry ∷ seen) [] row e =
    let rest : rows_of fields seen ≡ [] = cc in
    let first : row_in fields entry.row ≡ row = cc in
    ap (row_in fields) (none-seen fields entry.row seen rest) ∙ first
last-of fields words (entry ∷ seen) (x ∷ front) row e = last-of fields entry.row seen front row cc

row-shown : OpeningLaw → (meta : MetaData) (seen : List Entry) (list : List Store) → IsMeta meta.fields → rows_of meta.fields seen ≡ map (λ (store : Store). store.row) (reverse list) → row_in meta.fields (row_after seen) ≡ store_row meta list (length list)
row-shown opening meta seen [] is e = ap (row_in meta.fields) (none-seen meta.fields opening_words seen e) ∙ opening meta.fields is
row-shown opening meta seen (store ∷ before) is e =
    let turned : reverse (store ∷ before) ≡ reverse before ++ store ∷ [] = reverse-append (store ∷ []) before in
    let rows : rows_of meta.fields seen ≡ map (λ (s : Store). s.row) (reverse before) ++ store.row ∷ [] =
    e ∙ ap (map (λ (s : Store). s.row)) turned ∙ map-append (λ (s : Store). s.row) (reverse before) (store ∷ []) in
    let count : length before + 1 ≡ length (store ∷ before) = omega arith in
    last-of meta.fields opening_words seen (map (λ (s : Store). s.row) (reverse before)) store.row rows ∙ sym (last-row meta store before) ∙ ap (store_row meta (store ∷ before)) count

pub shown : BelongsLaw → OpeningLaw → (cell : CellData) (meta : MetaData) (p : Known) (list : List Store) → IsCell cell → IsPassOf cell p → SeesLawful p → cell.meta.fields ≡ meta.fields → cell.meta.quality ≡ meta.quality → HasStored list cell.meta p
    → IsCollected meta list (sample_of p)
shown belongs opening cell meta p list is own lawful e f stored = record {
  version = sym (length-map p.seen (λ (entry : Entry). row_in cell.meta.fields entry.row)) ∙ ap length stored ∙ length-map (reverse list) (λ (store : Store). store.row) ∙ length-reverse list;
  belongs = belongs-as cell.meta meta (row_after p.seen) e f (belongs cell p is own lawful);
  row = row-shown opening meta p.seen list (subst IsMeta e is.meta)
      (subst (λ (fields : List Field). rows_of fields p.seen ≡ map (λ (store : Store). store.row) (reverse list)) e stored);
}
