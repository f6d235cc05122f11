-- Words that are all zero.
use Rattle.std.proofs.Common.{◌≡◌, ℕ, zero, suc, ◌+◌, ◌-◌, ◌*◌, ◌^◌, ◌≤◌, List, [], ◌∷◌, ◌++◌, false, length, refl, sym, ap, ◌∙◌, subst, arith}
use Rattle.std.specs.Prelude.{replicate}
use Rattle.std.proofs.lemmas.List.{replicate-append-replicate, length-replicate}
use Rattle.std.proofs.lemmas.List.Sums.{sum_by-cons}
use Rattle.dataset_meta.specs.declared.field.Field.{Field}
use Rattle.dataset_meta.specs.Fields.{width_of}
use Rattle.dataset_meta.specs.Metas.{value_words, status_words, words_of, IsMeta, MetaData}
use Rattle.dataset_meta.specs.Rows.{opening_row}
use Rattle.dataset_meta.proofs.RowLaws.{IsRow-opening}
use Rattle.row_words.specs.Digits.{grouped}
use Rattle.row_words.specs.Belonging.{spelled_values, spelled_statuses, spelled_parts, spelled_row, row_in, Belongs}
use Rattle.row_words.proofs.DigitLaws.{grouped-nil}
use Rattle.row_words.proofs.ValueLaws.{spelled_value-opening}
use Rattle.row_words.proofs.RowLaws.{narrow, statuses, Belongs-spelled_row, row_in-spelled_row}

spelled_values-opening : (fields : List Field) → spelled_values fields (opening_row fields) ≡ replicate (value_words fields) 0
spelled_values-opening [] = refl
spelled_values-opening (field ∷ fields) =
    ap (λ (front : List ℕ). front ++ spelled_values fields (opening_row fields)) (spelled_value-opening field.cap field.kind)
    ∙ ap (λ (back : List ℕ). replicate (width_of field) 0 ++ back) (spelled_values-opening fields)
    ∙ replicate-append-replicate (width_of field) (value_words fields) 0
    ∙ ap (λ (n : ℕ). replicate n 0) (sym (sum_by-cons width_of field fields))

opening_statuses : (fields : List Field) → statuses (opening_row fields) ≡ replicate (length fields) 0
opening_statuses [] = refl
opening_statuses (field ∷ fields) = ap (λ (xs : List ℕ). 0 ∷ xs) (opening_statuses fields)

-- zeros in groups are zeros
zeros_grouped : (base count n : ℕ) → grouped base 2 count (replicate n 0) ≡ replicate count 0
zeros_grouped base zero n = refl
zeros_grouped base (suc count) zero = grouped-nil base 2 (suc count)
zeros_grouped base (suc count) (suc zero) =
    let none : 0 + base * 0 ≡ 0 = omega arith in
    ap (λ (w : ℕ). w ∷ grouped base 2 count []) none ∙ ap (λ (ws : List ℕ). 0 ∷ ws) (grouped-nil base 2 count)
zeros_grouped base (suc count) (suc (suc n)) =
    let none : 0 + base * (0 + base * 0) ≡ 0 = omega arith in
    ap (λ (w : ℕ). w ∷ grouped base 2 count (replicate n 0)) none ∙ ap (λ (ws : List ℕ). 0 ∷ ws) (zeros_grouped base count n)

spelled_parts-opening : (fields : List Field) → spelled_parts fields (opening_row fields) ≡ replicate (words_of fields) 0
unfolding spelled_statuses
spelled_parts-opening fields =
    ap (λ (front : List ℕ). front ++ spelled_statuses fields (opening_row fields)) (spelled_values-opening fields)
    ∙ ap (λ (xs : List ℕ). replicate (value_words fields) 0 ++ grouped (2 ^ 32) 2 (status_words fields) xs) (opening_statuses fields)
    ∙ ap (λ (ws : List ℕ). replicate (value_words fields) 0 ++ ws) (zeros_grouped (2 ^ 32) (status_words fields) (length fields))
    ∙ replicate-append-replicate (value_words fields) (status_words fields) 0

spelled_row-opening : (fields : List Field) → words_of fields ≤ 125 → spelled_row fields (opening_row fields) ≡ replicate 125 0
unfolding spelled_row
spelled_row-opening fields room =
    let whole : words_of fields + (125 - words_of fields) ≡ 125 = omega arith in
    ap (λ (words : List ℕ). words ++ replicate (125 - length words) 0) (spelled_parts-opening fields)
    ∙ ap (λ (n : ℕ). replicate (words_of fields) 0 ++ replicate (125 - n) 0) (length-replicate (words_of fields) 0)
    ∙ replicate-append-replicate (words_of fields) (125 - words_of fields) 0
    ∙ ap (λ (n : ℕ). replicate n 0) whole

pub Belongs-zeros : (meta : MetaData) (words : List ℕ) → IsMeta meta.fields → words ≡ replicate 125 0 → Belongs meta words
Belongs-zeros meta words is zeros =
    subst (Belongs meta) (spelled_row-opening meta.fields (narrow meta.fields is) ∙ sym zeros)
    (Belongs-spelled_row meta (opening_row meta.fields) (narrow meta.fields is) (IsRow-opening meta.quality meta.fields))

pub row_in-zeros : (fields : List Field) (words : List ℕ) → IsMeta fields → words ≡ replicate 125 0 → row_in fields words ≡ opening_row fields
row_in-zeros fields words is zeros =
    ap (row_in fields) (zeros ∙ sym (spelled_row-opening fields (narrow fields is))) ∙ row_in-spelled_row false fields (opening_row fields) (IsRow-opening false fields)
