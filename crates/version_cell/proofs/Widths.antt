-- The words behind those that a cell keeps are 0.
use Rattle.std.proofs.Common.{◌≡◌, ℕ, zero, suc, ◌+◌, ◌-◌, ◌^◌, ◌≤◌, Bool, true, false, List, [], ◌∷◌, ◌++◌, length, take, refl, sym, ap, ◌∙◌, subst, arith, append_assoc, length-append}
use Rattle.std.specs.Prelude.{if◌then◌else◌, replicate}
use Rattle.std.proofs.Math.Seq.{take-append-add}
use Rattle.std.proofs.lemmas.List.{replicate-append-replicate, take-replicate}
use Rattle.dataset_meta.specs.declared.field.Field.{Field}
use Rattle.dataset_meta.specs.DataValues.{DataValue}
use Rattle.dataset_meta.specs.Metas.{status_words, value_words, words_of}
use Rattle.dataset_meta.specs.Rows.{IsRowOf}
use Rattle.row_words.specs.Digits.{grouped}
use Rattle.row_words.specs.Belonging.{Belongs, row_in, spelled_parts, spelled_row, spelled_statuses, spelled_values}
use Rattle.row_words.proofs.RowLaws.{behind, length-spelled_parts, length-spelled_values, spelled_row-behind, statuses}
use Rattle.version_cell.specs.declared.cell.Cell.TheInside.{Inside as CellInside}
use Rattle.version_cell.specs.declared.strip.Strip.{Strip}
use Rattle.version_cell.specs.Histories.{opening_words}
use Rattle.version_cell.specs.Rule.{spell}
use Rattle.version_cell.specs.Widths.{row_width, widened, Stands, StandsIn}
use Rattle.version_cell.specs.Strips.{table_of}
use Rattle.version_cell.specs.CellFields.{HasTerms}
use Rattle.version_cell.proofs.Strips.{wide_at_least, wide_at_most}

-- words with zeros behind
stands : (count zeros : ℕ) (front : List ℕ) → length front ≤ count → count ≤ 151 → length front + zeros ≡ 151 → Stands count (front ++ replicate zeros 0)
stands count zeros front le small all =
    let more : ℕ = count - length front in
    let long : length front + more ≡ count = omega arith in
    let rest : more + (151 - count) ≡ zeros = omega arith in
    let kept : take count (front ++ replicate zeros 0) ≡ front ++ replicate more 0 =
    ap (λ (n : ℕ). take n (front ++ replicate zeros 0)) (sym long) ∙ take-append-add front (replicate zeros 0) more ∙ ap (λ (l : List ℕ). front ++ l) (take-replicate more zeros 0 (omega arith)) in
    sym (ap (widened count) kept ∙ append_assoc front (replicate more 0) (replicate (151 - count) 0)
    ∙ ap (λ (l : List ℕ). front ++ l) (replicate-append-replicate more (151 - count) 0 ∙ ap (λ (n : ℕ). replicate n 0) rest))

-- the words of a row with zeros behind
spelling_stands : (count zeros version given : ℕ) (terms front : List ℕ) → length terms ≡ 24 → length front + zeros ≡ 125 → length front + 26 ≤ count → count ≤ 151
    → Stands count (spell version given (front ++ replicate zeros 0) terms)
spelling_stands count zeros version given terms front wide all le small =
    subst (Stands count) (ap (λ (l : List ℕ). version ∷ given ∷ l) (append_assoc terms front (replicate zeros 0)))
    (stands count zeros (version ∷ given ∷ (terms ++ front)) (omega (arith, length-append terms front, wide)) small (omega (arith, length-append terms front, wide)))

pub opening_stands : (count given : ℕ) (terms words : List ℕ) → length terms ≡ 24 → words ≡ spell 0 given opening_words terms → 26 ≤ count → count ≤ 151 → Stands count words
unfolding opening_words
opening_stands count given terms words wide is le small = subst (Stands count) (sym is) (spelling_stands count 125 0 given terms [] wide refl le small)

pub opening_fits : (s : Strip) (given : ℕ) (terms words : List ℕ) → length terms ≡ 24 → words ≡ spell 0 given opening_words terms → StandsIn (table_of s) words
opening_fits s given terms words wide is =
    let least = wide_at_least s in
    let most = wide_at_most s in
    opening_stands ((table_of s).words - 1) given terms words wide is (omega (arith, least)) (omega (arith, most))

zeros_grouped : (count n : ℕ) → grouped (2 ^ 32) 2 count (replicate n 0) ≡ replicate count 0
zeros_grouped zero n = refl
zeros_grouped (suc count) zero = ap (λ (ws : List ℕ). 0 ∷ ws) (zeros_grouped count zero)
zeros_grouped (suc count) (suc zero) = ap (λ (ws : List ℕ). 0 ∷ ws) (zeros_grouped count zero)
zeros_grouped (suc count) (suc (suc n)) = ap (λ (ws : List ℕ). 0 ∷ ws) (zeros_grouped count n)

no_statuses : (fields : List Field) (row : List DataValue) → IsRowOf false fields row → statuses row ≡ replicate (length row) 0
no_statuses fields [] is = refl
no_statuses [] (x ∷ row) is = absurd is
no_statuses (field ∷ fields) (x ∷ row) is = (λ i. is.0.is_status i ∷ no_statuses fields row is.1 i)

-- of a row without statuses the words of the values are all
behind_is : (fields : List Field) (row : List DataValue) → words_of fields ≤ 125 → IsRowOf false fields row → behind fields row ≡ replicate (125 - value_words fields) 0
unfolding behind spelled_statuses
behind_is fields row room is =
    let long = length-spelled_parts false fields row is in
    let rest : status_words fields + (125 - length (spelled_parts fields row)) ≡ 125 - value_words fields = omega (arith, long) in
    ap (λ (l : List ℕ). grouped (2 ^ 32) 2 (status_words fields) l ++ replicate (125 - length (spelled_parts fields row)) 0) (no_statuses fields row is)
    ∙ ap (λ (l : List ℕ). l ++ replicate (125 - length (spelled_parts fields row)) 0) (zeros_grouped (status_words fields) (length row))
    ∙ replicate-append-replicate (status_words fields) (125 - length (spelled_parts fields row)) 0
    ∙ ap (λ (n : ℕ). replicate n 0) rest

record Front (words : List ℕ) (width : ℕ) : Type 0 where
  front : List ℕ
  long : length front ≡ width
  is : words ≡ front ++ replicate (125 - width) 0

front_of : (quality : Bool) (fields : List Field) (row : List DataValue) → words_of fields ≤ 125 → IsRowOf quality fields row → Front (spelled_row fields row) (if quality then words_of fields else value_words fields)
unfolding spelled_row
front_of true fields row room is =
    let long = length-spelled_parts true fields row is in
    record { front = spelled_parts fields row; long = long; is = ap (λ (n : ℕ). spelled_parts fields row ++ replicate (125 - n) 0) long }
front_of false fields row room is = record {
  front = spelled_values fields row;
  long = length-spelled_values false fields row is;
  is = spelled_row-behind fields row ∙ ap (λ (l : List ℕ). spelled_values fields row ++ l) (behind_is fields row room is);
}

width_at_most : (quality : Bool) (fields : List Field) → words_of fields ≤ 125 → (if quality then words_of fields else value_words fields) ≤ 125
width_at_most true fields room = room
width_at_most false fields room = omega (arith, room)

-- a row of the meta stands in the words of a cell
pub row_stands : (c : CellInside) → HasTerms c → (version : ℕ) (row words : List ℕ) → Belongs c.meta row → words ≡ spell version 8 row c.terms → StandsIn (table_of c.words) words
row_stands c h version row words belongs is =
    let narrow = h.meta.narrow in
    let f = front_of c.meta.quality c.meta.fields (row_in c.meta.fields row) narrow belongs.row in
    let small = width_at_most c.meta.quality c.meta.fields narrow in
    let most = wide_at_most c.words in
    let room = h.room in
    let long = f.long in
    let stood = spelling_stands ((table_of c.words).words - 1) (125 - row_width c.meta) version 8 c.terms f.front h.wide (omega (arith, long, small)) (omega (arith, long, room)) (omega (arith, most)) in
    subst (StandsIn (table_of c.words)) (sym (is ∙ ap (λ (l : List ℕ). spell version 8 l c.terms) (belongs.spelled ∙ f.is))) stood
