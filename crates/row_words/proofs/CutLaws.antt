-- Words cut to the first fields.
use Rattle.std.proofs.Common.{◌≡◌, ℕ, zero, suc, ◌+◌, ◌-◌, ◌/◌, ◌^◌, ◌≤◌, Bool, List, [], ◌∷◌, ◌++◌, length, take, drop, refl, sym, ap, ◌∙◌, subst, arith, append_assoc}
use Rattle.std.specs.Prelude.{replicate}
use Rattle.std.proofs.lemmas.List.{drop_at, take-map, drop-replicate, take_all, length-drop}
use Rattle.std.proofs.lemmas.List.Sums.{sum_by-cons}
use borrow.Rule.Slice.PartMut.{mid_of}
use Rattle.dataset_meta.specs.declared.field.Field.{Field}
use Rattle.dataset_meta.specs.DataValues.{DataValue}
use Rattle.dataset_meta.specs.Fields.{width_of}
use Rattle.dataset_meta.specs.Metas.{value_words, status_words, IsMeta, MetaData, HasGrown}
use Rattle.dataset_meta.specs.Rows.{IsRowOf, row_cut}
use Rattle.dataset_meta.proofs.CutLaws.{IsRow-cut}
use Rattle.row_words.specs.Digits.{grouped}
use Rattle.row_words.specs.Words.{spelled_value}
use Rattle.row_words.specs.Belonging.{spelled_values, spelled_statuses, spelled_parts, spelled_row, statuses_in, row_in, Belongs, cut_words}
use Rattle.row_words.proofs.StatusLaws.{rest_behind, statuses_in-grouped}
use Rattle.row_words.proofs.RowLaws.{length_in_field, length-spelled_values, length-spelled_parts, narrow, statuses, small_statuses, count_statuses, behind, spelled_row-behind, Belongs-spelled_row, row_in-spelled_row, take_past}

-- the row that is cut has words
pub Belongs-cut_words : (short full : MetaData) (words : List ℕ) → IsMeta short.fields → HasGrown short full → Belongs full words → Belongs short (cut_words short full words)
unfolding cut_words
Belongs-cut_words short full words is grown belongs =
    Belongs-spelled_row short (row_cut short (row_in full.fields words)) (narrow short.fields is) (IsRow-cut short full (row_in full.fields words) grown belongs.row)

pub row_in-cut_words : (short full : MetaData) (words : List ℕ) → HasGrown short full → Belongs full words
    → row_in short.fields (cut_words short full words) ≡ row_cut short (row_in full.fields words)
unfolding cut_words
row_in-cut_words short full words grown belongs =
    row_in-spelled_row short.quality short.fields (row_cut short (row_in full.fields words)) (IsRow-cut short full (row_in full.fields words) grown belongs.row)

-- the values of the first fields stand first
values_cut : (quality : Bool) (fields : List Field) (row : List DataValue) (rest : List ℕ) (count : ℕ) → IsRowOf quality fields row
    → take (value_words (take count fields)) (spelled_values fields row ++ rest) ≡ spelled_values (take count fields) (take count row)
values_cut quality fields row rest zero is = refl
values_cut quality [] [] rest (suc count) is = refl
values_cut quality [] (x ∷ row) rest (suc count) is = absurd is
values_cut quality (field ∷ fields) [] rest (suc count) is = absurd is
values_cut quality (field ∷ fields) (x ∷ row) rest (suc count) is =
    ap (take (value_words (field ∷ take count fields))) (append_assoc (spelled_value field.cap x.value) (spelled_values fields row) rest)
    ∙ ap (λ (n : ℕ). take n (spelled_value field.cap x.value ++ (spelled_values fields row ++ rest))) (sum_by-cons width_of field (take count fields))
    ∙ take_past (spelled_value field.cap x.value) (spelled_values fields row ++ rest) (width_of field) (value_words (take count fields)) (length_in_field quality field x is.0)
    ∙ ap (λ (back : List ℕ). spelled_value field.cap x.value ++ back) (values_cut quality fields row rest count is.1)

-- the first statuses among the words behind the values
statuses_cut : (quality : Bool) (fields : List Field) (row : List DataValue) (count : ℕ) → IsRowOf quality fields row → count ≤ length fields
    → take count (statuses_in (behind fields row)) ≡ statuses (take count row)
unfolding behind spelled_statuses
statuses_cut quality fields row count is within =
    let zeros : List ℕ = replicate (125 - length (spelled_parts fields row)) 0 in
    let long = count_statuses quality fields row is in
    ap (take count) (statuses_in-grouped (status_words fields) (statuses row) zeros (small_statuses quality fields row is) (omega (arith, long)))
    ∙ take_front (statuses row) (rest_behind (status_words fields) (statuses row) zeros) count (omega (arith, long, within))
    ∙ take-map (λ (x : DataValue). x.status) count row
  where
    take_front : (front back : List ℕ) (n : ℕ) → n ≤ length front → take n (front ++ back) ≡ take n front
    take_front front back zero within = refl
    take_front [] back (suc n) within = absurd (omega arith)
    take_front (x ∷ front) back (suc n) within = ap (λ (xs : List ℕ). x ∷ xs) (take_front front back n (omega arith))

count_within : (short full : MetaData) → HasGrown short full → length short.fields ≤ length full.fields
count_within short full grown = subst (λ (n : ℕ). n ≤ length full.fields) (sym (ap (λ (fields : List Field). length fields) grown.fields)) (taken (length short.fields) full.fields)
  where
    taken : (count : ℕ) (xs : List Field) → length (take count xs) ≤ length xs
    taken zero xs = omega arith
    taken (suc count) [] = omega arith
    taken (suc count) (x ∷ xs) = let step = taken count xs in omega (arith, step)

cut_behind : (short full : MetaData) (words : List ℕ) → IsMeta short.fields → HasGrown short full → Belongs full words
    → spelled_row short.fields (row_cut short (row_in full.fields words))
    ≡ take (value_words short.fields) words
    ++ (grouped (2 ^ 32) 2 (status_words short.fields) (take (length short.fields) (statuses_in (drop (value_words full.fields) words)))
    ++ replicate (125 - value_words short.fields - status_words short.fields) 0)
unfolding behind spelled_statuses
cut_behind short full words is grown belongs =
    let row = row_in full.fields words in
    let cut = row_cut short row in
    let count = length short.fields in
    let is_cut = IsRow-cut short full row grown belongs.row in
    let all = belongs.spelled ∙ spelled_row-behind full.fields row in
    let front : take (value_words short.fields) words ≡ spelled_values short.fields cut =
    ap (λ (fields : List Field). take (value_words fields) words) grown.fields
    ∙ ap (take (value_words (take count full.fields))) all
    ∙ values_cut full.quality full.fields row (behind full.fields row) count belongs.row
    ∙ ap (λ (fields : List Field). spelled_values fields cut) (sym grown.fields) in
    let back : take count (statuses_in (drop (value_words full.fields) words)) ≡ statuses cut =
    ap (λ (ws : List ℕ). take count (statuses_in ws))
    (ap (drop (value_words full.fields)) all ∙ drop_at (spelled_values full.fields row) (behind full.fields row) (value_words full.fields) (length-spelled_values full.quality full.fields row belongs.row))
    ∙ statuses_cut full.quality full.fields row count belongs.row (count_within short full grown) in
    let zeros : 125 - length (spelled_parts short.fields cut) ≡ 125 - value_words short.fields - status_words short.fields =
    omega (arith, length-spelled_parts short.quality short.fields cut is_cut) in
    spelled_row-behind short.fields cut
    ∙ ap (λ (ws : List ℕ). ws ++ behind short.fields cut) (sym front)
    ∙ ap (λ (n : ℕ). take (value_words short.fields) words ++ (spelled_statuses short.fields cut ++ replicate n 0)) zeros
    ∙ ap (λ (xs : List ℕ). take (value_words short.fields) words ++ (grouped (2 ^ 32) 2 (status_words short.fields) xs ++ replicate (125 - value_words short.fields - status_words short.fields) 0))
    (sym back)

-- the words that `first` makes
pub record IsFirst (short full : MetaData) (words after : List ℕ) : Type 0 where
  pub belongs : Belongs short after
  pub row : row_in short.fields after ≡ row_cut short (row_in full.fields words)
  pub words_are : after ≡ cut_words short full words

pub first_words : (short full : MetaData) (words base part to back : List ℕ) (start place : ℕ) → IsMeta short.fields → IsMeta full.fields → HasGrown short full → Belongs full words
    → start ≡ value_words short.fields → place ≡ value_words full.fields → base ≡ replicate 125 0 → part ≡ take start words → back ≡ drop start base
    → to ≡ grouped (2 ^ 32) 2 ((length short.fields + 1) / 2) (take (length short.fields) (statuses_in (mid_of place (125 - place) words))) ++ drop ((length short.fields + 1) / 2) back
    → IsFirst short full words (part ++ to)
unfolding cut_words
first_words short full words base part to back start place is is_full grown belongs start_is place_is zeros copied behind_values written =
    let rest : mid_of place (125 - place) words ≡ drop (value_words full.fields) words =
    take_all (125 - place) (drop place words) (omega (arith, length-drop place words, belongs.whole)) ∙ ap (λ (k : ℕ). drop k words) place_is in
    let over : drop (status_words short.fields) back ≡ replicate (125 - value_words short.fields - status_words short.fields) 0 =
    ap (drop (status_words short.fields)) (behind_values ∙ ap (drop start) zeros ∙ drop-replicate start 125 0)
    ∙ drop-replicate (status_words short.fields) (125 - start) 0 ∙ ap (λ (k : ℕ). replicate (125 - k - status_words short.fields) 0) start_is in
    let new = written
    ∙ ap (λ (ws : List ℕ). grouped (2 ^ 32) 2 (status_words short.fields) (take (length short.fields) (statuses_in ws)) ++ drop (status_words short.fields) back) rest
    ∙ ap (λ (ws : List ℕ). grouped (2 ^ 32) 2 (status_words short.fields) (take (length short.fields) (statuses_in (drop (value_words full.fields) words))) ++ ws) over in
    let same = ap (λ (ws : List ℕ). part ++ ws) new
    ∙ ap (λ (ws : List ℕ). ws ++ (grouped (2 ^ 32) 2 (status_words short.fields) (take (length short.fields) (statuses_in (drop (value_words full.fields) words)))
    ++ replicate (125 - value_words short.fields - status_words short.fields) 0)) (copied ∙ ap (λ (k : ℕ). take k words) start_is)
    ∙ sym (cut_behind short full words is grown belongs) in
    subst (IsFirst short full words) (sym same)
    (record { belongs = Belongs-cut_words short full words is grown belongs; row = row_in-cut_words short full words grown belongs; words_are = refl })
