-- Rows and the words in which they stand.
use Rattle.std.proofs.Common.{◌≡◌, ℕ, zero, suc, ◌+◌, ◌-◌, ◌*◌, ◌^◌, ◌<◌, ◌≤◌, Bool, true, false, List, [], ◌∷◌, ◌++◌, length, take, drop, get_or, set, map, refl, sym, ap, ◌∙◌, subst, arith, lit<, append_assoc, length-append}
use Rattle.std.specs.Prelude.{replicate, slice_set}
use Rattle.std.specs.List.{HoldsAt}
use Rattle.std.proofs.Math.Seq.{take-append-add, drop-append-add}
use Rattle.std.proofs.lemmas.List.{take_at, drop_at, length-replicate, length-map, get_or-append_right, set-append_right}
use Rattle.std.proofs.lemmas.List.Elements.{All-nil, All-cons}
use Rattle.std.proofs.lemmas.List.Sums.{sum_by-cons}
use Rattle.ua_values.specs.declared.kind.Kind.{Kind}
use Rattle.ua_values.specs.declared.value.Value.{Value}
use Rattle.ua_values.specs.Values.{Fits, IsValue}
use Rattle.dataset_meta.specs.declared.field.Field.{Field}
use Rattle.dataset_meta.specs.DataValues.{DataValue, IsStatus, FitsField}
use Rattle.dataset_meta.specs.Fields.{width, width_of}
use Rattle.dataset_meta.specs.Metas.{start_of, value_words, status_words, words_of, IsMeta, MetaData}
use Rattle.dataset_meta.specs.Rows.{IsRowOf, IsRow}
use Rattle.dataset_meta.proofs.RowLaws.{length_row}
use Rattle.row_words.specs.Digits.{grouped}
use Rattle.row_words.specs.Words.{spelled_value, value_in}
use Rattle.row_words.specs.Belonging.{spelled_values, spelled_statuses, spelled_parts, spelled_row, statuses_in, row_with, row_in, Belongs}
use Rattle.row_words.specs.Setting.{with_value, with_status}
use Rattle.row_words.proofs.DigitLaws.{length-grouped}
use Rattle.row_words.proofs.ValueLaws.{length-spelled_value, value_in-spelled_value}
use Rattle.row_words.proofs.StatusLaws.{AreStatuses, half_set, half_written, rest_behind, statuses_in-grouped}

pub length_in_field : (quality : Bool) (field : Field) (x : DataValue) → FitsField quality field x → length (spelled_value field.cap x.value) ≡ width_of field
length_in_field quality field x fits = length-spelled_value field.cap x.value ∙ ap (λ (kind : Kind). width kind field.cap) fits.fits.same_kind

pub value_back : (quality : Bool) (field : Field) (x : DataValue) → FitsField quality field x → value_in field.kind (spelled_value field.cap x.value) ≡ x.value
value_back quality field x fits =
    ap (λ (kind : Kind). value_in kind (spelled_value field.cap x.value)) (sym fits.fits.same_kind) ∙ value_in-spelled_value field.cap x.value fits.is_value fits.fits.within

pub length-spelled_values : (quality : Bool) (fields : List Field) (row : List DataValue) → IsRowOf quality fields row → length (spelled_values fields row) ≡ value_words fields
length-spelled_values quality [] [] is = refl
length-spelled_values quality [] (x ∷ row) is = absurd is
length-spelled_values quality (field ∷ fields) [] is = absurd is
length-spelled_values quality (field ∷ fields) (x ∷ row) is =
    length-append (spelled_value field.cap x.value) (spelled_values fields row)
    ∙ omega (arith, length_in_field quality field x is.0, length-spelled_values quality fields row is.1, sum_by-cons width_of field fields)

-- the statuses of a row
abbrev pub statuses : List DataValue → List ℕ
statuses row = map (λ x. x.status) row

small_status : (quality : Bool) (status : ℕ) → IsStatus quality status → status < 2 ^ 32
small_status true status is = is
small_status false status is = subst (λ (n : ℕ). n < 2 ^ 32) (sym is) (lit< tt)

pub small_statuses : (quality : Bool) (fields : List Field) (row : List DataValue) → IsRowOf quality fields row → AreStatuses (statuses row)
small_statuses quality fields [] is = All-nil (λ (n : ℕ). n < 2 ^ 32)
small_statuses quality [] (x ∷ row) is = absurd is
small_statuses quality (field ∷ fields) (x ∷ row) is =
    All-cons (λ (n : ℕ). n < 2 ^ 32) x.status (statuses row) (small_status quality x.status is.0.is_status) (small_statuses quality fields row is.1)

pub count_statuses : (quality : Bool) (fields : List Field) (row : List DataValue) → IsRowOf quality fields row → length (statuses row) ≡ length fields
count_statuses quality fields row is = length-map row (λ (x : DataValue). x.status) ∙ sym (length_row quality fields row is)

-- what stands behind the values
unfoldable pub behind : List Field → List DataValue → List ℕ
behind fields row = spelled_statuses fields row ++ replicate (125 - length (spelled_parts fields row)) 0

pub spelled_row-behind : (fields : List Field) (row : List DataValue) → spelled_row fields row ≡ spelled_values fields row ++ behind fields row
unfolding spelled_row behind
spelled_row-behind fields row = append_assoc (spelled_values fields row) (spelled_statuses fields row) (replicate (125 - length (spelled_parts fields row)) 0)

pub length-spelled_statuses : (fields : List Field) (row : List DataValue) → length (spelled_statuses fields row) ≡ status_words fields
unfolding spelled_statuses
length-spelled_statuses fields row = length-grouped (2 ^ 32) 2 (status_words fields) (statuses row)

pub length-spelled_parts : (quality : Bool) (fields : List Field) (row : List DataValue) → IsRowOf quality fields row → length (spelled_parts fields row) ≡ words_of fields
length-spelled_parts quality fields row is =
    length-append (spelled_values fields row) (spelled_statuses fields row)
    ∙ omega (arith, length-spelled_values quality fields row is, length-spelled_statuses fields row)

same_data_value : (x : DataValue) (value : Value) → value ≡ x.value → record { value = value; status = x.status } ≡ x
same_data_value x value e = rw e refl

-- a row is read back out of its words, whatever follows
row_with-spelled : (quality : Bool) (fields : List Field) (row : List DataValue) (rest more : List ℕ) → IsRowOf quality fields row
    → row_with fields (spelled_values fields row ++ rest) (statuses row ++ more) ≡ row
row_with-spelled quality [] [] rest more is = refl
row_with-spelled quality [] (x ∷ row) rest more is = absurd is
row_with-spelled quality (field ∷ fields) [] rest more is = absurd is
row_with-spelled quality (field ∷ fields) (x ∷ row) rest more is =
    let long = length_in_field quality field x is.0 in
    rw (
      append_assoc (spelled_value field.cap x.value) (spelled_values fields row) rest,
      take_at (spelled_value field.cap x.value) (spelled_values fields row ++ rest) (width_of field) long,
      drop_at (spelled_value field.cap x.value) (spelled_values fields row ++ rest) (width_of field) long,
      row_with-spelled quality fields row rest more is.1,
    )
    (ap (λ (y : DataValue). y ∷ row) (same_data_value x _ (value_back quality field x is.0)))

-- the words of a row stand for it
pub row_in-spelled_row : (quality : Bool) (fields : List Field) (row : List DataValue) → IsRowOf quality fields row → row_in fields (spelled_row fields row) ≡ row
unfolding row_in behind spelled_statuses
row_in-spelled_row quality fields row is =
    let zeros : List ℕ = replicate (125 - length (spelled_parts fields row)) 0 in
    let all = spelled_row-behind fields row in
    let room : length (statuses row) ≤ 2 * status_words fields = omega (arith, count_statuses quality fields row is) in
    let behind_values = ap (drop (value_words fields)) all ∙ drop_at (spelled_values fields row) (behind fields row) (value_words fields) (length-spelled_values quality fields row is) in
    ap (λ (words : List ℕ). row_with fields (spelled_row fields row) (statuses_in words)) behind_values
    ∙ ap (row_with fields (spelled_row fields row)) (statuses_in-grouped (status_words fields) (statuses row) zeros (small_statuses quality fields row is) room)
    ∙ ap (λ (words : List ℕ). row_with fields words (statuses row ++ rest_behind (status_words fields) (statuses row) zeros)) all
    ∙ row_with-spelled quality fields row (behind fields row) (rest_behind (status_words fields) (statuses row) zeros) is

pub length-spelled_row : (quality : Bool) (fields : List Field) (row : List DataValue) → words_of fields ≤ 125 → IsRowOf quality fields row → length (spelled_row fields row) ≡ 125
unfolding spelled_row
length-spelled_row quality fields row room is =
    length-append (spelled_parts fields row) (replicate (125 - length (spelled_parts fields row)) 0)
    ∙ omega (arith, length-replicate {A = ℕ} (125 - length (spelled_parts fields row)) 0, length-spelled_parts quality fields row is)

pub Belongs-spelled_row : (meta : MetaData) (row : List DataValue) → words_of meta.fields ≤ 125 → IsRow meta row → Belongs meta (spelled_row meta.fields row)
Belongs-spelled_row meta row room is = record {
  whole = length-spelled_row meta.quality meta.fields row room is;
  row = subst (IsRow meta) (sym (row_in-spelled_row meta.quality meta.fields row is)) is;
  spelled = ap (spelled_row meta.fields) (sym (row_in-spelled_row meta.quality meta.fields row is));
}

pub start_of-suc : (field : Field) (fields : List Field) (index : ℕ) → start_of (field ∷ fields) (suc index) ≡ width_of field + start_of fields index
start_of-suc field fields index = sum_by-cons width_of field (take index fields)

-- one field more in front
pub take_past : (front rest : List ℕ) (n m : ℕ) → length front ≡ n → take (n + m) (front ++ rest) ≡ front ++ take m rest
take_past front rest n m long = ap (λ (k : ℕ). take (k + m) (front ++ rest)) (sym long) ∙ take-append-add front rest m

drop_past : (front rest : List ℕ) (n m : ℕ) → length front ≡ n → drop (n + m) (front ++ rest) ≡ drop m rest
drop_past front rest n m long = ap (λ (k : ℕ). drop (k + m) (front ++ rest)) (sym long) ∙ drop-append-add front rest m

-- the words of the field at an index are those of its value
spelled_at : (quality : Bool) (fields : List Field) (row : List DataValue) (rest : List ℕ) (index : ℕ) (field : Field) (x : DataValue) → IsRowOf quality fields row
    → index < length fields → field ≡ get_or fields index field → x ≡ get_or row index x
    → take (width_of field) (drop (start_of fields index) (spelled_values fields row ++ rest)) ≡ spelled_value field.cap x.value
spelled_at quality [] row rest index field x is within at here = absurd (omega arith)
spelled_at quality (f ∷ fields) [] rest index field x is within at here = absurd is
spelled_at quality (f ∷ fields) (v ∷ row) rest zero field x is within at here =
    rw (at, here, append_assoc (spelled_value f.cap v.value) (spelled_values fields row) rest)
    (take_at (spelled_value f.cap v.value) (spelled_values fields row ++ rest) (width_of f) (length_in_field quality f v is.0))
spelled_at quality (f ∷ fields) (v ∷ row) rest (suc index) field x is within at here =
    rw (
      start_of-suc f fields index,
      append_assoc (spelled_value f.cap v.value) (spelled_values fields row) rest,
      drop_past (spelled_value f.cap v.value) (spelled_values fields row ++ rest) (width_of f) (start_of fields index) (length_in_field quality f v is.0),
    )
    (spelled_at quality fields row rest index field x is.1 (omega arith) at here)

-- words in which the words of a value stand from a place on
abbrev pub spliced : List ℕ → ℕ → List ℕ → List ℕ
spliced words start value = take start words ++ (value ++ drop (start + length value) words)

spliced_past : (front rest value : List ℕ) (n start : ℕ) → length front ≡ n → spliced (front ++ rest) (n + start) value ≡ front ++ spliced rest start value
spliced_past front rest value n start long =
    ap (λ (words : List ℕ). words ++ (value ++ drop ((n + start) + length value) (front ++ rest))) (take_past front rest n start long)
    ∙ append_assoc front (take start rest) (value ++ drop ((n + start) + length value) (front ++ rest))
    ∙ ap (λ (back : List ℕ). front ++ (take start rest ++ (value ++ back)))
    (ap (λ (k : ℕ). drop k (front ++ rest)) (omega arith) ∙ drop_past front rest n (start + length value) long)

-- a value written over the words of a field is the field's value
set_at : (quality : Bool) (fields : List Field) (row : List DataValue) (rest : List ℕ) (index : ℕ) (field : Field) (value : Value) → IsRowOf quality fields row
    → index < length fields → field ≡ get_or fields index field → length (spelled_value field.cap value) ≡ width_of field
    → spliced (spelled_values fields row ++ rest) (start_of fields index) (spelled_value field.cap value) ≡ spelled_values fields (with_value row index value) ++ rest
set_at quality [] row rest index field value is within at long = absurd (omega arith)
set_at quality (f ∷ fields) [] rest index field value is within at long = absurd is
set_at quality (f ∷ fields) (v ∷ row) rest zero field value is within at long =
    let same : length (spelled_value field.cap value) ≡ length (spelled_value f.cap v.value) =
    long ∙ ap width_of at ∙ sym (length_in_field quality f v is.0) in
    ap (λ (back : List ℕ). spelled_value field.cap value ++ back)
    (ap (λ (words : List ℕ). drop (0 + length (spelled_value field.cap value)) words) (append_assoc (spelled_value f.cap v.value) (spelled_values fields row) rest)
    ∙ drop_at (spelled_value f.cap v.value) (spelled_values fields row ++ rest) _ (omega (arith, same)))
    ∙ sym (append_assoc (spelled_value field.cap value) (spelled_values fields row) rest)
    ∙ ap (λ (x : Field). (spelled_value x.cap value ++ spelled_values fields row) ++ rest) at
set_at quality (f ∷ fields) (v ∷ row) rest (suc index) field value is within at long =
    ap (λ (words : List ℕ). spliced words (start_of (f ∷ fields) (suc index)) (spelled_value field.cap value)) (append_assoc (spelled_value f.cap v.value) (spelled_values fields row) rest)
    ∙ ap (λ (n : ℕ). spliced (spelled_value f.cap v.value ++ (spelled_values fields row ++ rest)) n (spelled_value field.cap value)) (start_of-suc f fields index)
    ∙ spliced_past (spelled_value f.cap v.value) (spelled_values fields row ++ rest) (spelled_value field.cap value) (width_of f) (start_of fields index) (length_in_field quality f v is.0)
    ∙ ap (λ (back : List ℕ). spelled_value f.cap v.value ++ back) (set_at quality fields row rest index field value is.1 (omega arith) at long)
    ∙ sym (append_assoc (spelled_value f.cap v.value) (spelled_values fields (with_value row index value)) rest)

pub narrow : (fields : List Field) → IsMeta fields → words_of fields ≤ 125
narrow fields meta = meta.narrow

pub Belongs-at : (meta : MetaData) (words : List ℕ) (index : ℕ) (field : Field) (x : DataValue) → Belongs meta words → index < length meta.fields
    → field ≡ get_or meta.fields index field → x ≡ get_or (row_in meta.fields words) index x
    → take (width_of field) (drop (start_of meta.fields index) words) ≡ spelled_value field.cap x.value
Belongs-at meta words index field x belongs within at here =
    ap (λ (all : List ℕ). take (width_of field) (drop (start_of meta.fields index) all)) (belongs.spelled ∙ spelled_row-behind meta.fields (row_in meta.fields words))
    ∙ spelled_at meta.quality meta.fields (row_in meta.fields words) (behind meta.fields (row_in meta.fields words)) index field x belongs.row within at here

-- a value that its field may have
pub record FitsIn (field : Field) (value : Value) : Type 0 where
  pub is_value : IsValue value
  pub fits : Fits value field.kind field.cap

pub IsRow-with_value : (quality : Bool) (fields : List Field) (row : List DataValue) (index : ℕ) (value : Value)
    → IsRowOf quality fields row → HoldsAt (λ field. FitsIn field value) fields index → IsRowOf quality fields (with_value row index value)
IsRow-with_value quality [] [] index value is fits = tt
IsRow-with_value quality [] (x ∷ row) index value is fits = absurd is
IsRow-with_value quality (field ∷ fields) [] index value is fits = absurd is
IsRow-with_value quality (field ∷ fields) (x ∷ row) zero value is fits =
    (record { is_value = (fits field).is_value; fits = (fits field).fits; is_status = is.0.is_status }, is.1)
IsRow-with_value quality (field ∷ fields) (x ∷ row) (suc index) value is fits = (is.0, IsRow-with_value quality fields row index value is.1 fits)

pub IsRow-with_status : (quality : Bool) (fields : List Field) (row : List DataValue) (index : ℕ) (status : ℕ)
    → IsRowOf quality fields row → IsStatus quality status → IsRowOf quality fields (with_status row index status)
IsRow-with_status quality [] [] index status is good = tt
IsRow-with_status quality [] (x ∷ row) index status is good = absurd is
IsRow-with_status quality (field ∷ fields) [] index status is good = absurd is
IsRow-with_status quality (field ∷ fields) (x ∷ row) zero status is good =
    (record { is_value = is.0.is_value; fits = is.0.fits; is_status = good }, is.1)
IsRow-with_status quality (field ∷ fields) (x ∷ row) (suc index) status is good = (is.0, IsRow-with_status quality fields row index status is.1 good)

-- the statuses stay where a value is set, and the values where a status is
statuses-with_value : (row : List DataValue) (index : ℕ) (value : Value) → statuses (with_value row index value) ≡ statuses row
statuses-with_value [] index value = refl
statuses-with_value (x ∷ row) zero value = refl
statuses-with_value (x ∷ row) (suc index) value = ap (λ (xs : List ℕ). x.status ∷ xs) (statuses-with_value row index value)

statuses-with_status : (row : List DataValue) (index : ℕ) (status : ℕ) → statuses (with_status row index status) ≡ slice_set (statuses row) index status
statuses-with_status [] index status = refl
statuses-with_status (x ∷ row) zero status = refl
statuses-with_status (x ∷ row) (suc index) status = ap (λ (xs : List ℕ). x.status ∷ xs) (statuses-with_status row index status)

spelled_values-with_status : (fields : List Field) (row : List DataValue) (index : ℕ) (status : ℕ) → spelled_values fields (with_status row index status) ≡ spelled_values fields row
spelled_values-with_status [] row index status = refl
spelled_values-with_status (field ∷ fields) [] index status = refl
spelled_values-with_status (field ∷ fields) (x ∷ row) zero status = refl
spelled_values-with_status (field ∷ fields) (x ∷ row) (suc index) status =
    ap (λ (back : List ℕ). spelled_value field.cap x.value ++ back) (spelled_values-with_status fields row index status)

behind-with_value : (quality : Bool) (fields : List Field) (row : List DataValue) (index : ℕ) (value : Value) → IsRowOf quality fields row → IsRowOf quality fields (with_value row index value)
    → behind fields row ≡ behind fields (with_value row index value)
unfolding behind spelled_statuses
behind-with_value quality fields row index value is after =
    let long = length-spelled_parts quality fields row is ∙ sym (length-spelled_parts quality fields (with_value row index value) after) in
    ap (λ (xs : List ℕ). grouped (2 ^ 32) 2 (status_words fields) xs ++ replicate (125 - length (spelled_parts fields row)) 0) (sym (statuses-with_value row index value))
    ∙ ap (λ (n : ℕ). spelled_statuses fields (with_value row index value) ++ replicate (125 - n) 0) long

-- words in which a field's value is written over are those of the row with its new value
pub spelled_row-with_value : (quality : Bool) (fields : List Field) (row : List DataValue) (index : ℕ) (field : Field) (value : Value) → IsRowOf quality fields row
    → IsRowOf quality fields (with_value row index value) → index < length fields → field ≡ get_or fields index field → length (spelled_value field.cap value) ≡ width_of field
    → spliced (spelled_row fields row) (start_of fields index) (spelled_value field.cap value) ≡ spelled_row fields (with_value row index value)
spelled_row-with_value quality fields row index field value is after within at long =
    ap (λ (all : List ℕ). spliced all (start_of fields index) (spelled_value field.cap value)) (spelled_row-behind fields row)
    ∙ set_at quality fields row (behind fields row) index field value is within at long
    ∙ ap (λ (back : List ℕ). spelled_values fields (with_value row index value) ++ back) (behind-with_value quality fields row index value is after)
    ∙ sym (spelled_row-behind fields (with_value row index value))

behind-with_status : (quality : Bool) (fields : List Field) (row : List DataValue) (q r status : ℕ) → IsRowOf quality fields row → r < 2 → 2 * q + r < length fields
    → IsRowOf quality fields (with_status row (2 * q + r) status)
    → set (behind fields row) q (half_set (get_or (behind fields row) q 0) r status) ≡ behind fields (with_status row (2 * q + r) status)
unfolding behind spelled_statuses
behind-with_status quality fields row q r status is small within after =
    let zeros : List ℕ = replicate (125 - length (spelled_parts fields row)) 0 in
    let count = count_statuses quality fields row is in
    let long = length-spelled_parts quality fields row is ∙ sym (length-spelled_parts quality fields (with_status row (2 * q + r) status) after) in
    half_written (status_words fields) q r status (statuses row) zeros (small_statuses quality fields row is) small (omega (arith, count)) (omega (arith, count))
    ∙ ap (λ (xs : List ℕ). grouped (2 ^ 32) 2 (status_words fields) xs ++ zeros) (sym (statuses-with_status row (2 * q + r) status))
    ∙ ap (λ (n : ℕ). spelled_statuses fields (with_status row (2 * q + r) status) ++ replicate (125 - n) 0) long

-- words in which the half of a status is another are those of the row with its new status
pub spelled_row-with_status : (quality : Bool) (fields : List Field) (row : List DataValue) (q r status : ℕ) → IsRowOf quality fields row → r < 2 → 2 * q + r < length fields
    → IsRowOf quality fields (with_status row (2 * q + r) status)
    → set (spelled_row fields row) (value_words fields + q) (half_set (get_or (spelled_row fields row) (value_words fields + q) 0) r status)
    ≡ spelled_row fields (with_status row (2 * q + r) status)
spelled_row-with_status quality fields row q r status is small within after =
    let long = length-spelled_values quality fields row is in
    let place = value_words fields + q in
    let past : place - value_words fields ≡ q = omega arith in
    let new = with_status row (2 * q + r) status in
    ap (λ (all : List ℕ). set all place (half_set (get_or all place 0) r status)) (spelled_row-behind fields row)
    ∙ set-append_right (spelled_values fields row) (behind fields row) (value_words fields) place _ long (omega arith)
    ∙ ap (λ (w : ℕ). spelled_values fields row ++ set (behind fields row) (place - value_words fields) (half_set w r status))
    (get_or-append_right (spelled_values fields row) (behind fields row) (value_words fields) place 0 long (omega arith))
    ∙ ap (λ (n : ℕ). spelled_values fields row ++ set (behind fields row) n (half_set (get_or (behind fields row) n 0) r status)) past
    ∙ ap (λ (back : List ℕ). spelled_values fields row ++ back) (behind-with_status quality fields row q r status is small within after)
    ∙ ap (λ (front : List ℕ). front ++ behind fields new) (sym (spelled_values-with_status fields row (2 * q + r) status))
    ∙ sym (spelled_row-behind fields new)
