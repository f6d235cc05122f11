-- One value and one status of a row.
use Rattle.std.proofs.Common.{◌≡◌, ℕ, zero, suc, ◌<◌, Bool, false, List, [], ◌∷◌, length, get_or, refl, sym, ap, ◌∙◌, subst, arith}
use Rattle.std.specs.Prelude.{slice_set}
use Rattle.std.specs.List.{HoldsAt}
use Rattle.ua_values.specs.declared.value.Value.{Value}
use Rattle.dataset_meta.specs.declared.field.Field.{Field}
use Rattle.dataset_meta.specs.DataValues.{DataValue, IsStatus}
use Rattle.dataset_meta.specs.Metas.{MetaData}
use Rattle.dataset_meta.specs.Rows.{IsRowOf, IsRow}
use Rattle.row_words.specs.Belonging.{row_in, Belongs}
use Rattle.row_words.specs.Setting.{HasStatus, with_value, with_status}
use Rattle.row_words.proofs.FieldLaws.{stands}

pub both_set : (row : List DataValue) (index : ℕ) (value : Value) (status : ℕ)
    → with_status (with_value row index value) index status ≡ slice_set row index (record { value = value; status = status })
both_set [] index value status = refl
both_set (x ∷ row) zero value status = refl
both_set (x ∷ row) (suc index) value status = ap (λ (rest : List DataValue). x ∷ rest) (both_set row index value status)

pub set_in_turn : (row : List DataValue) (index : ℕ) (value : Value) (status : ℕ)
    → with_value (with_status row index status) index value ≡ slice_set row index (record { value = value; status = status })
set_in_turn [] index value status = refl
set_in_turn (x ∷ row) zero value status = refl
set_in_turn (x ∷ row) (suc index) value status = ap (λ (rest : List DataValue). x ∷ rest) (set_in_turn row index value status)

-- without quality the value is all that is to be set
good_set : (fields : List Field) (row : List DataValue) (index : ℕ) (value : Value) → IsRowOf false fields row
    → with_value row index value ≡ slice_set row index (record { value = value; status = 0 })
good_set fields [] index value is = refl
good_set [] (x ∷ row) index value is = absurd is
good_set (field ∷ fields) (x ∷ row) zero value is = ap (λ (n : ℕ). record { value = value; status = n } ∷ row) is.0.is_status
good_set (field ∷ fields) (x ∷ row) (suc index) value is = ap (λ (rest : List DataValue). x ∷ rest) (good_set fields row index value is.1)

pub set_good : (meta : MetaData) (row : List DataValue) (index : ℕ) (value : Value) → IsRow meta row → meta.quality ≡ false
    → with_value row index value ≡ slice_set row index (record { value = value; status = 0 })
set_good meta row index value is none = good_set meta.fields row index value (subst (λ (quality : Bool). IsRowOf quality meta.fields row) none is)

-- and any status that there may be is 0
pub set_any : (meta : MetaData) (row : List DataValue) (index : ℕ) (value : Value) (status : ℕ) → IsRow meta row → meta.quality ≡ false → IsStatus meta.quality status
    → with_value row index value ≡ slice_set row index (record { value = value; status = status })
set_any meta row index value status is none good =
    let zero_status : IsStatus false status = subst (λ (quality : Bool). IsStatus quality status) none good in
    set_good meta row index value is none ∙ ap (λ (n : ℕ). slice_set row index (record { value = value; status = n })) (sym zero_status)

-- each status of a row without quality is 0
pub good_at : (fields : List Field) (row : List DataValue) (index : ℕ) (x : DataValue) → IsRowOf false fields row → index < length fields → get_or row index x ≡ x → x.status ≡ 0
good_at [] row index x is within here = absurd (omega arith)
good_at (field ∷ fields) [] index x is within here = absurd is
good_at (field ∷ fields) (y ∷ row) zero x is within here = subst (λ (z : DataValue). z.status ≡ 0) here is.0.is_status
good_at (field ∷ fields) (y ∷ row) (suc index) x is within here = good_at fields row index x is.1 (omega arith) here

-- a field with another row's value, and its status where there is one
pub copied_good : (meta : MetaData) (from to after : List ℕ) (index : ℕ) → Belongs meta from → Belongs meta to → index < length meta.fields → meta.quality ≡ false
    → HoldsAt (λ x. row_in meta.fields after ≡ with_value (row_in meta.fields to) index x.value) (row_in meta.fields from) index
    → HoldsAt (λ x. row_in meta.fields after ≡ slice_set (row_in meta.fields to) index x) (row_in meta.fields from) index
copied_good meta from to after index of_from of_to within none copied =
    let s = stands meta from index of_from within in
    let good : s.x.status ≡ 0 = good_at meta.fields (row_in meta.fields from) index s.x (subst (λ (quality : Bool). IsRowOf quality meta.fields (row_in meta.fields from)) none of_from.row) within (s.here s.x) in
    λ d. copied d ∙ ap (λ (x : DataValue). with_value (row_in meta.fields to) index x.value) (s.here d)
    ∙ set_good meta (row_in meta.fields to) index s.x.value of_to.row none
    ∙ ap (λ (n : ℕ). slice_set (row_in meta.fields to) index (record { value = s.x.value; status = n })) (sym good)
    ∙ ap (slice_set (row_in meta.fields to) index) (sym (s.here d))

pub copied_both : (meta : MetaData) (from to mid after : List ℕ) (index status : ℕ) → Belongs meta from → index < length meta.fields → HasStatus (row_in meta.fields from) index status
    → HoldsAt (λ x. row_in meta.fields mid ≡ with_value (row_in meta.fields to) index x.value) (row_in meta.fields from) index
    → row_in meta.fields after ≡ with_status (row_in meta.fields mid) index status
    → HoldsAt (λ x. row_in meta.fields after ≡ slice_set (row_in meta.fields to) index x) (row_in meta.fields from) index
copied_both meta from to mid after index status of_from within has copied set =
    let s = stands meta from index of_from within in
    λ d. set ∙ ap (λ (row : List DataValue). with_status row index status) (copied d)
    ∙ ap (λ (x : DataValue). with_status (with_value (row_in meta.fields to) index x.value) index status) (s.here d)
    ∙ both_set (row_in meta.fields to) index s.x.value status
    ∙ ap (λ (n : ℕ). slice_set (row_in meta.fields to) index (record { value = s.x.value; status = n })) (sym (has s.x) ∙ ap (λ (x : DataValue). x.status) (s.here s.x))
    ∙ ap (slice_set (row_in meta.fields to) index) (sym (s.here d))
