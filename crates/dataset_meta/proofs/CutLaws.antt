-- Rows and patches cut to their first fields.
use Rattle.std.proofs.Common.{◌≡◌, ℕ, zero, suc, ◌+◌, ◌<◌, ◌≤◌, Bool, true, false, not, List, [], ◌∷◌, length, take, refl, sym, ap, ◌∙◌, subst, arith, nat_lt}
use Rattle.std.specs.Prelude.{filter, slice_set}
use Rattle.std.specs.List.{HoldsAt}
use Rattle.std.proofs.lemmas.List.{take-map, length-take-le}
use Rattle.std.proofs.lemmas.Bool.Decides.{nat_tests}
use Rattle.dataset_meta.specs.declared.field.Field.{Field}
use Rattle.dataset_meta.specs.DataValues.{DataValue, FitsField}
use Rattle.dataset_meta.specs.Metas.{MetaData, HasGrown}
use Rattle.dataset_meta.specs.Rows.{IsRowOf, IsRow, IsPatch, IsPatchFrom, opening_value, opening_row, patched, differs, differs_from, cons_if, row_cut, patch_cut}
use Rattle.dataset_meta.specs.SameValues.{same_data_value}
use Rattle.dataset_meta.proofs.RowLaws.{from-before}

-- the changes of the first fields
abbrev pub first : ℕ → List (ℕ × DataValue) → List (ℕ × DataValue)
first count patch = filter (λ change. nat_lt change.0 count) patch

take_set : (count : ℕ) (row : List DataValue) (index : ℕ) (x : DataValue) → index < count → take count (slice_set row index x) ≡ slice_set (take count row) index x
take_set zero row index x within = absurd (omega (arith, within))
take_set (suc count) [] index x within = refl
take_set (suc count) (y ∷ row) zero x within = refl
take_set (suc count) (y ∷ row) (suc index) x within = ap (λ (r : List DataValue). y ∷ r) (take_set count row index x (omega (arith, within)))

take_past : (count : ℕ) (row : List DataValue) (index : ℕ) (x : DataValue) → count ≤ index → take count (slice_set row index x) ≡ take count row
take_past zero row index x past = refl
take_past (suc count) [] index x past = refl
take_past (suc count) (y ∷ row) zero x past = absurd (omega (arith, past))
take_past (suc count) (y ∷ row) (suc index) x past = ap (λ (r : List DataValue). y ∷ r) (take_past count row index x (omega (arith, past)))

patched_case : (inside : Bool) (count : ℕ) (row : List DataValue) (change : ℕ × DataValue) (patch : List (ℕ × DataValue)) → nat_lt change.0 count ≡ inside
    → take count (patched (slice_set row change.0 change.1) patch) ≡ patched (take count (slice_set row change.0 change.1)) (first count patch)
    → take count (patched row (change ∷ patch)) ≡ patched (take count row) (first count (change ∷ patch))
patched_case true count row change patch e rest =
    let within : change.0 < count = grind (arith, nat_tests) in
    rw e (rest ∙ ap (λ (r : List DataValue). patched r (first count patch)) (take_set count row change.0 change.1 within))
patched_case false count row change patch e rest =
    let past : count ≤ change.0 = grind (arith, nat_tests) in
    rw e (rest ∙ ap (λ (r : List DataValue). patched r (first count patch)) (take_past count row change.0 change.1 past))

pub patched-cut : (count : ℕ) (row : List DataValue) (patch : List (ℕ × DataValue)) → take count (patched row patch) ≡ patched (take count row) (first count patch)
patched-cut count row [] = refl
patched-cut count row (change ∷ patch) =
    patched_case (nat_lt change.0 count) count row change patch refl (patched-cut count (slice_set row change.0 change.1) patch)

-- no change of the fields from `index` on is one of those before them
first_if : (same : Bool) (index count : ℕ) (new : DataValue) (patch : List (ℕ × DataValue)) → count ≤ index → first count patch ≡ []
    → first count (cons_if (not same) (index, new) patch) ≡ []
first_if true index count new patch past rest = rest
first_if false index count new patch past rest = let e : nat_lt index count ≡ false = grind (arith, nat_tests) in rw e rest

none_first : (olds news : List DataValue) (index count : ℕ) → count ≤ index → first count (differs_from index olds news) ≡ []
none_first [] news index count past = refl
none_first (old ∷ olds) [] index count past = refl
none_first (old ∷ olds) (new ∷ news) index count past =
    first_if (same_data_value old new) index count new _ past (none_first olds news (index + 1) count (omega (arith, past)))

cons_first : (same : Bool) (index count : ℕ) (new : DataValue) (cut patch : List (ℕ × DataValue)) → index < count → cut ≡ first count patch
    → cons_if (not same) (index, new) cut ≡ first count (cons_if (not same) (index, new) patch)
cons_first true index count new cut patch within rest = rest
cons_first false index count new cut patch within rest =
    let e : nat_lt index count ≡ true = grind (arith, nat_tests) in rw e (ap (λ (p : List (ℕ × DataValue)). (index, new) ∷ p) rest)

differs_cut : (count : ℕ) (olds news : List DataValue) (index : ℕ) → differs_from index (take count olds) (take count news) ≡ first (index + count) (differs_from index olds news)
differs_cut zero olds news index = sym (none_first olds news index (index + 0) (omega arith))
differs_cut (suc count) [] news index = refl
differs_cut (suc count) (old ∷ olds) [] index = refl
differs_cut (suc count) (old ∷ olds) (new ∷ news) index =
    let all : index + 1 + count ≡ index + suc count = omega arith in
    cons_first (same_data_value old new) index (index + suc count) new _ _ (omega arith)
    (subst (λ (n : ℕ). differs_from (index + 1) (take count olds) (take count news) ≡ first n (differs_from (index + 1) olds news)) all (differs_cut count olds news (index + 1)))

pub differs-cut : (count : ℕ) (old new : List DataValue) → differs (take count old) (take count new) ≡ first count (differs old new)
differs-cut count old new =
    let none : 0 + count ≡ count = omega arith in
    subst (λ (n : ℕ). differs (take count old) (take count new) ≡ first n (differs old new)) none (differs_cut count old new 0)

pub opening-cut : (short full : MetaData) → HasGrown short full → row_cut short (opening_row full.fields) ≡ opening_row short.fields
opening-cut short full grown = take-map opening_value (length short.fields) full.fields ∙ ap opening_row (sym grown.fields)

row_take : (count : ℕ) (quality : Bool) (fields : List Field) (row : List DataValue) → IsRowOf quality fields row → IsRowOf quality (take count fields) (take count row)
row_take zero quality fields row is = tt
row_take (suc count) quality [] [] is = tt
row_take (suc count) quality [] (x ∷ row) is = absurd is
row_take (suc count) quality (field ∷ fields) [] is = absurd is
row_take (suc count) quality (field ∷ fields) (x ∷ row) is = (is.0, row_take count quality fields row is.1)

pub IsRow-cut : (short full : MetaData) (row : List DataValue) → HasGrown short full → IsRow full row → IsRow short (row_cut short row)
IsRow-cut short full row grown is =
    subst (λ (fields : List Field). IsRowOf short.quality fields (row_cut short row)) (sym grown.fields)
    (subst (λ (quality : Bool). IsRowOf quality (take (length short.fields) full.fields) (row_cut short row)) (sym grown.quality)
    (row_take (length short.fields) full.quality full.fields row is))

-- what holds at an index holds there of the first fields
holds_take : (count : ℕ) (quality : Bool) (fields : List Field) (index : ℕ) (x : DataValue) → index < count
    → HoldsAt (λ field. FitsField quality field x) fields index → HoldsAt (λ field. FitsField quality field x) (take count fields) index
holds_take zero quality fields index x within fits = absurd (omega (arith, within))
holds_take (suc count) quality [] index x within fits = fits
holds_take (suc count) quality (field ∷ fields) zero x within fits = fits
holds_take (suc count) quality (field ∷ fields) (suc index) x within fits = holds_take count quality fields index x (omega (arith, within)) fits

patch_case : (inside : Bool) (count from : ℕ) (quality : Bool) (fields : List Field) (change : ℕ × DataValue) (patch : List (ℕ × DataValue)) → nat_lt change.0 count ≡ inside
    → count ≤ length fields → IsPatchFrom from quality fields (change ∷ patch)
    → IsPatchFrom (change.0 + 1) quality (take count fields) (first count patch) → IsPatchFrom from quality (take count fields) (first count (change ∷ patch))
patch_case true count from quality fields change patch e short is rest =
    let within : change.0 < count = grind (arith, nat_tests) in
    rw e (is.0, subst (λ (n : ℕ). change.0 < n) (sym (length-take-le count fields short)) within, holds_take count quality fields change.0 change.1 within is.2, rest)
patch_case false count from quality fields change patch e short is rest = rw e (from-before quality (take count fields) from (change.0 + 1) (first count patch) (omega (arith, is.0)) rest)

patch_first : (count from : ℕ) (quality : Bool) (fields : List Field) (patch : List (ℕ × DataValue)) → count ≤ length fields
    → IsPatchFrom from quality fields patch → IsPatchFrom from quality (take count fields) (first count patch)
patch_first count from quality fields [] short is = tt
patch_first count from quality fields (change ∷ patch) short is =
    patch_case (nat_lt change.0 count) count from quality fields change patch refl short is (patch_first count (change.0 + 1) quality fields patch short is.3)

take_within : {X : Type 0} (count : ℕ) (xs : List X) → length (take count xs) ≤ length xs
take_within zero xs = omega arith
take_within (suc count) [] = omega arith
take_within (suc count) (x ∷ xs) = let step = take_within count xs in omega (arith, step)

shorter : (short full : MetaData) → HasGrown short full → length short.fields ≤ length full.fields
shorter short full grown = subst (λ (n : ℕ). n ≤ length full.fields) (sym (ap (λ (fields : List Field). length fields) grown.fields)) (take_within (length short.fields) full.fields)

pub IsPatch-cut : (short full : MetaData) (patch : List (ℕ × DataValue)) → HasGrown short full → IsPatch full patch → IsPatch short (patch_cut short patch)
IsPatch-cut short full patch grown is =
    subst (λ (fields : List Field). IsPatchFrom 0 short.quality fields (patch_cut short patch)) (sym grown.fields)
    (subst (λ (quality : Bool). IsPatchFrom 0 quality (take (length short.fields) full.fields) (patch_cut short patch)) (sym grown.quality)
    (patch_first (length short.fields) 0 full.quality full.fields patch (shorter short full grown) is))
