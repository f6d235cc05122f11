-- Patches: the marked values, one value more, and a row with them laid in.
use Rattle.std.proofs.Common.{◌≡◌, ◌≢◌, ℕ, zero, suc, ◌+◌, ◌*◌, ◌%◌, ◌^◌, ◌<◌, ◌≤◌, Bool, true, false, List, [], ◌∷◌, ◌++◌, length, refl, sym, ap, ◌∙◌, subst, arith, nat_lt, Some, append_assoc}
use Rattle.std.specs.Prelude.{◌==◌, slice_set, slice_get, bit_or}
use Rattle.std.specs.Int.{bit_at, w64}
use Rattle.std.proofs.lemmas.Bool.Decides.{nat_tests}
use Rattle.std.proofs.lemmas.Nat.{or_lt, one_shl, pow_pos, pow_below}
use Rattle.std.proofs.lemmas.Nat.Bits.{bit_at-zero, bit_at_set_same, bit_at_set_other}
use Rattle.std.proofs.lemmas.List.{get_or-map, length_push}
use Rattle.std.proofs.lemmas.Option.{slice_get-get_or}
use Rattle.dataset_meta.specs.declared.field.Field.{Field}
use Rattle.dataset_meta.specs.DataValues.{DataValue}
use Rattle.dataset_meta.specs.Metas.{MetaData}
use Rattle.dataset_meta.specs.Rows.{IsRowOf, IsPatch, IsPatchFrom, cons_if, put_in, opening_value, opening_row}
use Rattle.dataset_meta.proofs.RowLaws.{length_row, fits_if, slice_get-set_other}
use Rattle.row_words.specs.declared.row.Row.{Row}
use Rattle.row_words.specs.declared.patch.Patch.{Patch}
use Rattle.row_words.specs.Belonging.{row_in, Belongs}
use Rattle.row_words.specs.Patches.{marked_from, patch_in, IsPatchOf}

-- a value that is put in front of the others
front_case : (b : Bool) (v : DataValue) (rest : List (ℕ × DataValue)) (from index : ℕ) (value : DataValue) → index < from → put_in rest index value ≡ (index, value) ∷ rest
    → put_in (cons_if b (from, v) rest) index value ≡ (index, value) ∷ cons_if b (from, v) rest
front_case true v rest from index value before step =
    let later : nat_lt from index ≡ false = grind (arith, nat_tests) in
    let other : (from == index) ≡ false = grind (arith, nat_tests) in
    rw (later, other) refl
front_case false v rest from index value before step = step

marked_front : (row : List DataValue) (from index mask : ℕ) (value : DataValue) → index < from → put_in (marked_from from mask row) index value ≡ (index, value) ∷ marked_from from mask row
marked_front [] from index mask value before = refl
marked_front (v ∷ row) from index mask value before =
    front_case (bit_at mask from == 1) v (marked_from (from + 1) mask row) from index value before (marked_front row (from + 1) index mask value (omega arith))

-- in the place of the one that is there
here_case : (b : Bool) (v : DataValue) (rest : List (ℕ × DataValue)) (from : ℕ) (value : DataValue) → put_in rest from value ≡ (from, value) ∷ rest
    → put_in (cons_if b (from, v) rest) from value ≡ (from, value) ∷ rest
here_case true v rest from value step =
    let later : nat_lt from from ≡ false = grind (arith, nat_tests) in
    let same : (from == from) ≡ true = grind (arith, nat_tests) in
    rw (later, same) refl
here_case false v rest from value step = step

-- behind one that stands before it
pub past_case : (b : Bool) (v : DataValue) (rest : List (ℕ × DataValue)) (from index : ℕ) (value : DataValue) → from < index
    → put_in (cons_if b (from, v) rest) index value ≡ cons_if b (from, v) (put_in rest index value)
past_case true v rest from index value before = let later : nat_lt from index ≡ true = grind (arith, nat_tests) in rw later refl
past_case false v rest from index value before = refl

-- masks with the same bits mark the same
pub marked_same : (row : List DataValue) (from mask other : ℕ) → ((j : ℕ) → from ≤ j → bit_at other j ≡ bit_at mask j) → marked_from from other row ≡ marked_from from mask row
marked_same [] from mask other same = refl
marked_same (v ∷ row) from mask other same =
    ap (λ (bit : ℕ). cons_if (bit == 1) (from, v) (marked_from (from + 1) other row)) (same from (omega arith))
    ∙ ap (λ (rest : List (ℕ × DataValue)). cons_if (bit_at mask from == 1) (from, v) rest) (marked_same row (from + 1) mask other (λ j after. same j (omega arith)))

-- one value more is marked
marked_put : (row : List DataValue) (from k at mask other : ℕ) (value : DataValue) → k < length row → at ≡ from + k → bit_at other at ≡ 1 → ((j : ℕ) → j ≢ at → bit_at other j ≡ bit_at mask j)
    → marked_from from other (slice_set row k value) ≡ put_in (marked_from from mask row) at value
marked_put [] from k at mask other value within is set same = absurd (omega arith)
marked_put (v ∷ row) from zero at mask other value within is set same =
    let here : at ≡ from = omega arith in
    rw here
    (ap (λ (bit : ℕ). cons_if (bit == 1) (from, value) (marked_from (from + 1) other row)) (sym (ap (bit_at other) here) ∙ set)
    ∙ ap (λ (rest : List (ℕ × DataValue)). (from, value) ∷ rest) (marked_same row (from + 1) mask other (λ j after. let ne : j ≢ at = omega arith in same j ne))
    ∙ sym (here_case (bit_at mask from == 1) v (marked_from (from + 1) mask row) from value (marked_front row (from + 1) from mask value (omega arith))))
marked_put (v ∷ row) from (suc k) at mask other value within is set same =
    let ne : from ≢ at = omega arith in
    ap (λ (bit : ℕ). cons_if (bit == 1) (from, v) (marked_from (from + 1) other (slice_set row k value))) (same from ne)
    ∙ ap (λ (rest : List (ℕ × DataValue)). cons_if (bit_at mask from == 1) (from, v) rest) (marked_put row (from + 1) k at mask other value (omega arith) (omega arith) set same)
    ∙ sym (past_case (bit_at mask from == 1) v (marked_from (from + 1) mask row) from at value (omega arith))

-- a patch with one field more
pub record Puts (meta : MetaData) (patch : Patch) (index : ℕ) (value : DataValue) (after : Patch) : Type 0 where
  pub of : IsPatchOf meta after
  pub put : patch_in meta.fields after ≡ put_in (patch_in meta.fields patch) index value

pub put_is : (meta : MetaData) (patch : Patch) (index : ℕ) (value : DataValue) (row : Row) → index < 64 → IsPatchOf meta patch → index < length meta.fields
    → Belongs meta row.words → row_in meta.fields row.words ≡ slice_set (row_in meta.fields patch.row.words) index value
    → Puts meta patch index value (record { mask = bit_or patch.mask (1 * 2 ^ index % 2 ^ 64); row = row })
unfolding patch_in
put_is meta patch index value row small of within belongs set =
    let here : bit_at (bit_or patch.mask (1 * 2 ^ index % 2 ^ 64)) index ≡ 1 = bit_at_set_same w64 patch.mask index small in
    let others = λ (j : ℕ) (ne : j ≢ index). bit_at_set_other w64 patch.mask index small j ne in
    let shifted : 1 * 2 ^ index % 2 ^ 64 ≡ 2 ^ index = one_shl index 64 small in
    let row_of = row_in meta.fields patch.row.words in
    record {
      of = record {
        marks = or_lt (length meta.fields) patch.mask (1 * 2 ^ index % 2 ^ 64) of.marks (rw shifted (pow_below index (length meta.fields) within));
        belongs = belongs;
        unmarked = λ k inside clear d.
            let ne : k ≢ index = λ e. absurd (omega (arith, here, clear, ap (bit_at (bit_or patch.mask (1 * 2 ^ index % 2 ^ 64))) e)) in
            ap (λ (values : List DataValue). slice_get values k) set ∙ slice_get-set_other row_of index k value ne
            ∙ of.unmarked k inside (sym (others k ne) ∙ clear) d;
      };
      put = ap (marked_from 0 (bit_or patch.mask (1 * 2 ^ index % 2 ^ 64))) set
          ∙ marked_put row_of 0 index index patch.mask (bit_or patch.mask (1 * 2 ^ index % 2 ^ 64)) value
          (omega (arith, length_row meta.quality meta.fields row_of of.belongs.row)) (omega arith) here others;
    }

-- an empty mask marks none
pub none_marked : (row : List DataValue) (from : ℕ) → marked_from from 0 row ≡ []
none_marked [] from = refl
none_marked (v ∷ row) from =
    ap (λ (bit : ℕ). cons_if (bit == 1) (from, v) (marked_from (from + 1) 0 row)) (bit_at-zero from) ∙ none_marked row (from + 1)

-- nothing is marked in the empty patch
pub patch_in-none : (fields : List Field) (row : Row) → patch_in fields (record { mask = 0; row = row }) ≡ []
unfolding patch_in
patch_in-none fields row = none_marked (row_in fields row.words) 0

pub IsPatchOf-none : (meta : MetaData) (row : Row) → Belongs meta row.words → row_in meta.fields row.words ≡ opening_row meta.fields → IsPatchOf meta (record { mask = 0; row = row })
IsPatchOf-none meta row belongs zeros = record {
  marks = pow_pos (length meta.fields);
  belongs = belongs;
  unmarked = λ k within clear d.
      ap (λ (values : List DataValue). slice_get values k) zeros
      ∙ slice_get-get_or (opening_row meta.fields) k (opening_value d) (omega (arith, length_row meta.quality meta.fields (row_in meta.fields row.words) belongs.row, ap length zeros))
      ∙ ap Some (get_or-map opening_value meta.fields k d (opening_value d) within);
}

-- marked fields are a patch
marked_fits : (quality : Bool) (fields front : List Field) (row : List DataValue) (mask : ℕ) → IsRowOf quality fields row
    → IsPatchFrom (length front) quality (front ++ fields) (marked_from (length front) mask row)
marked_fits quality [] front [] mask is = tt
marked_fits quality [] front (v ∷ row) mask is = absurd is
marked_fits quality (field ∷ fields) front [] mask is = absurd is
marked_fits quality (field ∷ fields) front (v ∷ row) mask is =
    fits_if quality (bit_at mask (length front) == 1) fields front field v _ is.0
    (subst (λ (n : ℕ). IsPatchFrom n quality (front ++ field ∷ fields) (marked_from n mask row)) (length_push front field)
    (subst (λ (all : List Field). IsPatchFrom (length (front ++ field ∷ [])) quality all (marked_from (length (front ++ field ∷ [])) mask row)) (append_assoc front (field ∷ []) fields)
    (marked_fits quality fields (front ++ field ∷ []) row mask is.1)))

pub IsPatch-patch_in : (meta : MetaData) (patch : Patch) → IsPatchOf meta patch → IsPatch meta (patch_in meta.fields patch)
unfolding patch_in
IsPatch-patch_in meta patch of = marked_fits meta.quality meta.fields [] (row_in meta.fields patch.row.words) patch.mask of.belongs.row
