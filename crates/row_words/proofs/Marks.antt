-- The marks of a mask, the lowest first.
use Rattle.std.proofs.Common.{◌≡◌, ◌≢◌, ℕ, zero, suc, ◌+◌, ◌*◌, ◌%◌, ◌^◌, ◌<◌, ◌≤◌, List, [], ◌∷◌, sym, ap, ◌∙◌, arith, Some, inl, inr}
use Rattle.std.specs.Prelude.{◌==◌, slice_get, bit_and}
use Rattle.std.specs.Int.{bit_at, bit_not, trailing_zeros, w64}
use Rattle.std.proofs.lemmas.Bool.{cases_eq, cases_lt}
use Rattle.std.proofs.lemmas.Nat.{and_le_l}
use Rattle.std.proofs.lemmas.Nat.Bits.{bit_at-trailing_zeros, bit_at_clear_same, bit_at_clear_other, bit_at_above}
use Rattle.dataset_meta.specs.DataValues.{DataValue}
use Rattle.dataset_meta.specs.Rows.{cons_if}
use Rattle.row_words.specs.Patches.{marked_from}
use Rattle.row_words.proofs.PatchLaws.{marked_same}

-- the mask without its lowest mark
abbrev pub later : ℕ → ℕ
later left = bit_and left (bit_not w64 (1 * 2 ^ trailing_zeros w64 left % 2 ^ 64))

-- the lowest mark is that of a field, and the others stay
pub record Lowest (left count : ℕ) : Type 0 where
  pub within : trailing_zeros w64 left < count
  pub here : bit_at left (trailing_zeros w64 left) ≡ 1
  pub before : (i : ℕ) → i < trailing_zeros w64 left → bit_at left i ≡ 0
  pub gone : bit_at (later left) (trailing_zeros w64 left) ≡ 0
  pub others : (j : ℕ) → j ≢ trailing_zeros w64 left → bit_at (later left) j ≡ bit_at left j
  pub fewer : later left < left

pub lowest : (left count : ℕ) → left ≢ 0 → left < 2 ^ 64 → left < 2 ^ count → Lowest left count
lowest left count some fits marks =
    let first = bit_at-trailing_zeros w64 left (omega arith) fits in
    let gone = bit_at_clear_same w64 left (trailing_zeros w64 left) first.0 in
    let below : later left ≤ left = and_le_l left (bit_not w64 (1 * 2 ^ trailing_zeros w64 left % 2 ^ 64)) in
    record {
      within = elim (cases_lt (trailing_zeros w64 left) count) [
        | inl inside ↦ inside
        | inr outside ↦ absurd (omega (arith, first.1, bit_at_above left count (trailing_zeros w64 left) marks (omega arith)))
      ];
      here = first.1;
      before = first.2;
      gone = gone;
      others = λ j ne. elim (cases_lt j 64) [
        | inl low ↦ bit_at_clear_other w64 left (trailing_zeros w64 left) first.0 j low ne
        | inr high ↦ bit_at_above (later left) 64 j (omega arith) (omega arith) ∙ sym (bit_at_above left 64 j fits (omega arith))
      ];
      fewer = elim (cases_eq (later left) left) [
        | inl same ↦ absurd (omega (arith, gone, first.1, ap (λ (n : ℕ). bit_at n (trailing_zeros w64 left)) same))
        | inr other ↦ omega arith
      ];
    }

-- the first of what is marked, and the rest
pub marked_first : (row : List DataValue) (from k at mask other : ℕ) (value : DataValue) → at ≡ from + k → slice_get row k ≡ Some value → bit_at mask at ≡ 1 → bit_at other at ≡ 0
    → ((j : ℕ) → j < at → bit_at mask j ≡ 0) → ((j : ℕ) → j ≢ at → bit_at other j ≡ bit_at mask j) → marked_from from mask row ≡ (at, value) ∷ marked_from from other row
marked_first [] from k at mask other value is here set gone before same = absurd cc
marked_first (v ∷ row) from zero at mask other value is here set gone before same =
    let here_at : at ≡ from = omega arith in
    let v_is : v ≡ value = cc in
    ap (λ (bit : ℕ). cons_if (bit == 1) (from, v) (marked_from (from + 1) mask row)) (sym (ap (bit_at mask) here_at) ∙ set)
    ∙ ap (λ (rest : List (ℕ × DataValue)). (from, v) ∷ rest) (sym (marked_same row (from + 1) mask other (λ j after. let ne : j ≢ at = omega arith in same j ne)))
    ∙ ap (λ (bit : ℕ). (from, v) ∷ cons_if (bit == 1) (from, v) (marked_from (from + 1) other row)) (sym (sym (ap (bit_at other) here_at) ∙ gone))
    ∙ ap (λ (i : ℕ). (i, v) ∷ marked_from from other (v ∷ row)) (sym here_at)
    ∙ ap (λ (x : DataValue). (at, x) ∷ marked_from from other (v ∷ row)) v_is
marked_first (v ∷ row) from (suc k) at mask other value is here set gone before same =
    let ne : from ≢ at = omega arith in
    let unmarked = before from (omega arith) in
    ap (λ (bit : ℕ). cons_if (bit == 1) (from, v) (marked_from (from + 1) mask row)) unmarked
    ∙ marked_first row (from + 1) k at mask other value (omega arith) here set gone before same
    ∙ ap (λ (bit : ℕ). (at, value) ∷ cons_if (bit == 1) (from, v) (marked_from (from + 1) other row)) (sym (same from ne ∙ unmarked))
