-- Lemmas on the bits of words: a mark set, and a run of marks cleared.
use Rattle.std.proofs.Common.{◌≡◌, ◌≢◌, ℕ, ◌+◌, ◌-◌, ◌*◌, ◌/◌, ◌%◌, ◌^◌, ◌<◌, ◌≤◌, ◌⊎◌, inl, inr, min, true, false, List, length, get_or, refl, sym, ◌∙◌, ap, bit_and, bit_or, arith, eq-eqb, get_or-set_same, get_or-set_other}
use Rattle.std.proofs.Math.Dec.{eqb}
use Rattle.std.proofs.Math.ListN.{set}
use Rattle.std.proofs.lemmas.Bool.Decides.{eqb_tells, leb_tells}
use Rattle.std.proofs.lemmas.Nat.{and_le_l}
use Rattle.std.proofs.lemmas.Nat.Bits.{bit_at-zero, bit_at_and, bit_at_not, bit_at_set_same, bit_at_set_other, bit_at_mask_inside, bit_at_mask_below, bit_at_ones, bit_at_ones_above, bit_at-lt, ones_shl, ones_shr}
use Rattle.std.specs.Int.{w64, bit_at, bit_not}
use Rattle.replay_window.specs.Marks.{is_marked}

-- equal, or not
same_or_not : (a b : ℕ) → (a ≡ b) ⊎ (a ≢ b)
same_or_not a b = elim (eqb_tells a b) [ inl t ↦ inl t.1 | inr f ↦ inr f.1 ]

-- the word of a mark, after a write of one word
word_same : (words : List ℕ) (place word x : ℕ) → place < length words → x / 64 % 16 ≡ place →
    is_marked (set words place word) x ≡ eqb (bit_at word (x % 64)) 1
word_same words place word x within same =
    ap (λ i. eqb (bit_at (get_or (set words place word) i 0) (x % 64)) 1) same
    ∙ ap (λ w. eqb (bit_at w (x % 64)) 1) (get_or-set_same words place word 0 within)

word_other : (words : List ℕ) (place word x : ℕ) → x / 64 % 16 ≢ place →
    is_marked (set words place word) x ≡ is_marked words x
word_other words place word x other =
    ap (λ w. eqb (bit_at w (x % 64)) 1) (get_or-set_other words place (x / 64 % 16) word 0 other)

-- the word with the number's bit set
abbrev with_mark : List ℕ → ℕ → ℕ
with_mark words number = bit_or (get_or words (number / 64 % 16) 0) (1 * 2 ^ (number % 64) % 18446744073709551616)

pub marked_same : (words : List ℕ) (number : ℕ) → length words ≡ 16 →
    is_marked (set words (number / 64 % 16) (with_mark words number)) number ≡ true
marked_same words number long =
    word_same words (number / 64 % 16) (with_mark words number) number (omega arith) refl
    ∙ eq-eqb _ 1 (bit_at_set_same w64 (get_or words (number / 64 % 16) 0) (number % 64) (omega arith))

pub marked_other : (words : List ℕ) (number x : ℕ) → length words ≡ 16 → x % 1024 ≢ number % 1024 →
    is_marked (set words (number / 64 % 16) (with_mark words number)) x ≡ is_marked words x
marked_other words number x long apart =
    elim (same_or_not (x / 64 % 16) (number / 64 % 16)) [
      | inl same ↦ (
          let other_bit : x % 64 ≢ number % 64 = omega arith in
          word_same words (number / 64 % 16) (with_mark words number) x (omega arith) same
          ∙ ap (λ b. eqb b 1) (bit_at_set_other w64 (get_or words (number / 64 % 16) 0) (number % 64) (omega arith) (x % 64) other_bit)
          ∙ ap (λ i. eqb (bit_at (get_or words i 0) (x % 64)) 1) (sym same)
          )
      | inr other ↦ word_other words (number / 64 % 16) (with_mark words number) x other
    ]

-- the ones from low to high
abbrev ones : ℕ → ℕ → ℕ
ones low high = bit_and (18446744073709551615 * 2 ^ low % 18446744073709551616) (18446744073709551615 / 2 ^ (63 - high))

-- a bit of those ones
ones_bit : (low high i : ℕ) → low < 64 → high < 64 →
    bit_at (ones low high) i ≡ min (bit_at (2 ^ 64 - 2 ^ low) i) (bit_at (2 ^ (high + 1) - 1) i)
ones_bit low high i low_bit high_bit =
    let width : 64 - (63 - high) ≡ high + 1 = omega arith in
    let from_low : 18446744073709551615 * 2 ^ low % 18446744073709551616 ≡ 2 ^ 64 - 2 ^ low = ones_shl 64 low (omega arith) in
    let to_high : 18446744073709551615 / 2 ^ (63 - high) ≡ 2 ^ (high + 1) - 1 =
    ones_shr 64 (63 - high) (omega arith) ∙ ap (λ k. 2 ^ k - 1) width in
    bit_at_and (18446744073709551615 * 2 ^ low % 18446744073709551616) (18446744073709551615 / 2 ^ (63 - high)) i
    ∙ ap (λ n. min (bit_at n i) (bit_at (18446744073709551615 / 2 ^ (63 - high)) i)) from_low
    ∙ ap (λ n. min (bit_at (2 ^ 64 - 2 ^ low) i) (bit_at n i)) to_high

-- the word without those ones
abbrev pub without_ones : ℕ → ℕ → ℕ → ℕ
without_ones word low high = bit_and word (18446744073709551615 - ones low high)

without_bit : (word low high i : ℕ) → low < 64 → high < 64 → i < 64 →
    bit_at (without_ones word low high) i ≡ min (bit_at word i) (1 - bit_at (ones low high) i)
without_bit word low high i low_bit high_bit bit =
    let fits : ones low high < 18446744073709551616 =
    omega (arith, and_le_l (18446744073709551615 * 2 ^ low % 18446744073709551616) (18446744073709551615 / 2 ^ (63 - high))) in
    bit_at_and word (bit_not w64 (ones low high)) i
    ∙ ap (λ b. min (bit_at word i) b) (bit_at_not w64 (ones low high) i fits bit)

pub without_inside : (word low high i : ℕ) → low < 64 → high < 64 → low ≤ i → i ≤ high →
    bit_at (without_ones word low high) i ≡ 0
without_inside word low high i low_bit high_bit from_low to_high =
    omega (
      arith,
      without_bit word low high i low_bit high_bit (omega arith),
      ones_bit low high i low_bit high_bit,
      bit_at_mask_inside low 64 i from_low (omega arith),
      bit_at_ones (high + 1) i (omega arith),
    )

pub without_below : (word low high i : ℕ) → low < 64 → high < 64 → i < low →
    bit_at (without_ones word low high) i ≡ bit_at word i
without_below word low high i low_bit high_bit below =
    omega (
      arith,
      without_bit word low high i low_bit high_bit (omega arith),
      ones_bit low high i low_bit high_bit,
      bit_at_mask_below low 64 i below,
      bit_at-lt word i,
    )

pub without_above : (word low high i : ℕ) → low < 64 → high < 64 → high < i → i < 64 →
    bit_at (without_ones word low high) i ≡ bit_at word i
without_above word low high i low_bit high_bit above bit =
    omega (
      arith,
      without_bit word low high i low_bit high_bit bit,
      ones_bit low high i low_bit high_bit,
      bit_at_ones_above (high + 1) i (omega arith),
      bit_at-lt word i,
    )

-- the marks from first to last before a block of 64 numbers are cleared, and those that a window
-- up to last keeps are as they were
pub record IsClearedTo (old new : List ℕ) (first last block : ℕ) : Type 0 where
  pub cleared : (x : ℕ) → first ≤ x → x ≤ last → x < 64 * block → is_marked new x ≡ false
  pub kept : (x : ℕ) → x < first → last < x + 1024 → is_marked new x ≡ is_marked old x

-- ---- the marks of a run of numbers, cleared

-- the bits from low to high of the word of a block are cleared, and no others
pub record ClearsWord (old new : List ℕ) (block low high : ℕ) : Type 0 where
  pub cleared : (x : ℕ) → x / 64 % 16 ≡ block % 16 → low ≤ x % 64 → x % 64 ≤ high → is_marked new x ≡ false
  pub other_words : (x : ℕ) → x / 64 % 16 ≢ block % 16 → is_marked new x ≡ is_marked old x
  pub below : (x : ℕ) → x % 64 < low → is_marked new x ≡ is_marked old x
  pub above : (x : ℕ) → high < x % 64 → is_marked new x ≡ is_marked old x

-- a mark that isn't among those bits is kept
kept_by_word : (old new : List ℕ) (block low high : ℕ) → ClearsWord old new block low high → (x : ℕ)
    → (x / 64 % 16 ≡ block % 16 → low ≤ x % 64 → x % 64 ≤ high → ⊥) → is_marked new x ≡ is_marked old x
kept_by_word old new block low high word x out =
    elim (same_or_not (x / 64 % 16) (block % 16)) [
      | inl same ↦ elim (leb_tells low (x % 64)) [
        | inl from ↦ elim (leb_tells (x % 64) high) [
          | inl to ↦ absurd (out same from.1 to.1)
          | inr above ↦ word.above x above.1
        ]
        | inr below ↦ word.below x below.1
      ]
      | inr other ↦ word.other_words x other
    ]

-- the marks from first to last are cleared, and those that a window up to last keeps are as they were
pub record IsCleared (old new : List ℕ) (first last : ℕ) : Type 0 where
  pub cleared : (x : ℕ) → first ≤ x → x ≤ last → is_marked new x ≡ false
  pub kept : (x : ℕ) → x < first → last < x + 1024 → is_marked new x ≡ is_marked old x

-- numbers of one block
pub in_one_block : (old new : List ℕ) (first last : ℕ) → first ≤ last → first / 64 ≡ last / 64
    → ClearsWord old new (first / 64) (first % 64) (last % 64) → IsCleared old new first last
in_one_block old new first last order same word = record {
  cleared = λ x from to.
      let here : x / 64 ≡ first / 64 = omega arith in
      word.cleared x (ap (λ q. q % 16) here) (omega arith) (omega arith);
  kept = λ x before near. kept_by_word old new (first / 64) (first % 64) (last % 64) word x (λ here from to. omega arith);
}

-- those of the first block
pub from_first_block : (old new : List ℕ) (first last : ℕ) → first / 64 < last / 64
    → ClearsWord old new (first / 64) (first % 64) 63 → IsClearedTo old new first last (first / 64 + 1)
from_first_block old new first last apart word = record {
  cleared = λ x from to below.
      let here : x / 64 ≡ first / 64 = omega arith in
      word.cleared x (ap (λ q. q % 16) here) (omega arith) (omega arith);
  kept = λ x before near. kept_by_word old new (first / 64) (first % 64) 63 word x (λ here from to. omega arith);
}

-- and those of a block between
pub over_block : (old words : List ℕ) (first last block : ℕ) → IsClearedTo old words first last block → block % 16 < length words
    → first / 64 < block → block < last / 64 → IsClearedTo old (set words (block % 16) 0) first last (block + 1)
over_block old words first last block before within after_first before_last = record {
  cleared = λ x from to below.
      elim (same_or_not (x / 64 % 16) (block % 16)) [
        | inl here ↦ word_same words (block % 16) 0 x within here ∙ ap (λ b. eqb b 1) (bit_at-zero (x % 64))
        | inr other ↦ (
            let earlier : x / 64 ≢ block = λ same. other (ap (λ q. q % 16) same) in
            word_other words (block % 16) 0 x other ∙ before.cleared x from to (omega arith)
            )
      ];
  kept = λ x early near.
      let other : x / 64 % 16 ≢ block % 16 = λ same. omega arith in
      word_other words (block % 16) 0 x other ∙ before.kept x early near;
}

-- and those of the last block
pub to_last_block : (old words new : List ℕ) (first last : ℕ) → IsClearedTo old words first last (last / 64) → first / 64 < last / 64
    → ClearsWord words new (last / 64) 0 (last % 64) → IsCleared old new first last
to_last_block old words new first last before apart word = record {
  cleared = λ x from to.
      elim (same_or_not (x / 64 % 16) (last / 64 % 16)) [
        | inl here ↦ elim (leb_tells (x % 64) (last % 64)) [
          | inl low ↦ word.cleared x here (omega arith) low.1
          | inr high ↦ word.above x high.1 ∙ before.cleared x from to (omega (arith, high.1))
        ]
        | inr other ↦ (
            let earlier : x / 64 ≢ last / 64 = λ same. other (ap (λ q. q % 16) same) in
            word.other_words x other ∙ before.cleared x from to (omega arith)
            )
      ];
  kept = λ x early near.
      kept_by_word words new (last / 64) 0 (last % 64) word x (λ here from to. omega arith) ∙ before.kept x early near;
}
