-- The bits of words: a run of ones, a word with more bits set, and words that have all bits of a message.
use Rattle.std.proofs.Common.{◌≡◌, ◌≢◌, ℕ, ◌+◌, ◌-◌, ◌*◌, ◌/◌, ◌%◌, ◌^◌, ◌<◌, ◌≤◌, ◌⊎◌, inl, inr, min, max, true, false, Bool, ◌||◌, List, length, get_or, refl, sym, ◌∙◌, ap, bit_and, bit_or, arith, get_or-set_same, get_or-set_other, lit<}
use Rattle.std.proofs.Math.Dec.{eqb}
use Rattle.std.proofs.Math.ListN.{set}
use Rattle.std.proofs.lemmas.Bool.{eqb-true, eq-eqb, cases_eq, cases_lt, false_from_ne_true}
use Rattle.std.proofs.lemmas.Bool.Decides.{nat_tests}
use Rattle.std.proofs.lemmas.Nat.Bits.{bit_at_and, bit_at_or, bit_at_mask_inside, bit_at_mask_below, bit_at_ones, bit_at_ones_above, bit_at-lt, ones_shl, ones_shr, same_from_bits, same_from_bits_below}
use Rattle.std.specs.Int.{bit_at}
use Rattle.std.specs.List.{list_all, range_with_len}
use Rattle.chunker.specs.Cover.{has_offset, is_between}
use Rattle.chunker.proofs.RangeLaws.{all_below, all_from_below}

-- ---- the ones from low to high

abbrev pub ones : ℕ → ℕ → ℕ
ones low high = bit_and (18446744073709551615 * 2 ^ low % 18446744073709551616) (18446744073709551615 / 2 ^ (63 - high))

ones_bit : (low high i : ℕ) → low < 64 → high < 64 → bit_at (ones low high) i ≡ min (bit_at (2 ^ 64 - 2 ^ low) i) (bit_at (2 ^ (high + 1) - 1) i)
ones_bit low high i low_bit high_bit =
    let width : 64 - (63 - high) ≡ high + 1 = omega arith in
    let from_low : 18446744073709551615 * 2 ^ low % 18446744073709551616 ≡ 2 ^ 64 - 2 ^ low = ones_shl 64 low (omega arith) in
    let to_high : 18446744073709551615 / 2 ^ (63 - high) ≡ 2 ^ (high + 1) - 1 =
    ones_shr 64 (63 - high) (omega arith) ∙ ap (λ k. 2 ^ k - 1) width in
    bit_at_and (18446744073709551615 * 2 ^ low % 18446744073709551616) (18446744073709551615 / 2 ^ (63 - high)) i
    ∙ ap (λ n. min (bit_at n i) (bit_at (18446744073709551615 / 2 ^ (63 - high)) i)) from_low
    ∙ ap (λ n. min (bit_at (2 ^ 64 - 2 ^ low) i) (bit_at n i)) to_high

pub ones_inside : (low high i : ℕ) → high < 64 → low ≤ i → i ≤ high → bit_at (ones low high) i ≡ 1
ones_inside low high i high_bit from_low to_high =
    omega (arith, ones_bit low high i (omega arith) high_bit, bit_at_mask_inside low 64 i from_low (omega arith), bit_at_ones (high + 1) i (omega arith))

pub ones_below : (low high i : ℕ) → low ≤ high → high < 64 → i < low → bit_at (ones low high) i ≡ 0
ones_below low high i ordered high_bit below = omega (arith, ones_bit low high i (omega arith) high_bit, bit_at_mask_below low 64 i below)

pub ones_above : (low high i : ℕ) → low ≤ high → high < 64 → high < i → bit_at (ones low high) i ≡ 0
ones_above low high i ordered high_bit above = omega (arith, ones_bit low high i (omega arith) high_bit, bit_at_ones_above (high + 1) i (omega arith))

-- ---- a word that has them

pub has_each : (word mask high i : ℕ) → eqb (bit_and word mask) mask ≡ true → bit_at mask i ≡ 1 → bit_at word i ≡ 1
has_each word mask high i e one =
    let same : bit_at (bit_and word mask) i ≡ bit_at mask i = ap (λ n. bit_at n i) (eqb-true (bit_and word mask) mask e) in
    omega (arith, same, one, bit_at_and word mask i, bit_at-lt word i)

pub has_from : (word mask high : ℕ) → ((i : ℕ) → i ≤ high → bit_at mask i ≡ 1) → ((i : ℕ) → high < i → bit_at mask i ≡ 0) → ((i : ℕ) → i ≤ high → bit_at word i ≡ 1)
    → eqb (bit_and word mask) mask ≡ true
has_from word mask high ins above each = eq-eqb (bit_and word mask) mask (same_from_bits (bit_and word mask) mask (λ i. elim (cases_lt high i) [
  | inl more ↦ omega (arith, bit_at_and word mask i, above i more)
  | inr less ↦ omega (arith, bit_at_and word mask i, ins i less, each i less)
]))

-- ---- a word in its place

word_same : (words : List ℕ) (place word x : ℕ) → place < length words → x / 64 ≡ place → has_offset (set words place word) x ≡ eqb (bit_at word (x % 64)) 1
word_same words place word x within same =
    ap (λ i. eqb (bit_at (get_or (set words place word) i 0) (x % 64)) 1) same
    ∙ ap (λ w. eqb (bit_at w (x % 64)) 1) (get_or-set_same words place word 0 within)

word_other : (words : List ℕ) (place word x : ℕ) → x / 64 ≢ place → has_offset (set words place word) x ≡ has_offset words x
word_other words place word x other = ap (λ w. eqb (bit_at w (x % 64)) 1) (get_or-set_other words place (x / 64) word 0 other)

-- the tests of a bit that a run of ones is laid over
laid_bit : (old mask : ℕ) (between : Bool) → old < 2 → (between ≡ true → mask ≡ 1) → (between ≡ false → mask ≡ 0) → eqb (max old mask) 1 ≡ (between || eqb old 1)
laid_bit old mask true less set clear = let one : mask ≡ 1 = set refl in eq-eqb (max old mask) 1 (omega arith)
laid_bit old mask false less set clear = let none : mask ≡ 0 = clear refl in ap (λ n. eqb n 1) (omega arith)

between_no : (first end x : ℕ) → (x < first) ⊎ (end ≤ x) → is_between first end x ≡ false
between_no first end x (inl a) = grind (arith, nat_tests)
between_no first end x (inr a) = grind (arith, nat_tests)

pub word_laid : (words : List ℕ) (block low high mask x : ℕ) → block < length words → high < 64
    → ((i : ℕ) → low ≤ i → i ≤ high → bit_at mask i ≡ 1) → ((i : ℕ) → i < low → bit_at mask i ≡ 0) → ((i : ℕ) → high < i → bit_at mask i ≡ 0)
    → has_offset (set words block (bit_or (get_or words block 0) mask)) x ≡ (is_between (64 * block + low) (64 * block + high + 1) x || has_offset words x)
word_laid words block low high mask x within high_bit ins below above = elim (cases_eq (x / 64) block) [
  | inl same ↦ (
      let word = get_or words block 0 in
      let set_in : is_between (64 * block + low) (64 * block + high + 1) x ≡ true → bit_at mask (x % 64) ≡ 1 =
      λ t. let at : (64 * block + low ≤ x) × (x < 64 * block + high + 1) = both t in ins (x % 64) (omega (arith, at.0, same)) (omega (arith, at.1, same)) in
      let clear_out : is_between (64 * block + low) (64 * block + high + 1) x ≡ false → bit_at mask (x % 64) ≡ 0 =
      λ t. elim (cases_lt (x % 64) low) [
        | inl less ↦ below (x % 64) less
        | inr more ↦ elim (cases_lt high (x % 64)) [
          | inl past ↦ above (x % 64) past
          | inr inside ↦ absurd (no_way (64 * block + low) (64 * block + high + 1) x (omega (arith, same, more)) (omega (arith, same, inside)) t)
        ]
      ] in
      word_same words block (bit_or word mask) x within same
      ∙ ap (λ b. eqb b 1) (bit_at_or word mask (x % 64))
      ∙ laid_bit (bit_at word (x % 64)) (bit_at mask (x % 64)) (is_between (64 * block + low) (64 * block + high + 1) x) (bit_at-lt word (x % 64)) set_in clear_out
      ∙ ap (λ i. is_between (64 * block + low) (64 * block + high + 1) x || eqb (bit_at (get_or words i 0) (x % 64)) 1) (sym same)
      )
  | inr other ↦ (
      let apart : (x < 64 * block + low) ⊎ (64 * block + high + 1 ≤ x) = elim (cases_lt (x / 64) block) [
        | inl less ↦ inl (omega (arith, less))
        | inr more ↦ inr (let past : block < x / 64 = omega (arith, more, other) in omega (arith, past, high_bit))
      ] in
      word_other words block (bit_or (get_or words block 0) mask) x other
      ∙ ap (λ b. b || has_offset words x) (sym (between_no (64 * block + low) (64 * block + high + 1) x apart))
      )
]
  where
    both : is_between (64 * block + low) (64 * block + high + 1) x ≡ true → (64 * block + low ≤ x) × (x < 64 * block + high + 1)
    both t = (grind (arith, nat_tests), grind (arith, nat_tests))

    no_way : (a b x : ℕ) → a ≤ x → x < b → is_between a b x ≡ false → ⊥
    no_way a b x low high t = grind (arith, nat_tests)

-- ---- whole words

bits_of_max : (i : ℕ) → i < 64 → bit_at 18446744073709551615 i ≡ 1
bits_of_max i less = bit_at_ones 64 i less

-- a word of ones behind what is laid
pub whole_laid : (old words : List ℕ) (first block : ℕ) → block < length words → first ≤ 64 * block
    → ((x : ℕ) → has_offset words x ≡ (is_between first (64 * block) x || has_offset old x))
    → (x : ℕ) → has_offset (set words block 18446744073709551615) x ≡ (is_between first (64 * (block + 1)) x || has_offset old x)
whole_laid old words first block within from before x = elim (cases_eq (x / 64) block) [
  | inl same ↦ (
      word_same words block 18446744073709551615 x within same
      ∙ eq-eqb (bit_at 18446744073709551615 (x % 64)) 1 (bits_of_max (x % 64) (omega arith))
      ∙ sym (in_it first (64 * (block + 1)) x (has_offset old x) (omega (arith, same, from)) (omega (arith, same)))
      )
  | inr other ↦ (
      word_other words block 18446744073709551615 x other ∙ before x
      ∙ ap (λ b. b || has_offset old x) (same_below first (64 * block) (64 * (block + 1)) x (apart other (cases_lt (x / 64) block)))
      )
]
  where
    in_it : (a b x : ℕ) (t : Bool) → a ≤ x → x < b → (is_between a b x || t) ≡ true
    in_it a b x t low high = let h : is_between a b x ≡ true = grind (arith, nat_tests) in rw h refl

    same_below : (a b c x : ℕ) → ((x < b) × (x < c)) ⊎ ((b ≤ x) × (c ≤ x)) → is_between a b x ≡ is_between a c x
    same_below a b c x (inl h) = grind (arith, nat_tests)
    same_below a b c x (inr h) = grind (arith, nat_tests)

    apart : x / 64 ≢ block → (x / 64 < block) ⊎ (block ≤ x / 64) → ((x < 64 * block) × (x < 64 * (block + 1))) ⊎ ((64 * block ≤ x) × (64 * (block + 1) ≤ x))
    apart other (inl less) = inl (omega (arith, less), omega (arith, less))
    apart other (inr more) = inr (omega (arith, more), omega (arith, more, other))

-- two runs, one behind the other
pub between_joined : (first middle end x : ℕ) (t : Bool) → first ≤ middle → middle ≤ end → (is_between middle end x || (is_between first middle x || t)) ≡ (is_between first end x || t)
between_joined first middle end x t low high = grind (arith, nat_tests)

-- ---- words that have all bits below the total

word_max : (words : List ℕ) (i x : ℕ) → get_or words i 0 ≡ 18446744073709551615 → x / 64 ≡ i → has_offset words x ≡ true
word_max words i x max at =
    ap (λ k. eqb (bit_at (get_or words k 0) (x % 64)) 1) at ∙ ap (λ w. eqb (bit_at w (x % 64)) 1) max
    ∙ eq-eqb (bit_at 18446744073709551615 (x % 64)) 1 (bits_of_max (x % 64) (omega arith))

pub full_more : (words : List ℕ) (i : ℕ) → ((x : ℕ) → x < 64 * i → has_offset words x ≡ true) → get_or words i 0 ≡ 18446744073709551615 → (x : ℕ) → x < 64 * (i + 1) → has_offset words x ≡ true
full_more words i before max x less = elim (cases_lt x (64 * i)) [
  | inl below ↦ before x below
  | inr above ↦ word_max words i x max (omega (arith, above, less))
]

marked_bit : (words : List ℕ) (i j : ℕ) → j < 64 → has_offset words (64 * i + j) ≡ true → bit_at (get_or words i 0) j ≡ 1
marked_bit words i j less e =
    let at : (64 * i + j) / 64 ≡ i = omega (arith, less) in
    let of : (64 * i + j) % 64 ≡ j = omega (arith, less) in
    sym (ap (λ k. bit_at (get_or words k 0) j) at) ∙ sym (ap (λ k. bit_at (get_or words ((64 * i + j) / 64) 0) k) of) ∙ eqb-true (bit_at (get_or words ((64 * i + j) / 64) 0) ((64 * i + j) % 64)) 1 e

bit_marked : (words : List ℕ) (i x : ℕ) → x / 64 ≡ i → bit_at (get_or words i 0) (x % 64) ≡ 1 → has_offset words x ≡ true
bit_marked words i x at e = ap (λ k. eqb (bit_at (get_or words k 0) (x % 64)) 1) at ∙ eq-eqb (bit_at (get_or words i 0) (x % 64)) 1 e

-- a word before the last that lacks a bit
pub word_lacks : (words : List ℕ) (total i : ℕ) → i < total / 64 → get_or words i 0 < 18446744073709551616 → get_or words i 0 ≢ 18446744073709551615
    → false ≡ list_all (has_offset words) (range_with_len 0 total)
word_lacks words total i less fits lacks =
    sym (false_from_ne_true (list_all (has_offset words) (range_with_len 0 total)) (λ e. lacks (same_from_bits_below 64 (get_or words i 0) 18446744073709551615 fits (lit< tt)
    (λ j below. marked_bit words i j below (all_below (has_offset words) total (64 * i + j) e (omega (arith, less, below))) ∙ sym (bits_of_max j below)))))

pub whole_words : (words : List ℕ) (total : ℕ) → total % 64 ≡ 0 → ((x : ℕ) → x < 64 * (total / 64) → has_offset words x ≡ true) → list_all (has_offset words) (range_with_len 0 total) ≡ true
whole_words words total even each = all_from_below (has_offset words) total (λ x less. each x (omega (arith, even, less)))

pub last_word : (words : List ℕ) (total : ℕ) (answer : Bool) → 0 < total % 64 → ((x : ℕ) → x < 64 * (total / 64) → has_offset words x ≡ true)
    → (answer ≡ true → (i : ℕ) → i ≤ total % 64 - 1 → bit_at (get_or words (total / 64) 0) i ≡ 1)
    → (((i : ℕ) → i ≤ total % 64 - 1 → bit_at (get_or words (total / 64) 0) i ≡ 1) → answer ≡ true)
    → answer ≡ list_all (has_offset words) (range_with_len 0 total)
last_word words total true some each has lacks = sym (all_from_below (has_offset words) total (λ x less. elim (cases_lt x (64 * (total / 64))) [
  | inl below ↦ each x below
  | inr above ↦ bit_marked words (total / 64) x (omega (arith, above, less)) (has refl (x % 64) (omega (arith, above, less)))
]))
last_word words total false some each has lacks = sym (false_from_ne_true (list_all (has_offset words) (range_with_len 0 total)) (λ e.
    let wrong : false ≡ true = lacks (λ i below. marked_bit words (total / 64) i (omega (arith, below, some)) (all_below (has_offset words) total (64 * (total / 64) + i) e (omega (arith, below, some)))) in
    cc))
