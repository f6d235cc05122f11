-- Bytes that lie in planes, bit by bit: their sums, and their products.
use Rattle.std.proofs.Common.{◌≡◌, ℕ, ◌<◌, ◌+◌, ◌%◌, [], ◌∷◌, bit_xor, slice_index, arith, refl, ap, ap₂, sym, ◌∙◌}
use Rattle.std.specs.Int.{bit_at}
use Rattle.std.specs.Int.Bits.{xor_lt}
use Rattle.std.proofs.lemmas.Nat.Bits.{bit_at_xor, bit_at-lt, same_from_bits, same_from_bits_below}
use Rattle.aes_ctr.specs.Field.{field_mul}
use Rattle.aes_ctr.specs.Cipher.{mixed}
use Rattle.aes_ctr.specs.InPlanes.{Eight, byte_of}
use Rattle.aes_ctr.proofs.AllBytes.{crossed, doubled_bits, tripled_is}
use Rattle.aes_ctr.proofs.Lists.{below_eight}

abbrev pub add : ℕ → ℕ → ℕ
add x y = (x + y) % 2

module _ (f : ℕ → ℕ) (j : ℕ) where
  small : Eight (λ p. bit_at (f p) j < 2)
  small =
      (bit_at-lt (f 0) j, bit_at-lt (f 1) j, bit_at-lt (f 2) j, bit_at-lt (f 3) j, bit_at-lt (f 4) j, bit_at-lt (f 5) j, bit_at-lt (f 6) j, bit_at-lt (f 7) j)

  pub byte-lt : byte_of f j < 256
  unfolding byte_of
  byte-lt = let s = small in omega arith

  pub bits : Eight (λ p. bit_at (byte_of f j) p ≡ bit_at (f p) j)
  unfolding byte_of
  bits = let s = small in (omega arith, omega arith, omega arith, omega arith, omega arith, omega arith, omega arith, omega arith)

  bit : (p : ℕ) → p < 8 → bit_at (byte_of f j) p ≡ bit_at (f p) j
  bit = below_eight (λ p. bit_at (byte_of f j) p ≡ bit_at (f p) j) bits

  pub same_byte : (b : ℕ) → b < 256 → ((p : ℕ) → p < 8 → bit_at (f p) j ≡ bit_at b p) → byte_of f j ≡ b
  same_byte b h e = same_from_bits_below 8 (byte_of f j) b byte-lt h (λ p hp. bit p hp ∙ e p hp)

pub byte_sum : (f g : ℕ → ℕ) (j : ℕ) → byte_of (λ p. bit_xor (f p) (g p)) j ≡ bit_xor (byte_of f j) (byte_of g j)
byte_sum f g j =
    same_byte (λ p. bit_xor (f p) (g p)) j (bit_xor (byte_of f j) (byte_of g j)) (xor_lt 8 (byte_of f j) (byte_of g j) (byte-lt f j) (byte-lt g j))
    (λ p h. bit_at_xor (f p) (g p) j ∙ sym (bit_at_xor (byte_of f j) (byte_of g j) p ∙ ap₂ add (bit f j p h) (bit g j p h)))

-- the planes of the product by x
abbrev pub doubled : (ℕ → ℕ) → ℕ → ℕ
doubled f p =
    slice_index (f 7 ∷ bit_xor (f 0) (f 7) ∷ f 1 ∷ bit_xor (f 2) (f 7) ∷ bit_xor (f 3) (f 7) ∷ f 4 ∷ f 5 ∷ f 6 ∷ []) p

byte_doubled : (f : ℕ → ℕ) (j : ℕ) → byte_of (doubled f) j ≡ field_mul 2 (byte_of f j)
unfolding byte_of
byte_doubled f j =
    let b = bits f j in let x0 = bit_at_xor (f 0) (f 7) j in let x2 = bit_at_xor (f 2) (f 7) j in let x3 = bit_at_xor (f 3) (f 7) j in
    let sum = doubled_bits (byte_of f j) (byte-lt f j) in omega arith

doubled_sum : (f g : ℕ → ℕ) (j : ℕ) → byte_of (doubled (λ p. bit_xor (f p) (g p))) j ≡ byte_of (λ p. bit_xor (doubled f p) (doubled g p)) j
unfolding byte_of
doubled_sum f g j = rw (crossed (f 0) (g 0) (f 7) (g 7), crossed (f 2) (g 2) (f 7) (g 7), crossed (f 3) (g 3) (f 7) (g 7)) refl

-- the product of a sum
linear : (f g : ℕ → ℕ) (j : ℕ) → field_mul 2 (bit_xor (byte_of f j) (byte_of g j)) ≡ bit_xor (field_mul 2 (byte_of f j)) (field_mul 2 (byte_of g j))
linear f g j =
    ap (field_mul 2) (sym (byte_sum f g j)) ∙ sym (byte_doubled (λ p. bit_xor (f p) (g p)) j)
    ∙ doubled_sum f g j ∙ byte_sum (doubled f) (doubled g) j ∙ ap₂ bit_xor (byte_doubled f j) (byte_doubled g j)

-- a byte of a mixed column, from the bytes from its row on
pub byte_mixed : (a b c d : ℕ → ℕ) (j : ℕ)
    → byte_of (λ p. bit_xor (bit_xor (b p) (bit_xor (c p) (d p))) (doubled (λ p. bit_xor (a p) (b p)) p)) j
    ≡ mixed (byte_of a j) (byte_of b j) (byte_of c j) (byte_of d j)
unfolding mixed
byte_mixed a b c d j =
    byte_sum (λ p. bit_xor (b p) (bit_xor (c p) (d p))) (doubled (λ p. bit_xor (a p) (b p))) j
    ∙ ap₂ bit_xor (byte_sum b (λ p. bit_xor (c p) (d p)) j ∙ ap (bit_xor (byte_of b j)) (byte_sum c d j))
    (byte_doubled (λ p. bit_xor (a p) (b p)) j ∙ ap (field_mul 2) (byte_sum a b j) ∙ linear a b j)
    ∙ rw (← tripled_is (byte_of b j) (byte-lt b j)) (regrouped (field_mul 2 (byte_of a j)) (field_mul 2 (byte_of b j)) (byte_of b j) (byte_of c j) (byte_of d j)) where
      regrouped : (x y b c d : ℕ) → bit_xor (bit_xor b (bit_xor c d)) (bit_xor x y) ≡ bit_xor (bit_xor (bit_xor x (bit_xor b y)) c) d
      regrouped x y b c d = same_from_bits _ _ (λ p. simp bit_at_xor (omega arith))
