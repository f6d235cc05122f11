-- Three exchanges of bits are the transposition of eight bytes. One exchange was tried at each byte beside 0.
use Rattle.std.proofs.Common.{◌≡◌, ℕ, ◌<◌, ◌+◌, ◌-◌, ◌*◌, ◌/◌, ◌%◌, ◌^◌, ◌==◌, ◌&&◌, nat_lt, Bool, true, zero, suc, if◌then◌else◌, bit_and, bit_xor, refl, ap, ap₂, sym, subst, ◌∙◌, arith, add-zero}
use Rattle.std.specs.Int.{bit_at}
use Rattle.std.proofs.lemmas.Bool.{and_parts, eqb-true, ltb-true}
use Rattle.std.proofs.lemmas.Nat.{pow_pos, shr_le, xor_block, xor_lt, xor_mod}
use Rattle.std.proofs.lemmas.Nat.Bits.{bit_at_and, bit_at_xor, bit_at-lt, bit_at-zero, same_from_bits}
use Rattle.aes_ctr.specs.InPlanes.{swapped, exchanged, transposed, byte_of}
use Rattle.aes_ctr.proofs.AllBytes.{each_below, each_below-at, three_below-at}
use Rattle.aes_ctr.proofs.Bytes.{add, same_byte}

-- ---- a swap of two bytes is the sum of what it makes of each beside 0

masked_sum : (x y m k : ℕ) → k ≡ 0 → bit_and (bit_xor x y) m ≡ bit_xor (bit_and (bit_xor x 0) m) (bit_and (bit_xor k y) m)
masked_sum x y m k none = rw none (same_from_bits _ _ (λ i. simp (bit_at_xor, bit_at_and, bit_at-zero) (omega (arith, bit_at-lt x i, bit_at-lt y i, bit_at-lt m i))))

moved_sum : (n a b : ℕ) → bit_xor a b * 2 ^ n % 2 ^ 8 ≡ bit_xor (a * 2 ^ n % 2 ^ 8) (b * 2 ^ n % 2 ^ 8)
moved_sum n a b =
    let whole : bit_xor (a * 2 ^ n) (b * 2 ^ n) ≡ bit_xor a b * 2 ^ n = simp add-zero at (xor_block n a b 0 0 (pow_pos n) (pow_pos n)) in
    ap (λ x. x % 2 ^ 8) (sym whole) ∙ xor_mod (a * 2 ^ n) (b * 2 ^ n) 8

added_after : (x u v : ℕ) → bit_xor x (bit_xor u v) ≡ bit_xor (bit_xor x u) (bit_xor 0 v)
added_after x u v = same_from_bits _ _ (λ i. simp bit_at_xor (omega arith))

added_between : (y u v : ℕ) → bit_xor y (bit_xor u v) ≡ bit_xor (bit_xor 0 u) (bit_xor y v)
added_between y u v = same_from_bits _ _ (λ i. simp bit_at_xor (omega arith))

swapped_sum : (n mask e x y : ℕ) → e < 2 → swapped n mask e x y ≡ bit_xor (swapped n mask e x 0) (swapped n mask e 0 y)
swapped_sum n mask zero x y h =
    let none : 0 / 2 ^ n ≡ 0 = omega (arith, shr_le 0 n) in
    ap (λ t. bit_xor x (t * 2 ^ n % 2 ^ 8)) (masked_sum (x / 2 ^ n) y mask (0 / 2 ^ n) none)
    ∙ ap (bit_xor x) (moved_sum n (bit_and (bit_xor (x / 2 ^ n) 0) mask) (bit_and (bit_xor (0 / 2 ^ n) y) mask)) ∙ added_after x _ _
swapped_sum n mask (suc zero) x y h =
    let none : 0 / 2 ^ n ≡ 0 = omega (arith, shr_le 0 n) in
    ap (bit_xor y) (masked_sum (x / 2 ^ n) y mask (0 / 2 ^ n) none) ∙ added_between y _ _
swapped_sum n mask (suc (suc e)) x y h = absurd (omega arith)

-- what it makes of a byte beside 0 is a byte
abbrev is_byte : ℕ → ℕ → ℕ → ℕ → Bool
is_byte n mask e z = nat_lt (swapped n mask e z 0) 256 && nat_lt (swapped n mask e 0 z) 256

-- it takes bit j from place j + e n of the first if j lacks the bit of n, and else from n below that place of the second
abbrev is_moved : ℕ → ℕ → ℕ → ℕ → ℕ → Bool
is_moved n mask e z j =
    let has = j / n % 2 in
    (bit_at (swapped n mask e z 0) j == (1 - has) * bit_at z (j + e * n)) && (bit_at (swapped n mask e 0 z) j == has * bit_at z (j + e * n - n))

abbrev is_swap : ℕ → ℕ → Bool
is_swap n mask =
    each_below 2 (λ e. each_below 256 (is_byte n mask e)) && each_below 2 (λ e. each_below 256 (λ z. each_below 8 (is_moved n mask e z)))

-- where an exchange takes bit j of byte p from
abbrev from_byte : ℕ → ℕ → ℕ → ℕ
from_byte n j p = if j / n % 2 == 0 then p / 2 else p / 2 + 4

abbrev from_bit : ℕ → ℕ → ℕ → ℕ
from_bit n j p = if j / n % 2 == 0 then j + p % 2 * n else j + p % 2 * n - n

taken : (d u v : ℕ) (f : ℕ → ℕ) (k b n : ℕ) → d < 2 → u ≡ (1 - d) * bit_at (f k) b → v ≡ d * bit_at (f (k + 4)) (b - n)
    → add u v ≡ bit_at (f (if d == 0 then k else k + 4)) (if d == 0 then b else b - n)
taken zero u v f k b n h eu ev = omega arith
taken (suc zero) u v f k b n h eu ev = omega arith
taken (suc (suc d)) u v f k b n h eu ev = absurd (omega arith)

module _ (n mask : ℕ) (ok : is_swap n mask ≡ true) (f : ℕ → ℕ) (small : (k : ℕ) → k < 8 → f k < 256) (p : ℕ) (hp : p < 8) where
  sum : exchanged n mask f p ≡ bit_xor (swapped n mask (p % 2) (f (p / 2)) 0) (swapped n mask (p % 2) 0 (f (p / 2 + 4)))
  sum = swapped_sum n mask (p % 2) (f (p / 2)) (f (p / 2 + 4)) (omega arith)

  alone : (z : ℕ) → z < 256 → (swapped n mask (p % 2) z 0 < 256) × (swapped n mask (p % 2) 0 z < 256)
  alone z hz =
      let e = p % 2 in
      let here : is_byte n mask e z ≡ true = each_below-at 256 (is_byte n mask e) z (each_below-at 2 (λ e. each_below 256 (is_byte n mask e)) e (and_parts _ _ ok).0 (omega arith)) hz in
      let parts = and_parts (nat_lt (swapped n mask e z 0) 256) (nat_lt (swapped n mask e 0 z) 256) here in
      (ltb-true (swapped n mask e z 0) 256 parts.0, ltb-true (swapped n mask e 0 z) 256 parts.1)

  exchanged-lt : exchanged n mask f p < 256
  exchanged-lt =
      let x = f (p / 2) in let y = f (p / 2 + 4) in
      subst (λ z. z < 256) (sym sum)
      (xor_lt 8 (swapped n mask (p % 2) x 0) (swapped n mask (p % 2) 0 y) (alone x (small (p / 2) (omega arith))).0 (alone y (small (p / 2 + 4) (omega arith))).1)

  exchanged_bit : (j : ℕ) → j < 8 → bit_at (exchanged n mask f p) j ≡ bit_at (f (from_byte n j p)) (from_bit n j p)
  exchanged_bit j hj =
      let parts = and_parts _ _ ok in
      let x = f (p / 2) in let y = f (p / 2 + 4) in
      let first = and_parts _ _ (three_below-at 2 256 8 (is_moved n mask) (p % 2) x j parts.1 (omega arith) (small (p / 2) (omega arith)) hj) in
      let second = and_parts _ _ (three_below-at 2 256 8 (is_moved n mask) (p % 2) y j parts.1 (omega arith) (small (p / 2 + 4) (omega arith)) hj) in
      ap (λ z. bit_at z j) sum ∙ bit_at_xor _ _ j
      ∙ taken (j / n % 2) _ _ f (p / 2) (j + p % 2 * n) n (omega arith) (eqb-true _ _ first.0) (eqb-true _ _ second.1)

-- ---- three exchanges

-- an exchange keeps the places below 8, and takes them where the next has them
abbrev goes : ℕ → ℕ → ℕ → (ℕ → ℕ → Bool) → Bool
goes n j p next = (nat_lt (from_bit n j p) 8 && nat_lt (from_byte n j p) 8) && next (from_bit n j p) (from_byte n j p)

abbrev goes_back : ℕ → ℕ → Bool
goes_back p j = goes 1 j p (λ j1 p1. goes 2 j1 p1 (λ j2 p2. goes 4 j2 p2 (λ j3 p3. (j3 == p) && (p3 == j))))

all_back : each_below 8 (λ p. each_below 8 (goes_back p)) ≡ true
all_back = refl

swap4 : is_swap 4 0x0f ≡ true
swap4 = refl

swap2 : is_swap 2 0x33 ≡ true
swap2 = refl

swap1 : is_swap 1 0x55 ≡ true
swap1 = refl

module _ (f : ℕ → ℕ) (small : (k : ℕ) → k < 8 → f k < 256) where
  after4 : (p : ℕ) → p < 8 → exchanged 4 0x0f f p < 256
  after4 = exchanged-lt 4 0x0f swap4 f small

  after2 : (p : ℕ) → p < 8 → exchanged 2 0x33 (exchanged 4 0x0f f) p < 256
  after2 = exchanged-lt 2 0x33 swap2 (exchanged 4 0x0f f) after4

  pub transposed-lt : (p : ℕ) → p < 8 → transposed f p < 256
  unfolding transposed
  transposed-lt = exchanged-lt 1 0x55 swap1 (exchanged 2 0x33 (exchanged 4 0x0f f)) after2

  transposed_bit : (p j : ℕ) → p < 8 → j < 8 → bit_at (transposed f p) j ≡ bit_at (f j) p
  unfolding transposed
  transposed_bit p j hp hj =
      let j1 = from_bit 1 j p in let p1 = from_byte 1 j p in
      let j2 = from_bit 2 j1 p1 in let p2 = from_byte 2 j1 p1 in
      let ok1 = and_parts _ _ (each_below-at 8 (goes_back p) j (each_below-at 8 (λ p. each_below 8 (goes_back p)) p all_back hp) hj) in
      let in1 = and_parts _ _ ok1.0 in
      let ok2 = and_parts _ _ ok1.1 in
      let in2 = and_parts _ _ ok2.0 in
      let ends = and_parts _ _ (and_parts _ _ ok2.1).1 in
      exchanged_bit 1 0x55 swap1 (exchanged 2 0x33 (exchanged 4 0x0f f)) after2 p hp j hj
      ∙ exchanged_bit 2 0x33 swap2 (exchanged 4 0x0f f) after4 p1 (ltb-true p1 8 in1.1) j1 (ltb-true j1 8 in1.0)
      ∙ exchanged_bit 4 0x0f swap4 f small p2 (ltb-true p2 8 in2.1) j2 (ltb-true j2 8 in2.0)
      ∙ ap₂ (λ a b. bit_at (f a) b) (eqb-true (from_byte 4 j2 p2) j ends.1) (eqb-true (from_bit 4 j2 p2) p ends.0)

  -- byte j of eight, out of the planes
  pub byte_transposed : (j : ℕ) → j < 8 → byte_of (transposed f) j ≡ f j
  byte_transposed j hj = same_byte (transposed f) j (f j) (small j hj) (λ p hp. transposed_bit p j hp hj)

  -- and out of the bytes a plane
  pub transposed_byte : (j : ℕ) → j < 8 → byte_of f j ≡ transposed f j
  transposed_byte j hj = same_byte f j (transposed f j) (transposed-lt j hj) (λ p hp. sym (transposed_bit j p hj hp))
