-- What is computed at each of the 256 bytes.
use Rattle.std.proofs.Common.{◌≡◌, ℕ, zero, suc, ◌<◌, ◌≤◌, ◌+◌, ◌-◌, ◌*◌, ◌/◌, ◌%◌, ◌^◌, ◌==◌, Bool, ◌&&◌, true, false, nat_lt, [], ◌∷◌, slice_index, bit_xor, arith, refl, ap, ap₂, sym, ◌∙◌, ◌≢◌, subst}
use Rattle.std.specs.Int.{bit_at}
use Rattle.std.proofs.lemmas.Bool.{agree_below, agree_below_at, and_parts, eqb-true, eqb-false, ltb-true}
use Rattle.std.proofs.lemmas.Bool.Decides.{Decides-eqb, Decides-like, same_from_decides}
use Rattle.aes_ctr.specs.declared.expand.TheConstants.{POWERS}
use Rattle.aes_ctr.specs.Cipher.{power_of_x}
use Rattle.std.specs.Int.Bits.{xor_self, xor_zero_r}
use Rattle.std.proofs.lemmas.Nat.{xor_comm, xor_shr}
use Rattle.std.proofs.lemmas.Nat.Bits.{bit_at_xor, bit_at-lt, same_from_bits}
use Rattle.aes_ctr.specs.Field.{field_mul, poly_mul, poly_mod, inverse, inverse_below, affine_bit, from_bits_of, sub_byte}

-- a test at each number below n
abbrev pub each_below : ℕ → (ℕ → Bool) → Bool
each_below n test = agree_below test (λ b. true) n

pub each_below-at : (n : ℕ) (test : ℕ → Bool) (b : ℕ) → each_below n test ≡ true → b < n → test b ≡ true
each_below-at n test b e h = agree_below_at test (λ b. true) n b e h

pub three_below-at : (l m n : ℕ) (test : ℕ → ℕ → ℕ → Bool) (a b c : ℕ) → each_below l (λ a. each_below m (λ b. each_below n (test a b))) ≡ true
    → a < l → b < m → c < n → test a b c ≡ true
three_below-at l m n test a b c e ha hb hc =
    each_below-at n (test a b) c (each_below-at m (λ b. each_below n (test a b)) b (each_below-at l (λ a. each_below m (λ b. each_below n (test a b))) a e ha) hb) hc

-- two functions that agree at each number below n
pub equal_below : (f g : ℕ → ℕ) (n b : ℕ) → each_below n (λ b. f b == g b) ≡ true → b < n → f b ≡ g b
equal_below f g n b e h = eqb-true (f b) (g b) (each_below-at n (λ b. f b == g b) b e h)

-- bit p of the product by x of the byte with these bits
abbrev doubled_bit : (ℕ → ℕ) → ℕ → ℕ
doubled_bit f p = slice_index (f 7 ∷ (f 0 + f 7) % 2 ∷ f 1 ∷ (f 2 + f 7) % 2 ∷ (f 3 + f 7) % 2 ∷ f 4 ∷ f 5 ∷ f 6 ∷ []) p

pub doubled_bits : (b : ℕ) → b < 256 → from_bits_of (doubled_bit (bit_at b)) ≡ field_mul 2 b
unfolding field_mul
doubled_bits b h = equal_below (λ b. from_bits_of (doubled_bit (bit_at b))) (λ b. field_mul 2 b) 256 b refl h

pub tripled_is : (b : ℕ) → b < 256 → bit_xor b (field_mul 2 b) ≡ field_mul 3 b
unfolding field_mul
tripled_is b h = equal_below (λ b. bit_xor b (field_mul 2 b)) (λ b. field_mul 3 b) 256 b refl h

pub powers_are : (i : ℕ) → i < 11 → slice_index POWERS i ≡ power_of_x (i - 1)
unfolding field_mul power_of_x
powers_are i h = equal_below (λ i. slice_index POWERS i) (λ i. power_of_x (i - 1)) 11 i refl h

-- ---- the inverse

pub inverse_of_zero : inverse 0 ≡ 0
unfolding field_mul inverse inverse_below
inverse_of_zero = refl

-- a sum of products, of which each factor is 0 or 1
times_bit : (x y m : ℕ) → x < 2 → y < 2 → (x + y) % 2 * m ≡ bit_xor (x * m) (y * m)
times_bit zero zero m hx hy = let none : 0 * m ≡ 0 = omega arith in rw none refl
times_bit zero (suc zero) m hx hy = let none : 0 * m ≡ 0 = omega arith in rw none (sym (xor_comm 0 (1 * m) ∙ xor_zero_r (1 * m)))
times_bit (suc zero) zero m hx hy = let none : 0 * m ≡ 0 = omega arith in rw none (sym (xor_zero_r (1 * m)))
times_bit (suc zero) (suc zero) m hx hy = let none : 0 * m ≡ 0 = omega arith in rw none (sym (xor_self (1 * m)))
times_bit (suc (suc x)) y m hx hy = absurd (omega arith)
times_bit x (suc (suc y)) m hx hy = absurd (omega arith)

pub crossed : (a b c d : ℕ) → bit_xor (bit_xor a b) (bit_xor c d) ≡ bit_xor (bit_xor a c) (bit_xor b d)
crossed a b c d = same_from_bits _ _ (λ p. simp bit_at_xor (omega arith))

poly_mul_sum : (n a b c : ℕ) → poly_mul n a (bit_xor b c) ≡ bit_xor (poly_mul n a b) (poly_mul n a c)
poly_mul_sum zero a b c = refl
poly_mul_sum (suc n) a b c =
    let low : bit_xor b c % 2 ≡ (b % 2 + c % 2) % 2 = omega (arith, bit_at_xor b c 0) in
    let high : bit_xor b c / 2 ≡ bit_xor (b / 2) (c / 2) = xor_shr b c 1 in
    ap₂ (λ x y. bit_xor (x * a) (poly_mul n (2 * a) y)) low high
    ∙ ap₂ bit_xor (times_bit (b % 2) (c % 2) a (omega arith) (omega arith)) (poly_mul_sum n (2 * a) (b / 2) (c / 2))
    ∙ crossed (b % 2 * a) (c % 2 * a) (poly_mul n (2 * a) (b / 2)) (poly_mul n (2 * a) (c / 2))

poly_mod_sum : (n a b : ℕ) → poly_mod n (bit_xor a b) ≡ bit_xor (poly_mod n a) (poly_mod n b)
poly_mod_sum zero a b = refl
poly_mod_sum (suc n) a b =
    let m = 0b1_0001_1011 * 2 ^ n in
    let x = bit_at a (8 + n) in
    let y = bit_at b (8 + n) in
    let taken : bit_at (bit_xor a b) (8 + n) * m ≡ bit_xor (x * m) (y * m) =
    ap (λ d. d * m) (bit_at_xor a b (8 + n)) ∙ times_bit x y m (bit_at-lt a (8 + n)) (bit_at-lt b (8 + n)) in
    ap (λ d. poly_mod n (bit_xor (bit_xor a b) d)) taken ∙ ap (poly_mod n) (crossed a b (x * m) (y * m))
    ∙ poly_mod_sum n (bit_xor a (x * m)) (bit_xor b (y * m))

-- the product of a sum is the sum of the products
pub product_of_sum : (a b c : ℕ) → field_mul a (bit_xor b c) ≡ bit_xor (field_mul a b) (field_mul a c)
unfolding field_mul
product_of_sum a b c = ap (poly_mod 7) (poly_mul_sum 8 a b c) ∙ poly_mod_sum 7 (poly_mul 8 a b) (poly_mul 8 a c)

product_of_zero : (a : ℕ) → field_mul a 0 ≡ 0
product_of_zero a = product_of_sum a 0 0 ∙ xor_self (field_mul a 0)

-- the sum of f at the numbers below n
abbrev sum_below : (ℕ → ℕ) → ℕ → ℕ
sum_below f zero = 0
sum_below f (suc n) = bit_xor (f n) (sum_below f n)

bits_of : ℕ → ℕ → ℕ
bits_of c p = bit_at c p * 2 ^ p

byte_is : (c : ℕ) → c < 256 → sum_below (bits_of c) 8 ≡ c
unfolding bits_of
byte_is c h = equal_below (λ c. sum_below (bits_of c) 8) (λ c. c) 256 c refl h

-- what keeps sums and the powers of two keeps each byte
module _ (l : ℕ → ℕ) (sum : (b c : ℕ) → l (bit_xor b c) ≡ bit_xor (l b) (l c)) (powers : (p : ℕ) → p < 8 → l (2 ^ p) ≡ 2 ^ p) where
  none : l 0 ≡ 0
  none = sum 0 0 ∙ xor_self (l 0)

  bit_kept : (d m : ℕ) → d < 2 → l m ≡ m → l (d * m) ≡ d * m
  bit_kept zero m h e = let is : 0 * m ≡ 0 = omega arith in rw is none
  bit_kept (suc zero) m h e = let one : 1 * m ≡ m = omega arith in rw one e
  bit_kept (suc (suc d)) m h e = absurd (omega arith)

  sum_kept : (f : ℕ → ℕ) (n : ℕ) → ((p : ℕ) → p < n → l (f p) ≡ f p) → l (sum_below f n) ≡ sum_below f n
  sum_kept f zero e = none
  sum_kept f (suc n) e = sum (f n) (sum_below f n) ∙ ap₂ bit_xor (e n (omega arith)) (sum_kept f n (λ p h. e p (omega arith)))

  kept : (c : ℕ) → c < 256 → l c ≡ c
  unfolding bits_of
  kept c h =
      ap l (sym (byte_is c h))
      ∙ sum_kept (bits_of c) 8 (λ p hp. bit_kept (bit_at c p) (2 ^ p) (bit_at-lt c p) (powers p hp)) ∙ byte_is c h

-- the inverse of a byte but 0, as its power 254
abbrev power_254 : ℕ → ℕ
power_254 b =
    let b2 = field_mul b b in
    let b3 = field_mul b b2 in
    let b6 = field_mul b3 b3 in
    let b12 = field_mul b6 b6 in
    let b15 = field_mul b3 b12 in
    let b30 = field_mul b15 b15 in
    let b60 = field_mul b30 b30 in
    let b120 = field_mul b60 b60 in
    let b126 = field_mul b6 b120 in
    let b127 = field_mul b b126 in
    field_mul b127 b127

-- i times b is 1, and i undoes the product by b of each power of x
abbrev undoes : ℕ → ℕ → Bool
undoes b i = (nat_lt i 256 && (field_mul b i == 1)) && each_below 8 (λ p. field_mul i (field_mul b (2 ^ p)) == 2 ^ p)

all_undone : each_below 255 (λ b. undoes (suc b) (power_254 (suc b))) ≡ true
unfolding field_mul
all_undone = refl

below_step : (n b : ℕ) (d : Bool) → field_mul b n == 1 ≡ d → inverse_below (suc n) b ≡ elim d [ true ↦ n | false ↦ inverse_below n b ]
unfolding inverse_below
below_step n b d e = ap (λ (d : Bool). elim d [ true ↦ n | false ↦ inverse_below n b ]) e

-- a byte whose product by b is undone by i
module _ (b i : ℕ) (ok : undoes b i ≡ true) where
  abbrev parts : ((nat_lt i 256 && (field_mul b i == 1)) ≡ true) × (each_below 8 (λ p. field_mul i (field_mul b (2 ^ p)) == 2 ^ p) ≡ true)
  parts = and_parts _ _ ok

  pub undoes-lt : i < 256
  undoes-lt = ltb-true i 256 (and_parts _ _ parts.0).0

  pub gives_one : field_mul b i ≡ 1
  gives_one = eqb-true (field_mul b i) 1 (and_parts _ _ parts.0).1

  undone : (c : ℕ) → c < 256 → field_mul i (field_mul b c) ≡ c
  undone =
      kept (λ c. field_mul i (field_mul b c))
      (λ c d. ap (field_mul i) (product_of_sum b c d) ∙ product_of_sum i (field_mul b c) (field_mul b d))
      (λ p h. eqb-true (field_mul i (field_mul b (2 ^ p))) (2 ^ p) (each_below-at 8 (λ p. field_mul i (field_mul b (2 ^ p)) == 2 ^ p) p parts.1 h))

  pub alone : (c : ℕ) → c < 256 → field_mul b c ≡ 1 → c ≡ i
  alone c h e = sym (undone c h) ∙ ap (field_mul i) (e ∙ sym gives_one) ∙ undone i undoes-lt

  alone-below : (n : ℕ) → n ≤ 256 → i < n → inverse_below n b ≡ i
  alone-below zero le lt = absurd (omega arith)
  alone-below (suc n) le lt = next (field_mul b n == 1) refl (λ below. alone-below n (omega arith) below) where
    next : (d : Bool) → field_mul b n == 1 ≡ d → (i < n → inverse_below n b ≡ i) → inverse_below (suc n) b ≡ i
    next true e lower = below_step n b true e ∙ alone n (omega arith) (eqb-true (field_mul b n) 1 e)
    next false e lower =
        let other : i ≢ n = λ same. eqb-false (field_mul b n) 1 e (ap (field_mul b) (sym same) ∙ gives_one) in
        below_step n b false e ∙ lower (omega arith)

all_undone-at : (b : ℕ) → suc b < 256 → undoes (suc b) (power_254 (suc b)) ≡ true
all_undone-at b h = each_below-at 255 (λ b. undoes (suc b) (power_254 (suc b))) b all_undone (omega arith)

inverse_is : (b : ℕ) → suc b < 256 → inverse (suc b) ≡ power_254 (suc b)
unfolding inverse
inverse_is b h =
    let i = power_254 (suc b) in
    let ok = all_undone-at b h in
    alone-below (suc b) i ok 256 (omega arith) (undoes-lt (suc b) i ok)

pub inverse_small : (b : ℕ) → b < 256 → inverse b < 256
inverse_small zero h = rw inverse_of_zero (omega arith)
inverse_small (suc b) h = subst (λ i. i < 256) (sym (inverse_is b h)) (undoes-lt (suc b) (power_254 (suc b)) (all_undone-at b h))

pub only_inverse : (b c : ℕ) → 0 < b → b < 256 → c < 256 → (field_mul b c == 1) ≡ (c == inverse b)
only_inverse zero c some hb hc = absurd (omega arith)
only_inverse (suc b) c some hb hc =
    let i = power_254 (suc b) in
    let ok = all_undone-at b hb in
    same_from_decides (field_mul (suc b) c == 1) (c == inverse (suc b))
    (Decides-like (field_mul (suc b) c == 1) (λ e. alone (suc b) i ok c hc e ∙ sym (inverse_is b hb))
    (λ e. ap (field_mul (suc b)) (e ∙ inverse_is b hb) ∙ gives_one (suc b) i ok) (Decides-eqb (field_mul (suc b) c) 1))
    (Decides-eqb c (inverse (suc b)))

-- ---- the S-box

-- the byte whose affine map this is
abbrev unmapped : ℕ → ℕ
unmapped s = from_bits_of (λ i. (bit_at s ((i + 2) % 8) + bit_at s ((i + 5) % 8) + bit_at s ((i + 7) % 8) + bit_at 0x05 i) % 2)

-- s is the S-box on b, whose inverse is found from s
abbrev pub is_sub : ℕ → ℕ → Bool
is_sub b s = let c = unmapped s in nat_lt c 256 && ((field_mul b c == 1) && (from_bits_of (affine_bit c) == s))

sub_from : (b s : ℕ) → 0 < b → b < 256 → is_sub b s ≡ true → s ≡ sub_byte b
unfolding sub_byte
sub_from b s some h e =
    let parts = and_parts _ _ e in
    let rest = and_parts _ _ parts.1 in
    let found : unmapped s ≡ inverse b = eqb-true (unmapped s) (inverse b) (sym (only_inverse b (unmapped s) some h (ltb-true _ _ parts.0)) ∙ rest.0) in
    sym (eqb-true _ _ rest.1) ∙ ap (λ c. from_bits_of (affine_bit c)) found

sub_of_zero : sub_byte 0 ≡ 0x63
unfolding sub_byte
sub_of_zero = ap (λ c. from_bits_of (affine_bit c)) inverse_of_zero

-- what is the S-box on each byte
pub sub_below : (f : ℕ → ℕ) → f 0 ≡ 0x63 → each_below 255 (λ b. let s = f (suc b) in is_sub (suc b) s) ≡ true → (b : ℕ) → b < 256 → f b ≡ sub_byte b
sub_below f first others zero h = first ∙ sym sub_of_zero
sub_below f first others (suc b) h = sub_from (suc b) (f (suc b)) (omega arith) h (each_below-at 255 (λ b. let s = f (suc b) in is_sub (suc b) s) b others (omega arith))
