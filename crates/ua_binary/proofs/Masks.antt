-- A DataValue's mask is the sum of its flags.
use Rattle.std.proofs.Common.{◌≡◌, ℕ, zero, suc, ◌+◌, ◌<◌, ◌==◌, Bool, true, false, refl, subst, arith}
use Rattle.std.specs.Prelude.{nat_lt, not, ◌&&◌, ◌||◌}
use Rattle.std.proofs.lemmas.Bool.{eqb-true, ltb-true, ltb-false}
use Rattle.ua_binary.specs.ReadingValues.{has}
use Rattle.ua_binary.specs.Wire.{flag}

both_true : (a b : Bool) → (a && b) ≡ true → (a ≡ true) × (b ≡ true)
both_true true b e = (refl, e)
both_true false b e = absurd cc

-- whether each number below this passes a test
all_below : (ℕ → Bool) → ℕ → Bool
all_below test zero = true
all_below test (suc n) = test n && all_below test n

below_passes : (test : ℕ → Bool) (n k : ℕ) → all_below test n ≡ true → k < n → test k ≡ true
unfolding all_below
below_passes test zero k e h = absurd (omega arith)
below_passes test (suc n) k e h = by_place (below_passes test n k (both_true (test n) (all_below test n) e).1) (nat_lt k n) refl
  where
    by_place : (k < n → test k ≡ true) → (b : Bool) → nat_lt k n ≡ b → test k ≡ true
    by_place lower true is = lower (ltb-true k n is)
    by_place lower false is =
        let last : n ≡ k = omega (arith, ltb-false k n is) in
        subst (λ (i : ℕ). test i ≡ true) last (both_true (test n) (all_below test n) e).0

abbrev pub mask_with : Bool → Bool → Bool → Bool → Bool → Bool → ℕ
mask_with value status source server source_picoseconds server_picoseconds =
    flag value 0x01 + flag status 0x02 + flag source 0x04 + flag server 0x08 + flag source_picoseconds 0x10 + flag server_picoseconds 0x20

flags_in : ℕ → ℕ
flags_in mask = mask_with (has mask 0x01) (has mask 0x02) (has mask 0x04) (has mask 0x08) (has mask 0x10) (has mask 0x20)

is_sum : ℕ → Bool
is_sum mask = has mask 0xc0 || (mask == flags_in mask)

pub mask-flags : (mask : ℕ) → mask < 256 → has mask 0xc0 ≡ false → mask ≡ mask_with (has mask 0x01) (has mask 0x02) (has mask 0x04) (has mask 0x08) (has mask 0x10) (has mask 0x20)
unfolding is_sum flags_in all_below
mask-flags mask small clear =
    let all : all_below is_sum 256 ≡ true = refl in
    let passes : (has mask 0xc0 || (mask == flags_in mask)) ≡ true = below_passes is_sum 256 mask all small in
    let sum : (mask == flags_in mask) ≡ true = rw clear at passes in
    eqb-true mask (flags_in mask) sum

pub mask-told : (mask : ℕ) (a b c d e f : Bool) → mask < 256 → has mask 0xc0 ≡ false → a ≡ has mask 0x01 → b ≡ has mask 0x02 → c ≡ has mask 0x04 → d ≡ has mask 0x08 → e ≡ has mask 0x10 → f ≡ has mask 0x20 → mask ≡ mask_with a b c d e f
mask-told mask a b c d e f small clear at_a at_b at_c at_d at_e at_f =
    let sum : mask ≡ mask_with (has mask 0x01) (has mask 0x02) (has mask 0x04) (has mask 0x08) (has mask 0x10) (has mask 0x20) = mask-flags mask small clear in
    cc

-- what a mask of these flags tells
pub record IsMask (mask : ℕ) (a b c d e f : Bool) : Type 0 where
  pub small : mask < 256
  pub clear : has mask 0xc0 ≡ false
  pub value : has mask 0x01 ≡ a
  pub status : has mask 0x02 ≡ b
  pub source : has mask 0x04 ≡ c
  pub server : has mask 0x08 ≡ d
  pub source_picoseconds : has mask 0x10 ≡ e
  pub server_picoseconds : has mask 0x20 ≡ f

same : Bool → Bool → Bool
same true b = b
same false b = not b

same-true : (a b : Bool) → same a b ≡ true → a ≡ b
unfolding same
same-true true true e = refl
same-true true false e = absurd cc
same-true false true e = absurd cc
same-true false false e = refl

on_both : (Bool → Bool) → Bool
on_both test = test true && test false

both_pass : (test : Bool → Bool) → on_both test ≡ true → (b : Bool) → test b ≡ true
unfolding on_both
both_pass test e true = (both_true (test true) (test false) e).0
both_pass test e false = (both_true (test true) (test false) e).1

tells : Bool → Bool → Bool → Bool → Bool → Bool → Bool
tells a b c d e f =
    nat_lt (mask_with a b c d e f) 256 && (same (has (mask_with a b c d e f) 0xc0) false && (same (has (mask_with a b c d e f) 0x01) a && (same (has (mask_with a b c d e f) 0x02) b
    && (same (has (mask_with a b c d e f) 0x04) c && (same (has (mask_with a b c d e f) 0x08) d && (same (has (mask_with a b c d e f) 0x10) e && same (has (mask_with a b c d e f) 0x20) f))))))

all_tell : on_both (λ a. on_both (λ b. on_both (λ c. on_both (λ d. on_both (λ e. on_both (λ f. tells a b c d e f)))))) ≡ true
unfolding on_both tells same
all_tell = refl

pub flags-mask : (a b c d e f : Bool) → IsMask (mask_with a b c d e f) a b c d e f
unfolding tells
flags-mask a b c d e f =
    let at_a = both_pass (λ a. on_both (λ b. on_both (λ c. on_both (λ d. on_both (λ e. on_both (λ f. tells a b c d e f)))))) all_tell a in
    let at_b = both_pass (λ b. on_both (λ c. on_both (λ d. on_both (λ e. on_both (λ f. tells a b c d e f))))) at_a b in
    let at_c = both_pass (λ c. on_both (λ d. on_both (λ e. on_both (λ f. tells a b c d e f)))) at_b c in
    let at_d = both_pass (λ d. on_both (λ e. on_both (λ f. tells a b c d e f))) at_c d in
    let at_e = both_pass (λ e. on_both (λ f. tells a b c d e f)) at_d e in
    let told : tells a b c d e f ≡ true = both_pass (λ f. tells a b c d e f) at_e f in
    let one = both_true _ _ told in
    let two = both_true _ _ one.1 in
    let three = both_true _ _ two.1 in
    let four = both_true _ _ three.1 in
    let five = both_true _ _ four.1 in
    let six = both_true _ _ five.1 in
    let seven = both_true _ _ six.1 in
    record {
      small = ltb-true (mask_with a b c d e f) 256 one.0;
      clear = same-true _ false two.0;
      value = same-true _ a three.0;
      status = same-true _ b four.0;
      source = same-true _ c five.0;
      server = same-true _ d six.0;
      source_picoseconds = same-true _ e seven.0;
      server_picoseconds = same-true _ f seven.1;
    }
