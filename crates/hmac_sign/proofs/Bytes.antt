-- Lemmas on lists of bytes: the XOR with a pad, and the bits in which two lists differ.
use Rattle.std.proofs.Common.{◌≡◌, ℕ, ◌+◌, ◌%◌, ◌<◌, max, List, [], ◌∷◌, length, replicate, get_or, map, fold, refl, sym, ◌∙◌, ap, bit_or, bit_xor, arith}
use Rattle.std.proofs.lemmas.Nat.Bits.{same_from_bits, bit_at_xor, bit_at_or, bit_at-zero, bit_at-lt}
use Rattle.std.proofs.lemmas.List.{ext_get_or, get_or-map, length-map}
use Rattle.std.proofs.lemmas.Simd.{zip2_splat}
use Rattle.std.specs.Int.{bit_at}
use Rattle.std.specs.Int.Bits.{xor_self, or_zero_l}
use Rattle.std.specs.List.{zip}
use Rattle.std.specs.Simd.Lanes.{zip2}

-- two bits whose sum is even are the same
same_bits : (a b : ℕ) → a < 2 → b < 2 → (a + b) % 2 ≡ 0 → a ≡ b
same_bits a b a_bit b_bit even = omega arith

-- numbers with no differing bit are equal
same_from_xor : (a b : ℕ) → bit_xor a b ≡ 0 → a ≡ b
same_from_xor a b none =
    same_from_bits a b
    (λ i.
    let even : (bit_at a i + bit_at b i) % 2 ≡ 0 =
    sym (bit_at_xor a b i) ∙ ap (λ n. bit_at n i) none ∙ bit_at-zero i in
    same_bits _ _ (bit_at-lt a i) (bit_at-lt b i) even)

-- a union with no bit has none from either side
or_zero : (a b : ℕ) → bit_or a b ≡ 0 → (a ≡ 0) × (b ≡ 0)
or_zero a b none =
    let most : (i : ℕ) → max (bit_at a i) (bit_at b i) ≡ 0 =
    λ i. sym (bit_at_or a b i) ∙ ap (λ n. bit_at n i) none ∙ bit_at-zero i in (
      same_from_bits a 0 (λ i. omega (arith, most i, bit_at-zero i)),
      same_from_bits b 0 (λ i. omega (arith, most i, bit_at-zero i)),
    )

-- the bits in which the numbers of some pair differ, and those given
abbrev pub differing : ℕ → List (ℕ × ℕ) → ℕ
differing bits pairs = fold (λ bits pair. bit_or bits (bit_xor pair.0 pair.1)) bits pairs

none_differs : (bits : ℕ) (xs ys : List ℕ) → length xs ≡ length ys → differing bits (zip xs ys) ≡ 0 →
    (bits ≡ 0) × (xs ≡ ys)
none_differs bits [] [] same none = (none, refl)
none_differs bits [] (y ∷ ys) same none = cc
none_differs bits (x ∷ xs) [] same none = cc
none_differs bits (x ∷ xs) (y ∷ ys) same none =
    let rest : (bit_or bits (bit_xor x y) ≡ 0) × (xs ≡ ys) =
    none_differs (bit_or bits (bit_xor x y)) xs ys (omega arith) none in
    let first : (bits ≡ 0) × (bit_xor x y ≡ 0) = or_zero bits (bit_xor x y) rest.0 in
    let heads : x ≡ y = same_from_xor x y first.1 in
    (first.0, cc)

pub same_from_differing : (xs ys : List ℕ) → length xs ≡ length ys → differing 0 (zip xs ys) ≡ 0 → xs ≡ ys
same_from_differing xs ys same none = (none_differs 0 xs ys same none).1

pub differing_of_same : (xs : List ℕ) → differing 0 (zip xs xs) ≡ 0
differing_of_same [] = refl
differing_of_same (x ∷ xs) =
    let none : bit_or 0 (bit_xor x x) ≡ 0 = or_zero_l (bit_xor x x) ∙ xor_self x in
    ap (λ bits. differing bits (zip xs xs)) none ∙ differing_of_same xs

-- the bytes of ys are those of xs, each XOR the pad
pub mixed_with_pad : (xs ys : List ℕ) (n pad : ℕ) → length xs ≡ n → length ys ≡ n →
    ((k : ℕ) → k < n → get_or ys k 0 ≡ bit_xor (get_or xs k 0) pad) → ys ≡ zip2 bit_xor xs (replicate n pad)
mixed_with_pad xs ys n pad xs_long ys_long mixed =
    let mapped : ys ≡ map (λ x. bit_xor x pad) xs =
    ext_get_or 0 ys (map (λ x. bit_xor x pad) xs) (ys_long ∙ sym xs_long ∙ sym (length-map xs (λ x. bit_xor x pad)))
    (λ k within.
    let below : k < n = omega arith in
    let inside : k < length xs = omega arith in
    mixed k below ∙ sym (get_or-map (λ x. bit_xor x pad) xs k 0 0 inside)) in
    mapped ∙ sym (zip2_splat bit_xor xs n pad xs_long)
