-- A block of the stream.
use Rattle.std.proofs.Common.{Fits, w8, ◌≡◌, ℕ, suc, [], ◌∷◌, ◌<◌, ◌≤◌, ◌+◌, ◌-◌, ◌*◌, ◌/◌, ◌%◌, ◌^◌, List, ◌++◌, length, bit_xor, slice_index, refl, ap, ◌∙◌, arith}
use Rattle.std.specs.Int.{w32, to_be_bytes}
use Rattle.std.specs.Simd.Lanes.{Each1}
use Rattle.std.specs.Int.Bits.{xor_assoc, xor_self, xor_zero_r}
use Rattle.aes_ctr.specs.Blocks.{stream_byte, streamed_from}
use Rattle.aes_ctr.proofs.Lists.{cons_is}

pub in_pads : (e : List ℕ → List ℕ) (front : List ℕ) (first c k counter : ℕ) (pad : List ℕ)
    → pad ≡ e (front ++ to_be_bytes w32 ((counter + (k - 128 * c) / 16) % 2 ^ 32)) → counter ≡ (first + c % 2 ^ 29 * 8) % 2 ^ 32
    → 128 * c ≤ k → slice_index pad ((k - 128 * c) % 16) ≡ stream_byte e front first k
unfolding stream_byte
in_pads e front first c k counter pad is at low =
    let place : (k - 128 * c) % 16 ≡ k % 16 = omega arith in
    let which : (counter + (k - 128 * c) / 16) % 2 ^ 32 ≡ (first + k / 16) % 2 ^ 32 = omega arith in
    rw (is, which, place) refl

-- ---- the counter, from four lanes of it

abbrev lanes_of : ℕ → ℕ
lanes_of c = c + 2 ^ 32 * (c + 2 ^ 32 * (c + 2 ^ 32 * (c + 0)))

abbrev pub digits : ℕ → List ℕ
digits c = lanes_of c / 256 / 256 / 256 % 256 ∷ lanes_of c / 256 / 256 % 256 ∷ lanes_of c / 256 % 256 ∷ lanes_of c % 256 ∷ []

pub digits_are : (c : ℕ) → digits c ≡ to_be_bytes w32 c
digits_are c = cons_is (omega arith) (cons_is (omega arith) (cons_is (omega arith) (cons_is (omega arith) refl)))

pub digits_fit : (c : ℕ) → Each1 (Fits w8) (digits c)
digits_fit c =
    let rest : (x : ℕ) → Fits w8 (x % 256) = λ x. record { fits = omega arith } in
    let all = lanes_of c in
    (rest (all / 256 / 256 / 256), (rest (all / 256 / 256), (rest (all / 256), (rest all, tt))))

-- ---- the stream as a whole

module _ (e : List ℕ → List ℕ) (front : List ℕ) (first : ℕ) where
  pub twice : (i : ℕ) (xs : List ℕ) → streamed_from e front first i (streamed_from e front first i xs) ≡ xs
  unfolding streamed_from
  twice i [] = refl
  twice i (x ∷ xs) =
      let s = stream_byte e front first i in
      cons_is (xor_assoc x s s ∙ ap (bit_xor x) (xor_self s) ∙ xor_zero_r x) (twice (suc i) xs)

  -- the list with these bytes
  pub streamed_is : (i : ℕ) (xs ys : List ℕ) → length ys ≡ length xs
      → ((k : ℕ) → k < length xs → slice_index ys k ≡ bit_xor (slice_index xs k) (stream_byte e front first (i + k))) → ys ≡ streamed_from e front first i xs
  unfolding streamed_from
  streamed_is i [] [] l each = refl
  streamed_is i [] (y ∷ ys) l each = absurd (omega arith)
  streamed_is i (x ∷ xs) [] l each = absurd (omega arith)
  streamed_is i (x ∷ xs) (y ∷ ys) l each =
      let here : i + 0 ≡ i = omega arith in
      let shorter : length ys ≡ length xs = omega arith in
      cons_is (each 0 (omega arith) ∙ ap (λ (k : ℕ). bit_xor x (stream_byte e front first k)) here)
      (streamed_is (suc i) xs ys shorter (λ k h. let place : i + suc k ≡ suc i + k = omega arith in
      each (suc k) (omega arith) ∙ ap (λ (k' : ℕ). bit_xor (slice_index xs k) (stream_byte e front first k')) place))
