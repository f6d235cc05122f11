-- The circuit on planes is the S-box on each byte: it is run on the table of each bit of the 256 bytes.
use Rattle.std.proofs.Common.{◌≡◌, ℕ, suc, lit<, ◌<◌, min, List, [], ◌∷◌, map, replicate, bit_and, bit_xor, slice_index, slice_index_or, ◌+◌, ◌-◌, ◌*◌, ◌/◌, ◌^◌, ◌==◌, ◌&&◌, Bool, true, refl, ap, sym, subst, ◌∙◌}
use Rattle.std.specs.Int.{bit_at}
use Rattle.std.specs.Simd.Lanes.{zip2}
use Rattle.std.proofs.lemmas.Bool.{and_parts, eqb-true}
use Rattle.std.proofs.lemmas.Nat.Bits.{bit_at_xor, bit_at_and, bit_at_ones, bit_at-zero}
use Rattle.aes_ctr.specs.Field.{field_mul, sub_byte, from_bits_of}
use Rattle.aes_ctr.specs.Cipher.{sub_bytes}
use Rattle.aes_ctr.specs.Circuit.{planes_from, run, spread_stage, norm_stage, invert_stage, multiply_stage, join_stage}
use Rattle.aes_ctr.specs.InPlanes.{IsPlanes, lane_in, byte_of, block_in, planes_of, values}
use Rattle.aes_ctr.proofs.AllBytes.{each_below, each_below-at, is_sub, sub_below}
use Rattle.aes_ctr.proofs.Bytes.{add, byte-lt, bits}
use Rattle.aes_ctr.proofs.Circuits.{Circuit, circuit, circuit_is, before_last, result_wires}
use Rattle.aes_ctr.proofs.Rounds.{by_lanes, state_is}

abbrev pub gates : Circuit
gates = (spread_stage, norm_stage, invert_stage, multiply_stage, join_stage.0)

abbrev number : List ℕ → ℕ
number bits = from_bits_of (slice_index bits)

-- the circuit on the bits of a byte
abbrev on_bits : Circuit → (ℕ → ℕ) → List ℕ
on_bits c b = circuit 0 add min 1 c (b 0 ∷ b 1 ∷ b 2 ∷ b 3 ∷ b 4 ∷ b 5 ∷ b 6 ∷ b 7 ∷ [])

-- bit n of this number is bit p of n
abbrev table : ℕ → ℕ
table p = (2 ^ 256 - 1) / (2 ^ 2 ^ p + 1) * 2 ^ 2 ^ p

tables_are : each_below 8 (λ p. each_below 256 (λ n. bit_at (table p) n == bit_at n p)) ≡ true
tables_are = refl

abbrev tables : List ℕ
tables = table 0 ∷ table 1 ∷ table 2 ∷ table 3 ∷ table 4 ∷ table 5 ∷ table 6 ∷ table 7 ∷ []

-- the circuit on the bits of all bytes at once
abbrev results : Circuit → List ℕ
results c = circuit 0 bit_xor bit_and (2 ^ 256 - 1) c tables

abbrev entry : List ℕ → ℕ → ℕ
entry ts n = number (map (λ t. bit_at t n) ts)

-- these are the tables of the S-box's bits
abbrev are_sub : List ℕ → Bool
are_sub ts = (entry ts 0 == 0x63) && each_below 255 (λ b. let s = entry ts (suc b) in is_sub (suc b) s)

entry_is : (ts : List ℕ) → are_sub ts ≡ true → (n : ℕ) → n < 256 → entry ts n ≡ sub_byte n
entry_is ts e n h =
    let parts = and_parts _ _ e in
    sub_below (entry ts) (eqb-true (entry ts 0) 0x63 parts.0) parts.1 n h

pub computed : are_sub (results gates) ≡ true
unfolding field_mul
computed = refl

bits_entry : (c : Circuit) (n : ℕ) → n < 256 → map (λ t. bit_at t n) (results c) ≡ on_bits c (bit_at n)
bits_entry c n h =
    let here = λ (p : ℕ) (hp : p < 8). eqb-true (bit_at (table p) n) (bit_at n p)
    (each_below-at 256 (λ n. bit_at (table p) n == bit_at n p) n (each_below-at 8 (λ p. each_below 256 (λ n. bit_at (table p) n == bit_at n p)) p tables_are hp) h) in
    circuit_is (λ t. bit_at t n) 0 bit_xor bit_and add min (λ a b. bit_at_xor a b n) (λ a b. bit_at_and a b n) (2 ^ 256 - 1) c tables
    ∙ (λ i. circuit (bit_at-zero n i) add min (bit_at_ones 256 n h i) c
    (here 0 (lit< tt) i ∷ here 1 (lit< tt) i ∷ here 2 (lit< tt) i ∷ here 3 (lit< tt) i ∷ here 4 (lit< tt) i ∷ here 5 (lit< tt) i ∷ here 6 (lit< tt) i ∷ here 7 (lit< tt) i ∷ []))

-- a function of a lane's number, as its lanes and as a bit of one of them
abbrev lanes : (ℕ → ℕ) → List ℕ
lanes v = values v 0 16

abbrev bit_of : ℕ → ℕ → (ℕ → ℕ) → ℕ
bit_of i j v = bit_at (v i) j

abbrev pub sub_planes : Circuit → List (List ℕ) → List (List ℕ)
sub_planes c q = circuit (replicate 16 0) (zip2 bit_xor) (zip2 bit_and) (replicate 16 255) c q

module _ (c : Circuit) (right : are_sub (results c) ≡ true) (f : ℕ → ℕ → ℕ) where
  abbrev wires : List (ℕ → ℕ)
  wires = f 0 ∷ f 1 ∷ f 2 ∷ f 3 ∷ f 4 ∷ f 5 ∷ f 6 ∷ f 7 ∷ []

  -- the circuit on functions of a lane's number
  all : List (ℕ → ℕ)
  all =
      run (λ i. 0) (λ v w i. bit_xor (v i) (w i)) (λ v w i. bit_and (v i) (w i)) c.4
      (before_last (λ i. 0) (λ v w i. bit_xor (v i) (w i)) (λ v w i. bit_and (v i) (w i)) (λ i. 255) c wires)

  abbrev outs : List (ℕ → ℕ)
  outs = map (λ k. slice_index_or all k (λ i. 0)) result_wires

  as_lanes : sub_planes c (planes_of f) ≡ map lanes outs
  unfolding all
  as_lanes =
      sym (circuit_is lanes (λ i. 0) (λ v w i. bit_xor (v i) (w i)) (λ v w i. bit_and (v i) (w i)) (zip2 bit_xor) (zip2 bit_and)
      (λ a b. refl) (λ a b. refl) (λ i. 255) c wires)

  as_bits : (i j : ℕ) → j < 8 → map (bit_of i j) outs ≡ on_bits c (bit_at (byte_of (λ p. f p i) j))
  unfolding all
  as_bits i j hj =
      let b = bits (λ p. f p i) j in
      circuit_is (bit_of i j) (λ i. 0) (λ v w i. bit_xor (v i) (w i)) (λ v w i. bit_and (v i) (w i)) add min
      (λ a b. bit_at_xor (a i) (b i) j) (λ a b. bit_at_and (a i) (b i) j) (λ i. 255) c wires
      ∙ (λ k. circuit (bit_at-zero j k) add min (bit_at_ones 8 j hj k) c
      (sym b.0 k ∷ sym b.1 k ∷ sym b.2 k ∷ sym b.3 k ∷ sym b.4 k ∷ sym b.5 k ∷ sym b.6 k ∷ sym b.7 k ∷ []))

  lanes_block : (j : ℕ) → j < 8 → block_in (map lanes outs) j ≡ sub_bytes (block_in (planes_of f) j)
  unfolding byte_of sub_bytes
  lanes_block j hj =
      state_is (λ r c. number (map (bit_of (4 * r + c) j) outs)) (λ r c. sub_byte (byte_of (λ p. f p (4 * r + c)) j))
      (λ r d. let n = byte_of (λ p. f p (4 * r + d)) j in let h = byte-lt (λ p. f p (4 * r + d)) j in
      ap number (as_bits (4 * r + d) j hj ∙ sym (bits_entry c n h)) ∙ entry_is (results c) right n h)

module _ (c : Circuit) (right : are_sub (results c) ≡ true) (q : List (List ℕ)) (full : IsPlanes q)
    (result : List (List ℕ)) (is : result ≡ sub_planes c (planes_from q 0 8)) where
  lanes_are : result ≡ map lanes (outs c right (lane_in q))
  lanes_are = is ∙ ap (sub_planes c) (by_lanes q full) ∙ as_lanes c right (lane_in q)

  pub sub_planes_full : IsPlanes result
  sub_planes_full = subst IsPlanes (sym lanes_are) (refl, refl, refl, refl, refl, refl, refl, refl)

  pub sub_planes_block : (j : ℕ) → j < 8 → block_in result j ≡ sub_bytes (block_in q j)
  unfolding byte_of
  sub_planes_block j hj =
      ap (λ t. block_in t j) lanes_are ∙ lanes_block c right (lane_in q) j hj ∙ ap (λ t. sub_bytes (block_in t j)) (sym (by_lanes q full))
