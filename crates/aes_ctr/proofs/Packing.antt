-- Blocks into planes, and back.
use Rattle.std.proofs.Common.{◌≡◌, ℕ, ◌<◌, ◌+◌, ◌*◌, ◌/◌, ◌%◌, List, [], slice_index_or, refl, ap, sym, ◌∙◌, lit<}
use Rattle.aes_ctr.specs.InPlanes.{AreLanes, IsLanes, lane_in, plane, planes_of, moved, byte_of, block_in, transposed, values}
use Rattle.aes_ctr.proofs.Lists.{values_of, values-lt, below_eight}
use Rattle.aes_ctr.proofs.Rounds.{by_lanes, state_is}
use Rattle.aes_ctr.proofs.Swapping.{transposed-lt, byte_transposed, transposed_byte}

abbrev pub flipped : List (List ℕ) → List (List ℕ)
flipped q = moved (λ i. i / 4 + i % 4 * 4) q

abbrev pub transposition : List (List ℕ) → List (List ℕ)
transposition q = planes_of (λ p i. transposed (λ k. lane_in q k i) p)

module _ (q : List (List ℕ)) (lanes : AreLanes q) where
  small : (i k : ℕ) → k < 8 → lane_in q k i < 256
  small i k h = (lanes k h).1 i

  pub packed : (j : ℕ) → j < 8 → block_in (transposition (flipped q)) j ≡ slice_index_or q j []
  unfolding byte_of transposed
  packed j hj =
      let long = λ (p : ℕ) (h : p < 8). (lanes p h).0 in
      ap (λ t. block_in (transposition (flipped t)) j)
      (by_lanes q (long 0 (lit< tt), long 1 (lit< tt), long 2 (lit< tt), long 3 (lit< tt), long 4 (lit< tt), long 5 (lit< tt), long 6 (lit< tt), long 7 (lit< tt)))
      ∙ state_is _ _ (λ r c. byte_transposed (λ k. lane_in q k (r + 4 * c)) (small (r + 4 * c)) j hj)
      ∙ sym (values_of (plane q j) 16 (long j hj))

  pub unpacked_lanes : AreLanes (flipped (transposition q))
  unpacked_lanes =
      let bytes = λ (i k : ℕ). lane_in q k (i / 4 + i % 4 * 4) in
      let here : (j : ℕ) → j < 8 → IsLanes (values (λ i. transposed (bytes i) j) 0 16) = λ j h.
      (refl, values-lt (λ i. transposed (bytes i) j) 256 (lit< tt) (λ i. transposed-lt (bytes i) (small (i / 4 + i % 4 * 4)) j h) 0 16) in
      below_eight _ (here 0 (lit< tt), here 1 (lit< tt), here 2 (lit< tt), here 3 (lit< tt), here 4 (lit< tt), here 5 (lit< tt), here 6 (lit< tt), here 7 (lit< tt))

  pub unpacked : (j : ℕ) → j < 8 → slice_index_or (flipped (transposition q)) j [] ≡ block_in q j
  unpacked =
      let here = λ (j : ℕ) (h : j < 8). state_is _ _ (λ r c. sym (transposed_byte (λ k. lane_in q k (4 * r + c)) (small (4 * r + c)) j h)) in
      below_eight _ (here 0 (lit< tt), here 1 (lit< tt), here 2 (lit< tt), here 3 (lit< tt), here 4 (lit< tt), here 5 (lit< tt), here 6 (lit< tt), here 7 (lit< tt))
