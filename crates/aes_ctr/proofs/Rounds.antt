-- The steps of a round on planes, as on each block.
use Rattle.std.proofs.Common.{◌≡◌, ℕ, ◌+◌, ◌*◌, ◌/◌, ◌%◌, List, [], ◌∷◌, length, refl, ap, sym, ◌∙◌, subst}
use Rattle.aes_ctr.specs.Cipher.{shift_rows, mixed, mix_columns, add_states, state_of}
use Rattle.aes_ctr.specs.InPlanes.{Eight, IsPlanes, lane_in, plane, eight, planes_of, moved, sums, doubled_planes, byte_of, block_in, values}
use Rattle.aes_ctr.proofs.Bytes.{byte_sum, byte_mixed}
use Rattle.aes_ctr.proofs.Lists.{values_of}

pub eight_is : (f g : ℕ → List ℕ) → Eight (λ p. f p ≡ g p) → eight f ≡ eight g
eight_is f g e = λ i. e.0 i ∷ e.1 i ∷ e.2 i ∷ e.3 i ∷ e.4 i ∷ e.5 i ∷ e.6 i ∷ e.7 i ∷ []

-- planes are those with their lanes
pub by_lanes : (q : List (List ℕ)) → IsPlanes q → eight (plane q) ≡ planes_of (lane_in q)
by_lanes q full =
    let is = λ (p : ℕ) (long : length (plane q p) ≡ 16). values_of (plane q p) 16 long in
    eight_is (plane q) (λ p. values (lane_in q p) 0 16) (is 0 full.0, is 1 full.1, is 2 full.2, is 3 full.3, is 4 full.4, is 5 full.5, is 6 full.6, is 7 full.7)

-- two states, byte by byte
pub state_is : (f g : ℕ → ℕ → ℕ) → ((r c : ℕ) → f r c ≡ g r c) → state_of f ≡ state_of g
state_is f g e = λ i. state_of (λ r c. e r c i)

-- what a step makes of any planes, from what it makes of planes by their lanes
module _ (q : List (List ℕ)) (full : IsPlanes q) (step : List (List ℕ) → List (List ℕ)) where
  pub step_full : IsPlanes (step (planes_of (lane_in q))) → IsPlanes (step (eight (plane q)))
  step_full = subst (λ t. IsPlanes (step t)) (sym (by_lanes q full))

  pub step_block : (j : ℕ) → block_in (step (eight (plane q))) j ≡ block_in (step (planes_of (lane_in q))) j
  step_block j = ap (λ t. block_in (step t) j) (by_lanes q full)

abbrev all_long : Eight (λ p. ◌≡◌ {A = ℕ} 16 16)
all_long = (refl, refl, refl, refl, refl, refl, refl, refl)

abbrev shifted : List (List ℕ) → List (List ℕ)
shifted = moved (λ i. i / 4 * 4 + (i + i / 4) % 4)

abbrev pub mixed_planes : List (List ℕ) → List (List ℕ)
mixed_planes q =
    let below = moved (λ i. (i + 4) % 16) q in
    let pairs = sums q below in
    sums (sums below (moved (λ i. (i + 8) % 16) pairs)) (doubled_planes pairs)

module _ (q : List (List ℕ)) (full : IsPlanes q) where
  pub shifted_full : IsPlanes (shifted q)
  shifted_full = step_full q full shifted all_long

  pub shifted_block : (j : ℕ) → block_in (shifted q) j ≡ shift_rows (block_in q j)
  unfolding shift_rows byte_of
  shifted_block j = step_block q full shifted j

  pub mixed_full : IsPlanes (mixed_planes q)
  mixed_full = step_full q full mixed_planes all_long

  pub mixed_block : (j : ℕ) → block_in (mixed_planes q) j ≡ mix_columns (block_in q j)
  unfolding mix_columns byte_of
  mixed_block j =
      let row = λ (r c p : ℕ). lane_in q p (4 * (r % 4) + c) in
      let byte = λ (r c : ℕ). byte_of (row r c) j in
      step_block q full mixed_planes j
      ∙ state_is _ (λ r c. mixed (byte r c) (byte (r + 1) c) (byte (r + 2) c) (byte (r + 3) c))
      (λ r c. byte_mixed (row r c) (row (r + 1) c) (row (r + 2) c) (row (r + 3) c) j)

  pub sum_full : (k : List (List ℕ)) → IsPlanes k → IsPlanes (sums q k)
  sum_full k fk = step_full q full (λ t. sums t k) (step_full k fk (sums (planes_of (lane_in q))) all_long)

  pub sum_block : (k : List (List ℕ)) → IsPlanes k → (j : ℕ) → block_in (sums q k) j ≡ add_states (block_in q j) (block_in k j)
  unfolding add_states byte_of
  sum_block k fk j =
      step_block q full (λ t. sums t k) j ∙ step_block k fk (sums (planes_of (lane_in q))) j
      ∙ state_is _ _ (λ r c. byte_sum (λ p. lane_in q p (4 * r + c)) (λ p. lane_in k p (4 * r + c)) j)
