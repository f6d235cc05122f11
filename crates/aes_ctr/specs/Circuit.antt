-- The circuit of the S-box, in five stages, on wires of any kind.
-- These too are words of the bodies, which no public contract cites.
use Rattle.std.specs.Prelude.{ℕ, zero, suc, List, [], ◌∷◌, ◌++◌, map, replicate, bit_and, bit_xor, slice_index_or}
use Rattle.std.specs.Simd.Lanes.{zip2}

-- a gate, of two earlier wires by their numbers
pub data Gate : Type 0 where
  Xor : (a b : ℕ) → Gate
  And : (a b : ℕ) → Gate

-- the gates of a stage, and the numbers of the wires that leave it
abbrev pub Stage : Type 0
Stage = List Gate × List ℕ

abbrev pub wire_of : {A : Type 0} → A → (A → A → A) → (A → A → A) → List A → Gate → A
wire_of d xor and ws (Gate.Xor a b) = xor (slice_index_or ws a d) (slice_index_or ws b d)
wire_of d xor and ws (Gate.And a b) = and (slice_index_or ws a d) (slice_index_or ws b d)

-- the wires, and those that the gates add
abbrev pub run : {A : Type 0} → A → (A → A → A) → (A → A → A) → List Gate → List A → List A
run d xor and [] ws = ws
run d xor and (g ∷ gs) ws = run d xor and gs (ws ++ wire_of d xor and ws g ∷ [])

-- the wires that leave a stage
abbrev pub outputs : {A : Type 0} → A → (A → A → A) → (A → A → A) → Stage → List A → List A
outputs d xor and s ws = let all = run d xor and s.0 ws in map (λ k. slice_index_or all k d) s.1

abbrev pub spread_stage : Stage
spread_stage = (
  Xor 6 5 ∷ Xor 7 1 ∷ Xor 4 2 ∷ Xor 7 4 ∷ Xor 7 2 ∷ Xor 9 10 ∷ Xor 8 0 ∷ Xor 3 13 ∷ Xor 14 7 ∷
      Xor 14 4 ∷ Xor 14 1 ∷ Xor 15 2 ∷ Xor 15 6 ∷ Xor 18 12 ∷ Xor 19 8 ∷ Xor 20 11 ∷ Xor 19 0 ∷
      Xor 0 23 ∷ Xor 8 23 ∷ Xor 22 23 ∷ Xor 22 12 ∷ Xor 9 26 ∷ Xor 7 26 ∷ [],
  0 ∷ 14 ∷ 16 ∷ 21 ∷ 17 ∷ 18 ∷ 24 ∷ 25 ∷ 12 ∷ 11 ∷ 22 ∷ 23 ∷ 13 ∷ 9 ∷ 10 ∷ 19 ∷ 26 ∷ 27 ∷ 30 ∷ 28 ∷
      20 ∷ 29 ∷ [],
)

abbrev pub norm_stage : Stage
norm_stage = (
  And 12 15 ∷ And 4 0 ∷ And 5 1 ∷ And 8 10 ∷ And 9 11 ∷ And 3 6 ∷ And 2 7 ∷ And 13 16 ∷ And 14 17 ∷
      Xor 23 22 ∷ Xor 25 26 ∷ Xor 27 22 ∷ Xor 28 29 ∷ Xor 24 29 ∷ Xor 30 26 ∷ Xor 31 32 ∷ Xor 34 32 ∷
      Xor 35 36 ∷ Xor 33 36 ∷ Xor 40 20 ∷ Xor 37 19 ∷ Xor 39 21 ∷ Xor 38 18 ∷ [],
  41 ∷ 42 ∷ 43 ∷ 44 ∷ [],
)

abbrev pub invert_stage : Stage
invert_stage = (
  And 0 2 ∷ Xor 0 1 ∷ Xor 2 3 ∷ Xor 1 4 ∷ Xor 3 4 ∷ And 7 6 ∷ And 5 8 ∷ Xor 9 3 ∷ Xor 10 1 ∷
      Xor 8 11 ∷ Xor 2 11 ∷ Xor 12 11 ∷ And 3 13 ∷ Xor 16 14 ∷ Xor 8 16 ∷ And 12 18 ∷ Xor 11 17 ∷
      Xor 5 19 ∷ Xor 21 17 ∷ Xor 12 21 ∷ Xor 15 22 ∷ [],
  12 ∷ 11 ∷ 17 ∷ 21 ∷ 22 ∷ 15 ∷ 23 ∷ 20 ∷ 24 ∷ [],
)

abbrev pub multiply_stage : Stage
multiply_stage = (
  And 23 0 ∷ And 22 2 ∷ And 23 4 ∷ And 22 7 ∷ And 27 9 ∷ And 27 11 ∷ Xor 31 34 ∷ And 24 3 ∷
      And 24 6 ∷ And 29 15 ∷ Xor 38 33 ∷ And 29 12 ∷ And 25 5 ∷ And 25 1 ∷ Xor 42 38 ∷ And 28 16 ∷
      And 28 13 ∷ Xor 34 43 ∷ And 26 10 ∷ Xor 40 46 ∷ And 30 17 ∷ And 30 14 ∷ Xor 31 47 ∷ And 26 8 ∷
      Xor 35 52 ∷ Xor 51 49 ∷ Xor 36 51 ∷ Xor 52 54 ∷ [],
  39 ∷ 46 ∷ 44 ∷ 47 ∷ 32 ∷ 55 ∷ 41 ∷ 48 ∷ 45 ∷ 53 ∷ 37 ∷ 56 ∷ 50 ∷ 57 ∷ 58 ∷ [],
)

abbrev pub join_stage : Stage
join_stage = (
  Xor 3 7 ∷ Xor 9 12 ∷ Xor 2 5 ∷ Xor 1 13 ∷ Xor 4 17 ∷ Xor 5 17 ∷ Xor 8 18 ∷ Xor 2 19 ∷ Xor 11 18 ∷
      Xor 7 21 ∷ Xor 0 22 ∷ Xor 20 24 ∷ Xor 16 24 ∷ Xor 19 22 ∷ Xor 12 26 ∷ Xor 23 27 ∷ Xor 6 27 ∷
      Xor 10 26 ∷ Xor 23 30 ∷ Xor 14 31 ∷ Xor 25 15 ∷ Xor 28 15 ∷ Xor 35 15 ∷ Xor 34 15 ∷ [],
  36 ∷ 37 ∷ 32 ∷ 33 ∷ 30 ∷ 38 ∷ 39 ∷ 29 ∷ [],
)

-- the first n of these planes
abbrev pub planes_from : List (List ℕ) → ℕ → ℕ → List (List ℕ)
planes_from q i zero = []
planes_from q i (suc n) = slice_index_or q i [] ∷ planes_from q (suc i) n

-- a stage on planes
abbrev pub on_planes : Stage → List (List ℕ) → List (List ℕ)
on_planes s ws = outputs (replicate 16 0) (zip2 bit_xor) (zip2 bit_and) s ws

unfoldable pub spread_planes : List (List ℕ) → List (List ℕ)
spread_planes q = on_planes spread_stage (planes_from q 0 8)

unfoldable pub norm_planes : List (List ℕ) → List (List ℕ)
norm_planes y = on_planes norm_stage (planes_from y 0 22)

unfoldable pub invert_planes : List (List ℕ) → List (List ℕ)
invert_planes t = on_planes invert_stage (planes_from t 0 4)

unfoldable pub multiply_planes : List (List ℕ) → List (List ℕ) → List (List ℕ)
multiply_planes y t = on_planes multiply_stage (planes_from y 0 22 ++ planes_from t 0 9)

unfoldable pub join_planes : List (List ℕ) → List (List ℕ)
join_planes z = on_planes join_stage (planes_from z 0 15 ++ replicate 16 255 ∷ [])
