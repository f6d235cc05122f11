-- The words of the bodies, which no public contract cites.
-- Eight blocks in eight planes of 16 lanes: bit j of lane 4 r + c of plane p is bit p of the byte
-- at row r and column c of block j.
use Rattle.std.specs.Prelude.{ℕ, zero, suc, ◌≡◌, ◌<◌, length, ◌+◌, ◌*◌, ◌/◌, ◌%◌, ◌^◌, ◌==◌, List, [], ◌∷◌, ◌++◌, bit_and, bit_xor, slice_index, slice_index_or, if◌then◌else◌}
use Rattle.std.specs.Int.{bit_at}
use Rattle.std.specs.Simd.Lanes.{zip2, pick_l}
use Rattle.aes_ctr.specs.Field.{from_bits_of}
use Rattle.aes_ctr.specs.Cipher.{state_of}

-- f i, f (i + 1) and so on, n of them
abbrev pub values : (ℕ → ℕ) → ℕ → ℕ → List ℕ
values f i zero = []
values f i (suc n) = f i ∷ values f (suc i) n

-- 16 lanes of bytes
abbrev pub IsLanes : List ℕ → Type 0
IsLanes v = (length v ≡ 16) × ((i : ℕ) → slice_index v i < 256)

abbrev pub AreLanes : List (List ℕ) → Type 0
AreLanes q = (p : ℕ) → p < 8 → IsLanes (slice_index_or q p [])

-- the same for each number below 8
abbrev pub Eight : (ℕ → Type 0) → Type 0
Eight P = P 0 × P 1 × P 2 × P 3 × P 4 × P 5 × P 6 × P 7

-- eight planes of 16 lanes
abbrev pub IsPlanes : List (List ℕ) → Type 0
IsPlanes q = Eight (λ p. length (slice_index_or q p []) ≡ 16)

-- lane i of plane p
abbrev pub lane_in : List (List ℕ) → ℕ → ℕ → ℕ
lane_in q p i = slice_index (slice_index_or q p []) i

-- the planes with these lanes
abbrev pub planes_of : (ℕ → ℕ → ℕ) → List (List ℕ)
planes_of f =
    let plane = λ (p : ℕ). values (f p) 0 16 in
    plane 0 ∷ plane 1 ∷ plane 2 ∷ plane 3 ∷ plane 4 ∷ plane 5 ∷ plane 6 ∷ plane 7 ∷ []

-- the byte whose bit p is bit j of f p
unfoldable pub byte_of : (ℕ → ℕ) → ℕ → ℕ
byte_of f j = from_bits_of (λ p. bit_at (f p) j)

-- block j
abbrev pub block_in : List (List ℕ) → ℕ → List ℕ
block_in q j = state_of (λ r c. byte_of (λ p. lane_in q p (4 * r + c)) j)

-- the first of two bytes, or at e = 1 the second, once the bits at the mask's places + n of the first
-- have changed places with those at the mask's places of the second
abbrev pub swapped : ℕ → ℕ → ℕ → ℕ → ℕ → ℕ
swapped n mask e x y =
    let t = bit_and (bit_xor (x / 2 ^ n) y) mask in
    if e == 0 then bit_xor x (t * 2 ^ n % 2 ^ 8) else bit_xor y t

-- byte p of eight, once each of the first four was swapped with the fourth after it
abbrev pub exchanged : ℕ → ℕ → (ℕ → ℕ) → ℕ → ℕ
exchanged n mask f p = swapped n mask (p % 2) (f (p / 2)) (f (p / 2 + 4))

-- eight bytes whose bits and numbers have changed places, by three exchanges
unfoldable pub transposed : (ℕ → ℕ) → ℕ → ℕ
transposed f = exchanged 1 0x55 (exchanged 2 0x33 (exchanged 4 0x0f f))

-- ---- the steps of a round on planes

abbrev pub plane : List (List ℕ) → ℕ → List ℕ
plane q p = slice_index_or q p []

-- eight planes
abbrev pub eight : (ℕ → List ℕ) → List (List ℕ)
eight f = f 0 ∷ f 1 ∷ f 2 ∷ f 3 ∷ f 4 ∷ f 5 ∷ f 6 ∷ f 7 ∷ []

-- the lanes of each plane, moved
abbrev pub moved : (ℕ → ℕ) → List (List ℕ) → List (List ℕ)
moved f q = eight (λ p. pick_l 0 (plane q p ++ plane q p) (values f 0 16))

-- the sum of each plane and its fellow
abbrev pub sums : List (List ℕ) → List (List ℕ) → List (List ℕ)
sums q k = eight (λ p. zip2 bit_xor (plane q p) (plane k p))

-- the planes of each byte's product by x
abbrev pub doubled_planes : List (List ℕ) → List (List ℕ)
doubled_planes q =
    let with7 = λ (p : ℕ). zip2 bit_xor (plane q p) (plane q 7) in
    plane q 7 ∷ with7 0 ∷ plane q 1 ∷ with7 2 ∷ with7 3 ∷ plane q 4 ∷ plane q 5 ∷ plane q 6 ∷ []
