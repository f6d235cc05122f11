-- Round keys in planes.
use Rattle.std.specs.Prelude.{ℕ, ◌≡◌, ◌<◌, List, [], length, slice_index_or}
use Rattle.aes_ctr.specs.declared.cipher.RoundKey.{RoundKey}
use Rattle.aes_ctr.specs.Cipher.{round_key}
use Rattle.aes_ctr.specs.InPlanes.{IsPlanes, block_in}

-- the planes of key r
abbrev pub planes_at : List RoundKey → ℕ → List (List ℕ)
planes_at keys r = (slice_index_or keys r record { planes = [] }).planes

abbrev pub AreFull : List RoundKey → Type 0
AreFull keys = (r : ℕ) → r < length keys → IsPlanes (planes_at keys r)

-- the first n keys are the round keys of these words, in each of the eight blocks
abbrev pub AreRoundKeys : List RoundKey → List (List ℕ) → ℕ → Type 0
AreRoundKeys keys ws n = (r : ℕ) → r < n
    → IsPlanes (planes_at keys r) × ((j : ℕ) → j < 8 → block_in (planes_at keys r) j ≡ round_key ws r)
