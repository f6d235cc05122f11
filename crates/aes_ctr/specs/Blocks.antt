-- Counter mode (NIST SP 800-38A, 6.5).
use Rattle.std.specs.Prelude.{ℕ, suc, ◌+◌, ◌/◌, ◌%◌, ◌^◌, List, [], ◌∷◌, ◌++◌, bit_xor, slice_index}
use Rattle.std.specs.Int.{w32, to_be_bytes}

-- byte i of the stream that encrypt makes of the blocks front and counter, from the counter first on
unfoldable pub stream_byte : (List ℕ → List ℕ) → List ℕ → ℕ → ℕ → ℕ
stream_byte encrypt front first i =
    slice_index (encrypt (front ++ to_be_bytes w32 ((first + i / 16) % 2 ^ 32))) (i % 16)

-- the bytes plus those of the stream from byte i on
unfoldable pub streamed_from : (List ℕ → List ℕ) → List ℕ → ℕ → ℕ → List ℕ → List ℕ
streamed_from encrypt front first i [] = []
streamed_from encrypt front first i (x ∷ xs) =
    bit_xor x (stream_byte encrypt front first i) ∷ streamed_from encrypt front first (suc i) xs

-- the bytes plus the stream
abbrev pub streamed : (List ℕ → List ℕ) → List ℕ → ℕ → List ℕ → List ℕ
streamed encrypt front first bytes = streamed_from encrypt front first 0 bytes
