-- 1,024 bits in 16 words of 64, a bit for each number modulo 1,024.
use Rattle.std.specs.Prelude.{ℕ, ◌/◌, ◌%◌, ◌==◌, Bool, List, slice_index}
use Rattle.std.specs.Int.{bit_at}

-- the number's bit: bit number % 64 of word number / 64 % 16
abbrev pub is_marked : List ℕ → ℕ → Bool
is_marked words number = bit_at (slice_index words (number / 64 % 16)) (number % 64) == 1
