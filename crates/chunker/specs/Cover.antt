-- 4,096 bits in 64 words, a bit for each offset of a message.
use Rattle.std.specs.Prelude.{ℕ, ◌/◌, ◌%◌, ◌==◌, ◌&&◌, nat_le, nat_lt, Bool, List, slice_index}
use Rattle.std.specs.Int.{bit_at}

-- the offset's bit: bit offset % 64 of word offset / 64
abbrev pub has_offset : List ℕ → ℕ → Bool
has_offset words offset = bit_at (slice_index words (offset / 64)) (offset % 64) == 1

abbrev pub is_between : ℕ → ℕ → ℕ → Bool
is_between first end offset = nat_le first offset && nat_lt offset end
