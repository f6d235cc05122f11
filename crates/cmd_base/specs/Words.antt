-- The words of the command line.
use Rattle.std.specs.Prelude.{ℕ, List, length, Bool, ◌&&◌, not, nat_le, ◌==◌, slice_index}

-- the name of a file: 1 to 255 bytes, the first no dash
abbrev pub is_file_name : List ℕ → Bool
is_file_name word = nat_le 1 (length word) && nat_le (length word) 255 && not (slice_index word 0 == 45)
