-- The limits of a turn.
use Rattle.std.specs.Prelude.{ℕ}

-- the bytes of a frame at most
abbrev pub longest_frame : ℕ
longest_frame = 2048

-- the bytes of a turn's frames at most, and those of its datagrams
abbrev pub frames_bytes : ℕ
frames_bytes = 32768

abbrev pub datagrams_bytes : ℕ
datagrams_bytes = 229376

-- so many datagrams at most
abbrev pub most_datagrams : ℕ
most_datagrams = 1024
