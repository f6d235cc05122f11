-- The names of files.
use Rattle.std.specs.Prelude.{ℕ, ◌≤◌, List, length}
use Rattle.std.specs.Str.{IsUtf8}

-- a text of at most 255 bytes
pub record IsName (bytes : List ℕ) : Type 0 where
  pub short : length bytes ≤ 255
  pub text : IsUtf8 bytes
