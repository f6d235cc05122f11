-- What a text of `json` tells.
use Rattle.std.specs.Prelude.{◌≡◌, ◌≤◌, ℕ, List, All}
use Rattle.json_frames.specs.Parts.{Part}

-- each byte is a space or above, so none is a line feed
abbrev pub IsOneLine : List ℕ → Type 0
IsOneLine bytes = All (λ byte. 32 ≤ byte) bytes

-- the same lines, of which the same parts are read, and as many datagrams without one
pub record AreLinesAlike (lines others : List (List ℕ)) (parts its : List Part) (skipped left : ℕ) : Type 0 where
  pub lines_are : lines ≡ others
  pub parts_are : parts ≡ its
  pub skipped_are : skipped ≡ left
