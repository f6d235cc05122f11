-- The sets of passes that a new bank gives to its eight authors.
use Rattle.std.specs.Prelude.{◌≡◌, ℕ, ◌<◌, ◌^◌, List, [], length, sum, All, Some, slice_index_or}
use Rattle.version_cell.specs.Known.{Known}
use Rattle.version_cell.specs.Cells.{CellData}
use Rattle.version_cell.specs.Sets.{ArePassesOf, new_passes}

-- the quotas of each data set add up to less than 2 ^ 63
abbrev pub AreSmall : List (List ℕ) → Type 0
AreSmall quotas = All (λ of_set. sum of_set < 2 ^ 63) quotas

-- a set of passes for each of the eight numbers, in order
pub record AreHands (bank : List CellData) (hands : List (List Known)) : Type 0 where
  pub eight : length hands ≡ 8
  pub each : (t : ℕ) → t < 8 → slice_index_or hands t [] ≡ new_passes bank (Some t)
  pub own : (t : ℕ) → t < 8 → ArePassesOf bank (slice_index_or hands t [])
