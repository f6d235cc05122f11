-- Model frame, Published row: DataSetMessages with their places, and the rows that they publish (OPC 10000-14 7.2.4.5, DataSetMessage). Lists have the latest first.
use Rattle.std.specs.Prelude.{ℕ, ◌-◌, ◌≤◌, ⊤, List, [], ◌∷◌, Bool, true, false}
use Rattle.dataset_meta.specs.DataValues.{DataValue}
use Rattle.dataset_meta.specs.Metas.{MetaData}
use Rattle.dataset_meta.specs.Rows.{patched, row_cut, patch_cut}
use Rattle.seq_number.specs.Numbers.{number_of_place}

-- a DataSetMessage with its place in all that a writer sends: a key frame, a delta frame or a keep-alive
pub data PlacedFrame : Type 0 where
  Whole : (place : ℕ) (row : List DataValue) → PlacedFrame
  Change : (place : ℕ) (patch : List (ℕ × DataValue)) → PlacedFrame
  Alive : (next : ℕ) → PlacedFrame

-- the place that a keep-alive tells of has one before it
abbrev pub IsPlacedFrame : PlacedFrame → Type 0
IsPlacedFrame (Whole place row) = ⊤
IsPlacedFrame (Change place patch) = ⊤
IsPlacedFrame (Alive next) = 1 ≤ next

-- where a frame stands; an Alive stands, silent, at the place before the next one
abbrev pub place_of : PlacedFrame → ℕ
place_of (Whole place row) = place
place_of (Change place patch) = place
place_of (Alive next) = next - 1

-- the number that a frame carries
abbrev pub carried : PlacedFrame → ℕ
carried (Whole place row) = number_of_place place
carried (Change place patch) = number_of_place place
carried (Alive next) = number_of_place next

-- a key frame
abbrev pub is_whole : PlacedFrame → Bool
is_whole (Whole place row) = true
is_whole (Change place patch) = false
is_whole (Alive next) = false

-- a keep-alive
abbrev pub is_silent : PlacedFrame → Bool
is_silent (Whole place row) = false
is_silent (Change place patch) = false
is_silent (Alive next) = true

-- a frame cut to the fields of a shorter meta
abbrev pub placed_cut : MetaData → PlacedFrame → PlacedFrame
placed_cut short (Whole place row) = Whole place (row_cut short row)
placed_cut short (Change place patch) = Change place (patch_cut short patch)
placed_cut short (Alive next) = Alive next

-- the row that a frame publishes behind a row
abbrev pub publishes : List DataValue → PlacedFrame → List DataValue
publishes before (Whole place row) = row
publishes before (Change place patch) = patched before patch
publishes before (Alive next) = before

-- the row that the last data frame publishes, the latest first; there is none before the first key frame
abbrev pub published : List PlacedFrame → List DataValue
published [] = []
published (frame ∷ before) = publishes (published before) frame
