-- What differs in the first fields of two rows.
use Rattle.std.specs.Prelude.{◌≡◌, ℕ, ◌+◌, ◌-◌, ◌/◌, ◌<◌, ◌≤◌, List, take, drop, slice_index}
use Rattle.dataset_meta.specs.DataValues.{DataValue}
use Rattle.dataset_meta.specs.declared.field.Field.{Field}
use Rattle.dataset_meta.specs.Metas.{start_of, value_words}
use Rattle.dataset_meta.specs.Rows.{differs}

abbrev pub changes_upto : ℕ → List DataValue → List DataValue → List (ℕ × DataValue)
changes_upto count old new = differs (take count old) (take count new)

-- the words of the values from one field up to another are the same
abbrev pub HaveSameValues : List Field → ℕ → ℕ → List ℕ → List ℕ → Type 0
HaveSameValues fields from to old new =
    take (start_of fields to - start_of fields from) (drop (start_of fields from) old)
    ≡ take (start_of fields to - start_of fields from) (drop (start_of fields from) new)

-- and those in which their statuses stand
abbrev pub HaveSameStatuses : List Field → ℕ → ℕ → List ℕ → List ℕ → Type 0
HaveSameStatuses fields from to old new =
    (index : ℕ) → from ≤ index → index < to
    → slice_index old (value_words fields + index / 2) ≡ slice_index new (value_words fields + index / 2)
