-- The value and the status of one field of a row, and a row in which one of them is another.
use Rattle.std.specs.Prelude.{◌≡◌, ℕ, zero, suc, List, [], ◌∷◌}
use Rattle.std.specs.List.{HoldsAt}
use Rattle.ua_values.specs.declared.value.Value.{Value}
use Rattle.dataset_meta.specs.DataValues.{DataValue}

-- the value at an index
abbrev pub HasValue : List DataValue → ℕ → Value → Type 0
HasValue row index value = HoldsAt (λ x. x.value ≡ value) row index

-- the status at an index
abbrev pub HasStatus : List DataValue → ℕ → ℕ → Type 0
HasStatus row index status = HoldsAt (λ x. x.status ≡ status) row index

-- this value at an index, with the status that is there
abbrev pub with_value : List DataValue → ℕ → Value → List DataValue
with_value [] index value = []
with_value (x ∷ row) zero value = record { value = value; status = x.status } ∷ row
with_value (x ∷ row) (suc index) value = x ∷ with_value row index value

-- this status at an index, with the value that is there
abbrev pub with_status : List DataValue → ℕ → ℕ → List DataValue
with_status [] index status = []
with_status (x ∷ row) zero status = record { value = x.value; status = status } ∷ row
with_status (x ∷ row) (suc index) status = x ∷ with_status row index status
