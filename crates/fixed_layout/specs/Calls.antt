-- What private steps of reading and writing say: scalars as words, and values that are set where they stand.
use Rattle.std.specs.Prelude.{◌≡◌, ℕ, ◌+◌, List, length, [], ◌∷◌, slice_set, Result, Ok, Err}
use Rattle.std.specs.List.{HoldsAt}
use Rattle.ua_values.specs.declared.kind.Kind.{Kind}
use Rattle.ua_values.specs.declared.value.Value.{Value}
use Rattle.ua_binary.specs.declared.pen.Pen.{Pen}
use Rattle.ua_binary.specs.Reading.{◌>>=◌}
use Rattle.ua_binary.specs.Writing.{Puts, laid}
use Rattle.dataset_meta.specs.declared.field.Field.{Field}
use Rattle.dataset_meta.specs.DataValues.{DataValue}
use Rattle.row_words.specs.declared.row.Row.{Row}
use Rattle.row_words.specs.Belonging.{row_in}
use Rattle.row_words.specs.Words.{scalar_in}
use Rattle.fixed_layout.specs.declared.fault.RawFault.{RawFault}
use Rattle.fixed_layout.specs.Spelling.{raw_value}
use Rattle.fixed_layout.specs.Reading.{raw_field_at}

-- the row that answered words stand for
abbrev pub meaning : List Field → Result Row RawFault → Result (List DataValue) RawFault
meaning fields (Ok row) = Ok (row_in fields row.words)
meaning fields (Err fault) = Err fault

-- the answer of a call that leaves it in place of another
abbrev pub leaving : {A F : Type 0} → Result (Unit {0}) F → A → Result A F
leaving (Ok done) x = Ok x
leaving (Err fault) x = Err fault

-- the scalar of this kind that has an answered word
abbrev pub scalar_of : Kind → Result ℕ RawFault → Result Value RawFault
scalar_of kind (Ok word) = Ok (scalar_in kind word)
scalar_of kind (Err fault) = Err fault

-- the value of a field, set at an index of a row
unfoldable pub set_at : Field → ℕ → List DataValue → List ℕ → Result (List DataValue × List ℕ) RawFault
set_at field index row bytes = raw_field_at field bytes >>= λ x. Ok (slice_set row index x.0, x.1)

-- the value at an index of a row stands behind what was written
abbrev pub PutsValue : List Field → List DataValue → ℕ → Pen → Pen → Type 0
PutsValue fields row index old new = HoldsAt (λ field. HoldsAt (λ x. Puts old new (raw_value field.cap x.value)) row index) fields index

-- the value at an index of a row was laid into these bytes from `at` on, and ends there
abbrev pub LaysValue : List Field → List DataValue → ℕ → ℕ → List ℕ → List ℕ → ℕ → Type 0
LaysValue fields row index at old new end =
    HoldsAt (λ field. HoldsAt (λ x. (new ≡ laid old at (raw_value field.cap x.value))
    × (end ≡ at + length (raw_value field.cap x.value))) row index) fields index
