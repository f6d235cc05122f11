-- Whole numbers and texts among JSON values. A number with a point or an exponent is no whole number.
use Rattle.std.specs.Prelude.{ℕ, ◌^◌, ℤ, nat_lt, if◌then◌else◌, List, Option, Some, None, option_and_then}
use Rattle.serde_json.specs.Data.{Data}
use Rattle.serde_json.specs.Find.{get, as_number, as_u64, as_integer, as_str}

-- the whole number that a value is
abbrev pub integer_in : Data → Option ℤ
integer_in d = option_and_then as_integer (as_number d)

-- the whole number that a value is, where it isn't negative
abbrev pub natural_in : Data → Option ℕ
natural_in d = option_and_then as_u64 (as_number d)

-- n, where it has at most so many bits
abbrev pub fitting : ℕ → ℕ → Option ℕ
fitting bits n = if nat_lt n (2 ^ bits) then Some n else None

-- the whole number of so many bits that a member is
abbrev pub number_at : ℕ → List ℕ → Data → Option ℕ
number_at bits name d = option_and_then (fitting bits) (option_and_then natural_in (get name d))

-- the text that a member is
abbrev pub text_at : List ℕ → Data → Option (List ℕ)
text_at name d = option_and_then as_str (get name d)
