-- Numbers by their digits, the lowest first.
use Rattle.std.specs.Prelude.{ℕ, zero, suc, ◌+◌, ◌*◌, ◌/◌, ◌%◌, List, [], ◌∷◌, take, drop}

-- the number that has these digits
abbrev pub from_digits : ℕ → List ℕ → ℕ
from_digits base [] = 0
from_digits base (digit ∷ digits) = digit + base * from_digits base digits

-- so many digits of a number
abbrev pub digits_of : ℕ → ℕ → ℕ → List ℕ
digits_of base zero number = []
digits_of base (suc count) number = number % base ∷ digits_of base count (number / base)

-- so many numbers, each of `size` digits of the list, and of fewer or none at its end
abbrev pub grouped : ℕ → ℕ → ℕ → List ℕ → List ℕ
grouped base size zero digits = []
grouped base size (suc count) digits =
    from_digits base (take size digits) ∷ grouped base size count (drop size digits)
