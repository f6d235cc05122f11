-- Message numbers of 16 bits and the places that they stand for (OPC 10000-14, the sequence number of a DataSetMessage). Lists have the latest first.
use Rattle.std.specs.Prelude.{ℕ, ◌+◌, ◌-◌, ◌%◌, ◌<◌, ◌≤◌, max, List, [], ◌∷◌, Bool, nat_lt, ⊤}

-- the 16 bits that a frame carries of its place
abbrev pub number_of_place : ℕ → ℕ
number_of_place place = place % 65536

-- 1 to 16,384 numbers ahead
abbrev pub newer : ℕ → ℕ → Bool
newer r l = nat_lt ((65535 + r - l) % 65536) 16384

abbrev pub greatest : List ℕ → ℕ
greatest [] = 0
greatest (place ∷ before) = max place (greatest before)

-- each place is at most 16,384 above and at most 49,151 below the greatest before it
abbrev pub IsNear : List ℕ → Type 0
IsNear [] = ⊤
IsNear (place ∷ []) = ⊤
IsNear (place ∷ last ∷ before) =
    (place ≤ greatest (last ∷ before) + 16384) × (greatest (last ∷ before) < place + 49152) × IsNear (last ∷ before)

-- the place with this number, of a writer whose first place is `first` and who has sent fewer than 65,536
abbrev pub place_from : ℕ → ℕ → ℕ
place_from first number = first + (65536 + number - number_of_place first) % 65536
