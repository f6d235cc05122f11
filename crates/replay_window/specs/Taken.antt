-- What a receiver says of a message number, by the list of the numbers that it took, the latest first.
use Rattle.std.specs.Prelude.{◌≡◌, ℕ, ◌+◌, ◌==◌, Bool, List, [], ◌∷◌, max, nat_le, if◌then◌else◌}
use Rattle.std.specs.List.{list_any}
use Rattle.replay_window.specs.declared.seen.Seen.{Seen}
use Rattle.replay_window.specs.declared.seen.Seen.TheVariants.{Fresh, Repeated, TooOld}

-- the greatest of the numbers, or 0 of none
abbrev pub greatest : List ℕ → ℕ
greatest [] = 0
greatest (number ∷ taken) = max number (greatest taken)

-- the number is 1,024 or more below the greatest
abbrev pub is_too_old : List ℕ → ℕ → Bool
is_too_old taken number = nat_le (number + 1024) (greatest taken)

abbrev pub is_taken : List ℕ → ℕ → Bool
is_taken taken number = list_any (λ m. m == number) taken

abbrev pub seen : List ℕ → ℕ → Seen
seen taken number =
    if is_too_old taken number then TooOld (greatest taken)
    else (if is_taken taken number then Repeated else Fresh)

-- each was fresh when it was taken
abbrev pub WereFresh : List ℕ → Type 0
WereFresh [] = Unit {0}
WereFresh (number ∷ taken) = (seen taken number ≡ Fresh) × WereFresh taken
