-- Calls that are named to fail, by their numbers from 0.
use Rattle.std.specs.Prelude.{ℕ, ◌+◌, ◌-◌, ◌^◌, Bool, List, ◌==◌, min, nat_le, count_by}
use Rattle.std.specs.List.{list_any}

abbrev pub is_named : List ℕ → ℕ → Bool
is_named fails number = list_any (λ fail. fail == number) fails

-- how many of the list name this call or a later one
abbrev pub named_from : ℕ → List ℕ → ℕ
named_from number fails = count_by (λ fail. nat_le number fail) fails

-- the number after this one, as 128 bits count: no number of 64 bits comes twice
abbrev pub next_call : ℕ → ℕ
next_call number = min (number + 1) (2 ^ 128 - 1)
