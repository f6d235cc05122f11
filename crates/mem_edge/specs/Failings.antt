-- The calls that are named to fail and are still to come.
use Rattle.std.specs.Prelude.{◌≡◌, ◌≤◌, ◌<◌, ℕ, List, drop}
use Rattle.std.specs.List.{All, AllPairs}
use Rattle.mem_edge.specs.declared.failing.Failing.{Failing}
use Rattle.mem_edge.specs.Calls.{is_named}

-- the numbers of those to come
abbrev pub ahead_in : Failing → List ℕ
ahead_in failing = drop failing.next failing.numbers.items

-- these are, in rising order, the numbers of a list from this number on
pub record IsAhead (fails : List ℕ) (number : ℕ) (ahead : List ℕ) : Type 0 where
  pub rising : AllPairs (λ m n. m < n) ahead
  pub later : All (λ n. number ≤ n) ahead
  pub same : (n : ℕ) → number ≤ n → is_named ahead n ≡ is_named fails n
