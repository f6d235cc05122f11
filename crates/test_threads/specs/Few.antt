-- A maker of two datagrams a turn.
use Rattle.std.specs.Prelude.{ℕ, List, [], ◌∷◌}
use Rattle.group_threads.specs.Pairs.{Pair}
use Rattle.test_threads.specs.declared.few.Few.{Few}

abbrev pub made_by : Few → List Pair
made_by few = record { group = few.group; datagram = few.first } ∷ record { group = few.group; datagram = few.second } ∷ []
