-- The place of a datagram in a lane.
use Rattle.std.specs.Prelude.{◌≡◌, ℕ, ◌<◌, List, [], length, Option, Some, None, slice_index_or}
use Rattle.writer_group.specs.Standing.{datagrams_in}
use Rattle.group_threads.specs.Pairs.{no_pair}
use Rattle.lane_groups.specs.declared.place.Place.{Place}
use Rattle.lane_groups.specs.Places.{IsShown, pairs_from}

abbrev pub count_of : Option Place → ℕ
count_of None = 0
count_of (Some place) = place.count

-- it has a datagram with this index
abbrev pub HasDatagram : Option Place → ℕ → Type 0
HasDatagram None k = ⊥
HasDatagram (Some place) k = IsShown place × (k < length (datagrams_in place.out))

abbrev pub datagram_of : Option Place → ℕ → List ℕ
datagram_of None k = []
datagram_of (Some place) k = slice_index_or (datagrams_in place.out) k []

-- the datagram with this index stands in this place, with the other index
pub record IsFound (places : List (Option Place)) (index g k : ℕ) : Type 0 where
  pub low : g < length places
  pub has : HasDatagram (slice_index_or places g None) k
  pub is : slice_index_or (pairs_from 0 places) index no_pair ≡ record { group = g; datagram = datagram_of (slice_index_or places g None) k }
