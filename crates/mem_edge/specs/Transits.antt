-- What datagrams in transit shows: its journal, what waits, what it tells, and its room.
use Rattle.std.specs.Prelude.{◌≡◌, ◌≤◌, ℕ, ◌+◌, ◌-◌, List, ◌++◌, map, drop, replicate, slice_get, unwrap_or, Option, None, vec_len, vec_capacity}
use Rattle.std.specs.List.{filter_map}
use Rattle.ua_base.specs.Journal.{Entry, LinkState}
use Rattle.mem_edge.specs.declared.transit.Transit.{Transit}
use Rattle.mem_edge.specs.declared.mark.Source.{Source}
use Rattle.mem_edge.specs.declared.mark.Source.TheVariants as place
use Rattle.mem_edge.specs.Marks.{datagram_at, entries, state_of}
use Rattle.mem_edge.specs.Contents.{bytes_of, injections}
use Rattle.mem_edge.specs.Sends.{sends_in}

-- the injected pairs
abbrev pub injected_in : Transit → List (ℕ × List ℕ)
injected_in transit = injections transit.injected.items

-- a datagram that it keeps
abbrev pub datagram_in : Transit → Source → List ℕ
datagram_in transit = datagram_at (map (λ p. p.1) (injected_in transit)) (bytes_of transit.sent.items)

-- the journal that it keeps; as long as it tells one, this is the journal that it tells
abbrev pub journal_in : Transit → List Entry
journal_in transit = entries (datagram_in transit) transit.first transit.log.items

-- what waits to be received
abbrev pub waiting_in : Transit → List (List ℕ)
waiting_in transit = map (datagram_in transit) (drop transit.next transit.queue.items)

abbrev pub told_in : Transit → Option LinkState
told_in transit = state_of transit.tells (journal_in transit) (waiting_in transit)

-- how many more entries it can write down beside those of the datagrams that wait
abbrev pub room_in : Transit → ℕ
room_in transit = vec_capacity transit.log - (vec_len transit.log + (vec_len transit.queue - transit.next))

-- what a send queues: so many copies, the sent ones of these held datagrams, and these injected ones
abbrev pub comes : Transit → List ℕ → ℕ → List (ℕ × ℕ) → List (ℕ × ℕ) → List (List ℕ)
comes transit datagram copies held injected =
    replicate copies datagram
    ++ filter_map (λ h. unwrap_or (slice_get (sends_in (journal_in transit)) h.1) None) held
    ++ map (λ p. datagram_in transit (place.Injected p.1)) injected

-- what a call that ran out of memory leaves
pub record IsUnchanged (old new : Transit) : Type 0 where
  pub told : told_in new ≡ told_in old
  pub journal : journal_in new ≡ journal_in old
  pub waiting : waiting_in new ≡ waiting_in old
  pub injected : injected_in new ≡ injected_in old
  pub room : room_in old ≤ room_in new
