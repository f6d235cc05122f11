-- Which datagrams a send queues. A link's datagrams are numbered from 0 by the sends since it was opened, failed ones
-- included; in a list of sends each has its datagram, or None where it failed.
use Rattle.std.specs.Prelude.{ℕ, Bool, false, ◌==◌, List, ◌++◌, map, filter, find, replicate, length, Option, None, if◌then◌else◌}
use Rattle.std.specs.List.{filter_map, enumerate_from}
use Rattle.std.specs.Option.{option_map, option_map_or}
use Rattle.ua_base.specs.declared.link.Fate.{Fate}
use Rattle.ua_base.specs.declared.link.Fate.TheVariants as fate

-- the fate of a datagram, by its number
abbrev pub fate_of : List (ℕ × Fate) → ℕ → Option Fate
fate_of fates number = option_map (λ f. f.1) (find (λ f. f.0 == number) fates)

-- how often a datagram with a fate is queued when it is sent
abbrev pub copies_of : Fate → ℕ
copies_of fate.Drop = 0
copies_of (fate.Repeat times) = times
copies_of (fate.Hold after) = 0
copies_of (fate.Again after) = 1

-- whether a datagram with a fate is queued right after this number was sent
abbrev pub waits_for : ℕ → Fate → Bool
waits_for number fate.Drop = false
waits_for number (fate.Repeat times) = false
waits_for number (fate.Hold after) = after == number
waits_for number (fate.Again after) = after == number

-- a datagram's own copies; without a fate it is queued once
abbrev pub own_copies : Option Fate → List ℕ → List (List ℕ)
own_copies fate datagram = replicate (option_map_or copies_of fate 1) datagram

-- of these sends, those that wait for a number, in rising order of their own
abbrev pub waiting_for : ℕ → List (ℕ × Fate) → List (Option (List ℕ)) → List (List ℕ)
waiting_for number fates sends =
    filter_map (λ s. if option_map_or (waits_for number) (fate_of fates s.0) false then s.1 else None) (enumerate_from 0 sends)

-- what is injected after a number
abbrev pub injected_after : ℕ → List (ℕ × List ℕ) → List (List ℕ)
injected_after number injected = map (λ p. p.1) (filter (λ p. p.0 == number) injected)

-- what a send queues, after these sends: its own copies, what waits for it, and what is injected after it
abbrev pub queued_by : List (ℕ × Fate) → List (ℕ × List ℕ) → List (Option (List ℕ)) → List ℕ → List (List ℕ)
queued_by fates injected sends datagram =
    let number = length sends in
    own_copies (fate_of fates number) datagram ++ waiting_for number fates sends ++ injected_after number injected
