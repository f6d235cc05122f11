-- What a link in memory shows, and what its calls do to it.
use Rattle.std.specs.Prelude.{◌≡◌, ◌+◌, ◌-◌, ◌^◌, ℕ, Bool, true, false, List, [], ◌∷◌, ◌++◌, length, Option, Some, None, fold, if◌then◌else◌}
use Rattle.mem_edge.specs.declared.memory_link.MemoryLink.{MemoryLink}
use Rattle.ua_base.specs.declared.link.Fate.{Fate}
use Rattle.ua_base.specs.declared.link.Sent.{Sent as SentEnd}
use Rattle.ua_base.specs.declared.link.Sent.TheVariants as sent
use Rattle.ua_base.specs.Journal.{Entry, Sent, SendFailed, Got, Empty, Long, ReceiveFailed, LinkState, told_more}
use Rattle.ua_base.specs.Links.{Making, Opening}
use Rattle.mem_edge.specs.Calls.{is_named}
use Rattle.mem_edge.specs.Transits.{journal_in, told_in, injected_in}
use Rattle.mem_edge.specs.Queueing.{queued_by}
use Rattle.mem_edge.specs.Sends.{sends_in}

-- the journal that it keeps; as long as it tells one, this is the journal that it tells
abbrev pub journal_of : MemoryLink → List Entry
journal_of link = journal_in link.transit

abbrev pub told_by : MemoryLink → Option LinkState
told_by link = told_in link.transit

-- so many answers Nothing stand at the end of a journal that has this entry more, if there were so many before
abbrev pub nothings_with : ℕ → Entry → ℕ
nothings_with nothings (Sent datagram) = 0
nothings_with nothings SendFailed = 0
nothings_with nothings (Got datagram) = 0
nothings_with nothings Empty = nothings + 1
nothings_with nothings (Long len) = 0
nothings_with nothings ReceiveFailed = 0

-- how many answers Nothing stand at a journal's end
abbrev pub nothings_behind : List Entry → ℕ
nothings_behind journal = fold nothings_with 0 journal

-- how many answers Nothing may come in a row until it tells no more
abbrev pub patience_in : Option LinkState → ℕ
patience_in None = 0
patience_in (Some state) = 2 ^ 64 - 1 - nothings_behind state.journal

abbrev pub patience_of : MemoryLink → ℕ
patience_of link = patience_in (told_by link)

abbrev pub faults_of : MemoryLink → ℕ
faults_of link = link.faults

abbrev pub opened_by : MemoryLink → Option Opening
opened_by link = if link.is_open then Some (record { port = link.port; fates = link.fates.items }) else None

-- the fates that it has
abbrev pub fates_of : MemoryLink → List (ℕ × Fate)
fates_of link = link.fates.items

-- the injected datagrams, with the numbers after which they come
abbrev pub injected_by : MemoryLink → List (ℕ × List ℕ)
injected_by link = injected_in link.transit

-- the numbers of the sends that fail
abbrev pub named_sends : MemoryLink → List ℕ
named_sends link = link.send_fails.items

-- the numbers of the receives that fail
abbrev pub named_receives : MemoryLink → List ℕ
named_receives link = link.receive_fails.items

-- each opening fails
abbrev pub fails_opening : MemoryLink → Bool
fails_opening link = link.open_fails

-- what it was made to do
abbrev pub made_by : MemoryLink → Making
made_by link = record { injected = injected_by link; send_fails = named_sends link; receive_fails = named_receives link; open_fails = fails_opening link }

-- how many openings were Done
abbrev pub openings_of : MemoryLink → ℕ
openings_of link = link.openings

-- how many receives there were since it was opened, which is the number of the next
abbrev pub receives_made : MemoryLink → ℕ
receives_made link = link.receives

-- a send has the number of the sends before it since the link was opened
abbrev pub fails_sending : MemoryLink → Bool
fails_sending link = is_named (named_sends link) (length (sends_in (journal_of link)))

abbrev pub fails_receiving : MemoryLink → Bool
fails_receiving link = is_named (named_receives link) (receives_made link)

-- a send and all that it queues, by its answer
abbrev pub SendsInMemory : List ℕ → SentEnd → MemoryLink → MemoryLink → Type 0
SendsInMemory datagram sent.Done old new =
    (told_by new ≡ told_more (told_by old) (Sent datagram ∷ []) (queued_by (fates_of old) (injected_by old) (sends_in (journal_of old)) datagram))
    × (journal_of new ≡ journal_of old ++ Sent datagram ∷ [])
SendsInMemory datagram sent.Failed old new =
    (told_by new ≡ told_more (told_by old) (SendFailed ∷ []) []) × (journal_of new ≡ journal_of old ++ SendFailed ∷ [])
SendsInMemory datagram sent.Memory old new = (told_by new ≡ told_by old) × (journal_of new ≡ journal_of old)

abbrev pub is_failed : SentEnd → Bool
is_failed sent.Done = false
is_failed sent.Failed = true
is_failed sent.Memory = false
