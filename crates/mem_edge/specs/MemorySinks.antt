-- What a sink in memory shows: its bytes, the writes that it was told to fail, and its counts.
use Rattle.std.specs.Prelude.{ℕ, Bool, List, ◌||◌, ◌+◌, length, nat_lt}
use Rattle.mem_edge.specs.Calls.{is_named}
use Rattle.mem_edge.specs.declared.memory_sink.MemorySink.{MemorySink}

abbrev pub written_by : MemorySink → List ℕ
written_by sink = sink.bytes.items

-- the numbers of the writes that fail
abbrev pub named_writes : MemorySink → List ℕ
named_writes sink = sink.fails.items

-- how many writes there were, which is the number of the next
abbrev pub writes_made : MemorySink → ℕ
writes_made sink = sink.writes

abbrev pub faults_of : MemorySink → ℕ
faults_of sink = sink.faults

-- how many bytes it holds: 4 MiB
abbrev pub room : ℕ
room = 4194304

-- the next write is named, or it passes the room
abbrev pub fails_writing : MemorySink → List ℕ → Bool
fails_writing sink bytes = is_named (named_writes sink) (writes_made sink) || nat_lt room (length (written_by sink) + length bytes)
