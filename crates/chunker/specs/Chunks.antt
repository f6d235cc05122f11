-- Messages in chunks (OPC 10000-14, the chunked NetworkMessage). A chunk has the place of its message among all that its writer sent. Lists
-- have the latest first, but for the chunks of a cut.
use Rattle.std.specs.Prelude.{ℕ, ◌+◌, ◌-◌, ◌*◌, ◌/◌, List, [], ◌∷◌, length, map, filter, take, drop, Bool, not, ◌&&◌, ◌||◌, nat_le, nat_lt, ◌==◌, Option, Some, None, find, slice_index, if◌then◌else◌}
use Rattle.std.specs.List.{list_any, list_all, range_with_len}
use Rattle.seq_number.specs.Numbers.{greatest}

-- the longest message that is joined, in bytes
abbrev pub longest_message : ℕ
longest_message = 4096

pub record Chunk : Type 0 where
  pub place : ℕ
  pub offset : ℕ
  pub total : ℕ
  pub bytes : List ℕ

-- the k-th chunk of a message: its bytes from k times the room on, as many as there is room for
abbrev pub cut_at : ℕ → ℕ → List ℕ → ℕ → Chunk
cut_at room place message k = record { place = place; offset = k * room; total = length message; bytes = take room (drop (k * room) message) }

-- a message is cut at the multiples of the room below its length
abbrev pub cuts : ℕ → ℕ → List ℕ → List Chunk
cuts room place message = map (cut_at room place message) (range_with_len 0 ((length message + room - 1) / room))

abbrev pub is_at : ℕ → ℕ → Chunk → Bool
is_at place offset chunk = (chunk.place == place) && nat_le chunk.offset offset && nat_lt offset (chunk.offset + length chunk.bytes)

-- these chunks cover every offset of the message at this place
abbrev pub cover : List Chunk → ℕ → ℕ → Bool
cover chunks place total = list_all (λ offset. list_any (is_at place offset) chunks) (range_with_len 0 total)

-- a message is whole at a chunk: its place is the greatest so far, with this chunk it is covered, and without it it wasn't
abbrev pub is_whole_at : List Chunk → Chunk → Bool
is_whole_at before chunk =
    list_all (λ c. nat_le c.place chunk.place) before && cover (chunk ∷ before) chunk.place chunk.total && not (cover before chunk.place chunk.total)

-- a chunk is laid in: its place is the greatest so far, and its message isn't covered
abbrev pub is_laid_at : List Chunk → Chunk → Bool
is_laid_at before chunk = list_all (λ c. nat_le c.place chunk.place) before && not (cover before chunk.place chunk.total)

abbrev pub places : List Chunk → List ℕ
places chunks = map (λ chunk. chunk.place) chunks

-- the chunks of the greatest place
abbrev pub at_greatest : List Chunk → List Chunk
at_greatest chunks = filter (λ chunk. chunk.place == greatest (places chunks)) chunks

-- a chunk that counts: with bytes, within its total, which is one that can be joined and, at the greatest place so far, that of the others there
abbrev pub is_proper : List Chunk → Chunk → Bool
is_proper before chunk =
    nat_lt 0 (length chunk.bytes) && nat_le (chunk.offset + length chunk.bytes) chunk.total && nat_le chunk.total longest_message
    && list_all (λ c. not (c.place == chunk.place) || (c.total == chunk.total)) (at_greatest before)

-- the chunks that count, with one more that came
abbrev pub counted : List Chunk → Chunk → List Chunk
counted before chunk = if is_proper before chunk then chunk ∷ before else before

-- those of all that came that count
abbrev pub all_counted : List Chunk → List Chunk
all_counted [] = []
all_counted (chunk ∷ before) = counted (all_counted before) chunk

-- the message's bytes, each from the last chunk that has it
abbrev pub byte_in : ℕ → Option Chunk → ℕ
byte_in offset None = 0
byte_in offset (Some chunk) = slice_index chunk.bytes (offset - chunk.offset)

abbrev pub message_of : List Chunk → ℕ → ℕ → List ℕ
message_of chunks place total = map (λ offset. byte_in offset (find (is_at place offset) chunks)) (range_with_len 0 total)
