-- What a joiner keeps, and what it does with a chunk. Here a chunk's place is its message's number.
use Rattle.std.specs.Prelude.{ℕ, ◌+◌, List, [], ◌∷◌, length, Bool, true, false, not, ◌||◌, nat_lt, ◌==◌, Option, Some, None, if◌then◌else◌}
use Rattle.std.specs.Option.{option_map_or}
use Rattle.seq_number.specs.Numbers.{newer}
use Rattle.chunker.specs.Chunks.{longest_message, Chunk, cover, message_of}
use Rattle.chunker.specs.declared.joiner.Joined.{Joined}
use Rattle.chunker.specs.declared.joiner.Joined.TheVariants.{Whole, Part, Older, TooLong, BadRange, Differs}

-- the current message's number and total, and the chunks laid into it, the latest first
pub record Joining : Type 0 where
  pub current : Option (ℕ × ℕ)
  pub chunks : List Chunk

-- a chunk as it comes, with its message's number
abbrev pub chunk_of : ℕ → ℕ → ℕ → List ℕ → Chunk
chunk_of number offset total bytes = record { place = number; offset = offset; total = total; bytes = bytes }

abbrev pub empty : Joining
empty = record { current = None; chunks = [] }

-- the current message is whole
abbrev pub is_joined : Joining → Bool
is_joined kept = option_map_or (λ now. cover kept.chunks now.0 now.1) kept.current false

-- the current message, once it is whole
abbrev pub joined_bytes : Joining → List ℕ
joined_bytes kept = option_map_or (λ now. if cover kept.chunks now.0 now.1 then message_of kept.chunks now.0 now.1 else []) kept.current []

-- the chunk's bytes are laid in
abbrev pub laid : Joining → Chunk → Joining × Joined
laid kept chunk = (
  record { current = Some (chunk.place, chunk.total); chunks = chunk ∷ kept.chunks },
  if cover (chunk ∷ kept.chunks) chunk.place chunk.total then Whole chunk.total else Part,
)

-- by the current message: a chunk of it, a newer number, or neither
abbrev pub current_case : Joining → Chunk → Option (ℕ × ℕ) → Joining × Joined
current_case kept chunk None = laid empty chunk
current_case kept chunk (Some now) =
    if chunk.place == now.0
    then (if cover kept.chunks now.0 now.1 then (kept, Older)
    else if not (chunk.total == now.1) then (kept, Differs now.1 chunk.total)
    else laid kept chunk)
    else if newer chunk.place now.0 then laid empty chunk
    else (kept, Older)

-- the one case that holds of a chunk: what is kept then, and the answer
abbrev pub chunk_case : Joining → Chunk → Joining × Joined
chunk_case kept chunk =
    if not (nat_lt 0 (length chunk.bytes)) || nat_lt chunk.total (chunk.offset + length chunk.bytes) then (kept, BadRange chunk.offset chunk.total)
    else if nat_lt longest_message chunk.total then (kept, TooLong chunk.total)
    else current_case kept chunk kept.current

abbrev pub is_whole : Joined → Bool
is_whole (Whole total) = true
is_whole Part = false
is_whole Older = false
is_whole (TooLong total) = false
is_whole (BadRange offset total) = false
is_whole (Differs first now) = false

-- the bytes were laid in
abbrev pub is_laid : Joined → Bool
is_laid (Whole total) = true
is_laid Part = true
is_laid Older = false
is_laid (TooLong total) = false
is_laid (BadRange offset total) = false
is_laid (Differs first now) = false
