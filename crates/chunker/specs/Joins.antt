-- What a joiner keeps and answers, over the list of the chunks that came since it was cleared.
use Rattle.std.specs.Prelude.{◌≡◌, ◌+◌, ◌<◌, ◌≤◌, ℕ, List, [], ◌∷◌, map, Bool, true, false, ◌&&◌, ◌==◌, Option, Some, None, length, slice_index}
use Rattle.std.specs.List.{list_all, All, Contains, count_by}
use Rattle.seq_number.specs.Numbers.{number_of_place, newer, greatest, IsNear}
use Rattle.chunker.specs.Chunks.{longest_message, Chunk, cuts, cover, at_greatest, counted, all_counted, is_proper, is_laid_at, is_whole_at, message_of, places}
use Rattle.chunker.specs.Joining.{Joining, empty, chunk_case, is_joined, is_laid, is_whole, joined_bytes}
use Rattle.chunker.specs.declared.joiner.Joined.{Joined}

-- what a chunk carries of its place
abbrev pub numbered : Chunk → Chunk
numbered chunk = record chunk { place = number_of_place chunk.place }

abbrev pub current_of : List Chunk → Option (ℕ × ℕ)
current_of [] = None
current_of (chunk ∷ before) = Some (number_of_place chunk.place, chunk.total)

abbrev pub is_complete : List Chunk → Bool
is_complete [] = false
is_complete (chunk ∷ before) = cover (chunk ∷ before) chunk.place chunk.total

abbrev pub has_one_total : List Chunk → Bool
has_one_total [] = true
has_one_total (chunk ∷ before) = list_all (λ c. c.total == chunk.total) before

-- what is kept is these chunks, of one place and one total, until their message is whole; then it stays whole
pub record JoinsTop (top : List Chunk) (kept : Joining) : Type 0 where
  pub current : kept.current ≡ current_of top
  pub whole : is_joined kept ≡ is_complete top
  pub laid_in : is_complete top ≡ false → kept.chunks ≡ map numbered top
  pub total : has_one_total top ≡ true

-- those of the greatest place
abbrev pub JoinsOver : List Chunk → Joining → Type 0
JoinsOver chunks kept = JoinsTop (at_greatest chunks) kept

-- the chunk's place is at most 16,384 above and at most 49,151 below the greatest before it
abbrev pub IsNearTo : List Chunk → Chunk → Type 0
IsNearTo [] chunk = Unit {0}
IsNearTo (c ∷ before) chunk =
    (chunk.place ≤ greatest (places (c ∷ before)) + 16384) × (greatest (places (c ∷ before)) < chunk.place + 49152)

-- one more chunk: it counts or is passed over, and is laid in or makes its message whole, exactly as Chunks has it; the bytes of a message that
-- it makes whole are those of Chunks
pub record JoinsOneMore (chunks : List Chunk) (chunk : Chunk) (kept : Joining) (answer : Joined) : Type 0 where
  pub joins : JoinsOver (counted chunks chunk) kept
  pub laid : is_laid answer ≡ (is_proper chunks chunk && is_laid_at chunks chunk)
  pub whole : is_whole answer ≡ (is_proper chunks chunk && is_whole_at chunks chunk)
  pub bytes : is_whole answer ≡ true → joined_bytes kept ≡ message_of (chunk ∷ chunks) chunk.place chunk.total

-- the law of one more chunk
abbrev pub NearChunkJoins : List Chunk → Chunk → Joining → Type 0
NearChunkJoins chunks chunk kept =
    (is_proper chunks chunk ≡ true → IsNearTo chunks chunk) → JoinsOver chunks kept
    → JoinsOneMore chunks chunk (chunk_case kept (numbered chunk)).0 (chunk_case kept (numbered chunk)).1

-- ---- lists of chunks

-- what is kept after these, the latest first, from what was kept before
abbrev pub kept_after : Joining → List Chunk → Joining
kept_after kept [] = kept
kept_after kept (chunk ∷ before) = (chunk_case (kept_after kept before) (numbered chunk)).0

-- what each of them was answered
abbrev pub answers : Joining → List Chunk → List Joined
answers kept [] = []
answers kept (chunk ∷ before) = (chunk_case (kept_after kept before) (numbered chunk)).1 ∷ answers kept before

-- the law of the last of a list of chunks
abbrev pub NearChunksJoin : List Chunk → Chunk → Type 0
NearChunksJoin before chunk =
    IsNear (places (all_counted (chunk ∷ before)))
    → JoinsOneMore (all_counted before) chunk (kept_after empty (chunk ∷ before)) (chunk_case (kept_after empty before) (numbered chunk)).1

-- a message of this number would become the current one
abbrev pub IsNewFor : Option (ℕ × ℕ) → ℕ → Type 0
IsNewFor None number = Unit {0}
IsNewFor (Some now) number = newer number now.0 ≡ true

-- these chunks are of the cut of the message, and each of the cut is among them
pub record IsWholeCut (room place : ℕ) (message : List ℕ) (given : List Chunk) : Type 0 where
  pub cut_from_it : All (Contains (cuts room place message)) given
  pub each : All (Contains given) (cuts room place message)

-- the message came once
pub record ComesOnce (message : List ℕ) (kept : Joining) (given : List Joined) : Type 0 where
  pub once : count_by is_whole given ≡ 1
  pub bytes : joined_bytes kept ≡ message

-- the law of a cut
abbrev pub CutComesOnce : ℕ → ℕ → List ℕ → Joining → List Chunk → Type 0
CutComesOnce room place message kept given =
    1 ≤ room → 1 ≤ length message → length message ≤ longest_message → IsNewFor kept.current (number_of_place place) → IsWholeCut room place message given
    → ComesOnce message (kept_after kept given) (answers kept given)

-- a chunk has these bytes of the message
pub record IsCutOf (message : List ℕ) (chunk : Chunk) : Type 0 where
  pub total : chunk.total ≡ length message
  pub bytes : (k : ℕ) → k < length chunk.bytes → slice_index chunk.bytes k ≡ slice_index message (chunk.offset + k)

-- a chunk has bytes, no more than there is room for, within its total
pub record IsWithinRoom (room : ℕ) (chunk : Chunk) : Type 0 where
  pub some : 0 < length chunk.bytes
  pub at_most : length chunk.bytes ≤ room
  pub within : chunk.offset + length chunk.bytes ≤ chunk.total

-- the law of chunks that cover a message
abbrev pub CoverGivesBack : List ℕ → ℕ → List Chunk → Type 0
CoverGivesBack message place chunks =
    ((chunk : Chunk) → Contains chunks chunk → chunk.place ≡ place → IsCutOf message chunk) → cover chunks place (length message) ≡ true
    → message_of chunks place (length message) ≡ message
