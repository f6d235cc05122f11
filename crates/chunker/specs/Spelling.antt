-- A chunk as bytes (OPC 10000-14, the chunked NetworkMessage payload): what is written, and how bytes are read, from left to right.
use Rattle.std.specs.Prelude.{ℕ, zero, suc, ◌^◌, ◌<◌, ◌≤◌, ℤ, pos, negsuc, List, ◌++◌, length, Result, Ok, Err}
use Rattle.std.specs.Int.{w16, w32, cast_signed, to_le_bytes}
use Rattle.std.specs.List.{Contains}
use Rattle.ua_binary.specs.Reading.{◌>>=◌, number_at, bytes_at}
use Rattle.chunker.specs.Chunks.{Chunk, cuts}
use Rattle.chunker.specs.Joining.{chunk_of}
use Rattle.chunker.specs.Joins.{numbered}
use Rattle.chunker.specs.declared.payload.ChunkPayload.{ChunkPayload}
use Rattle.chunker.specs.declared.payload.ChunkFault.{ChunkFault}
use Rattle.chunker.specs.declared.payload.ChunkFault.TheVariants.{Short, BadLength}

-- MessageSequenceNumber, ChunkOffset, TotalSize, and ChunkData as a ByteString
abbrev pub chunk_bytes : Chunk → List ℕ
chunk_bytes chunk =
    to_le_bytes w16 chunk.place ++ to_le_bytes w32 chunk.offset ++ to_le_bytes w32 chunk.total ++ to_le_bytes w32 (length chunk.bytes) ++ chunk.bytes

-- the numbers of a chunk are of their types
pub record IsChunk (chunk : Chunk) : Type 0 where
  pub number : chunk.place < 2 ^ 16
  pub offset : chunk.offset < 2 ^ 32
  pub total : chunk.total < 2 ^ 32
  pub bytes : length chunk.bytes < 2 ^ 31

-- the law of a chunk of a cut
abbrev pub CutCanBeWritten : ℕ → ℕ → List ℕ → Chunk → Type 0
CutCanBeWritten room place message chunk =
    1 ≤ room → 1 ≤ length message → length message < 2 ^ 31 → Contains (cuts room place message) chunk → IsChunk (numbered chunk)

-- a ByteString's length: -1 is the null one, which is empty here
abbrev pub length_of : ℤ → Result ℕ ChunkFault
length_of (pos n) = Ok n
length_of (negsuc zero) = Ok 0
length_of (negsuc (suc n)) = Err BadLength

unfoldable pub data_at : List ℕ → Result (List ℕ × List ℕ) ChunkFault
data_at bytes = do
  field ← number_at Short w32 bytes
  len ← length_of (cast_signed w32 field.0)
  bytes_at Short len field.1

-- a chunk and the bytes after it, or the first fault
unfoldable pub chunk_at : List ℕ → Result (Chunk × List ℕ) ChunkFault
chunk_at bytes = do
  number ← number_at Short w16 bytes
  offset ← number_at Short w32 number.1
  total ← number_at Short w32 offset.1
  part ← data_at total.1
  Ok (chunk_of number.0 offset.0 total.0 part.0, part.1)

-- the chunk that a payload is
abbrev pub chunk_in : ChunkPayload → Chunk
chunk_in payload = chunk_of payload.number payload.offset payload.total payload.data.now

abbrev pub told : Result ChunkPayload ChunkFault → Result Chunk ChunkFault
told (Ok payload) = Ok (chunk_in payload)
told (Err fault) = Err fault

abbrev pub without_rest : Result (Chunk × List ℕ) ChunkFault → Result Chunk ChunkFault
without_rest (Ok found) = Ok found.0
without_rest (Err fault) = Err fault
