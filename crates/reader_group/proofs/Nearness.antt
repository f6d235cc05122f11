-- Where places are near, they were near before each part.
use Rattle.std.proofs.Common.{ℕ, Bool, true, false, not, ◌&&◌, List, [], ◌∷◌, Option, Some, None}
use Rattle.std.specs.Prelude.{fold, Result, Ok, Err, if◌then◌else◌}
use Rattle.pubsub_model.specs.declared.reading.Why.TheVariants.{Jump}
use Rattle.pubsub_model.specs.Frames.{PlacedFrame}
use Rattle.pubsub_model.specs.Records.{Item, Came, Cut, since_cut}
use Rattle.frame_codec.specs.declared.fault.FrameFault.{FrameFault}
use Rattle.frame_codec.specs.Frames.{Frame}
use Rattle.frame_codec.specs.Reading.{frame_at}
use Rattle.dataset_reader.specs.Keeping.{jumps}
use Rattle.chunker.specs.Chunks.{Chunk, is_proper, is_whole_at, message_of}
use Rattle.chunker.specs.Spelling.{chunk_at, without_rest}
use Rattle.chunker.specs.declared.payload.ChunkFault.{ChunkFault}
use Rattle.config_tables.specs.declared.words.NumberingWord.{NumberingWord}
use Rattle.config_tables.specs.declared.words.NumberingWord.TheVariants as words
use Rattle.reader_group.specs.SlotFrames.{slot_frame_at}
use Rattle.reader_group.specs.Payloads.{Piece, Message, Chunked, Slotted, Missing}
use Rattle.reader_group.specs.Arrivals.{Way, Mark, Arrived, Laid, is_numbered, goes_by_numbers, frame_of, arrivals_in, chunks_in, item_of, item_on, read_on, placed, chunk_on, piece_on}
use Rattle.reader_group.specs.Agreeing.{ChunksNear, NearBy}
use Rattle.reader_group.proofs.Answered.{marked_if}

-- ---- nearness, back along the list

-- the places are near, and so are those of the chunks
pub record Nears (word : NumberingWord) (list : List Mark) : Type 0 where
  pub items : NearBy (is_numbered word) (arrivals_in list)
  pub chunks : ChunksNear list

pub nears-tail : (word : NumberingWord) (mark : Mark) (before : List Mark) → Nears word (mark ∷ before) → Nears word before
nears-tail words.Message (Arrived (Came item)) before h = record { items = h.items.1; chunks = h.chunks }
nears-tail words.Message (Arrived (Cut why)) before h = record { items = h.items; chunks = h.chunks }
nears-tail words.Message (Laid chunk) before h = record { items = h.items; chunks = h.chunks.1 }
nears-tail words.None (Arrived (Came item)) before h = record { items = tt; chunks = h.chunks }
nears-tail words.None (Arrived (Cut why)) before h = record { items = tt; chunks = h.chunks }
nears-tail words.None (Laid chunk) before h = record { items = tt; chunks = h.chunks.1 }

nears_marked : (word : NumberingWord) (j : Bool) (before : List Mark) (item : Item) → Nears word (marked_if j before item) → Nears word before
nears_marked word true before item h = nears-tail word (Arrived (Cut Jump)) before (nears-tail word (Arrived (Came item)) (Arrived (Cut Jump) ∷ before) h)
nears_marked word false before item h = nears-tail word (Arrived (Came item)) before h

nears_item : (word : NumberingWord) (way : Way) (now : ℕ) (s : Option ℕ) (before : List Mark) (o : Option PlacedFrame) → Nears word (item_on way now s before o) → Nears word before
nears_item word way now s before None h = h
nears_item word way now s before (Some frame) h = nears_marked word (goes_by_numbers way && jumps (since_cut (arrivals_in before)) s) before (item_of now s frame) h

nears_read : (word : NumberingWord) (way : Way) (place : ℕ → ℕ) (now : ℕ) (s : Option ℕ) (before : List Mark) (read : Result Frame FrameFault)
    → Nears word (read_on way place now s before read) → Nears word before
nears_read word way place now s before (Err fault) h = h
nears_read word way place now s before (Ok frame) h = nears_item word way now s before (frame_of way place frame) h

abbrev pub laid_if : Bool → Bool → Way → (ℕ → ℕ) → ℕ → Option ℕ → List Mark → Chunk → List Mark
laid_if p w way place now s before c =
    if not p then before
    else if w then read_on way place now s (Laid c ∷ before) (frame_at way.seat.meta (message_of (c ∷ chunks_in before) c.place c.total))
    else Laid c ∷ before

-- the chunk that is laid in stands in the list
pub nears_laid : (word : NumberingWord) (w : Bool) (way : Way) (place : ℕ → ℕ) (now : ℕ) (s : Option ℕ) (before : List Mark) (c : Chunk)
    → Nears word (laid_if true w way place now s before c) → Nears word (Laid c ∷ before)
nears_laid word true way place now s before c h = nears_read word way place now s (Laid c ∷ before) (frame_at way.seat.meta (message_of (c ∷ chunks_in before) c.place c.total)) h
nears_laid word false way place now s before c h = h

nears_laid_if : (word : NumberingWord) (p w : Bool) (way : Way) (place : ℕ → ℕ) (now : ℕ) (s : Option ℕ) (before : List Mark) (c : Chunk)
    → Nears word (laid_if p w way place now s before c) → Nears word before
nears_laid_if word false w way place now s before c h = h
nears_laid_if word true w way place now s before c h = nears-tail word (Laid c) before (nears_laid word w way place now s before c h)

nears_chunk : (word : NumberingWord) (way : Way) (place : ℕ → ℕ) (now : ℕ) (s : Option ℕ) (before : List Mark) (read : Result Chunk ChunkFault)
    → Nears word (chunk_on way place now s before read) → Nears word before
nears_chunk word way place now s before (Err fault) h = h
nears_chunk word way place now s before (Ok chunk) h =
    let c = placed place chunk in
    nears_laid_if word (is_proper (chunks_in before) c) (is_whole_at (chunks_in before) c) way place now s before c h

nears_piece : (word : NumberingWord) (way : Way) (place : ℕ → ℕ) (now : ℕ) (s : Option ℕ) (before : List Mark) (piece : Piece) → Nears word (piece_on way place now s before piece) → Nears word before
nears_piece word way place now s before (Message bytes) h = nears_read word way place now s before (frame_at way.seat.meta bytes) h
nears_piece word way place now s before (Chunked bytes) h = nears_chunk word way place now s before (without_rest (chunk_at bytes)) h
nears_piece word way place now s before (Slotted bytes) h = nears_read word way place now s before (slot_frame_at way.seat.meta bytes) h
nears_piece word way place now s before Missing h = h

pub nears-pieces : (word : NumberingWord) (way : Way) (place : ℕ → ℕ) (now : ℕ) (s : Option ℕ) (before : List Mark) (pieces : List Piece)
    → Nears word (fold (piece_on way place now s) before pieces) → Nears word before
nears-pieces word way place now s before [] h = h
nears-pieces word way place now s before (piece ∷ pieces) h =
    nears_piece word way place now s before piece (nears-pieces word way place now s (piece_on way place now s before piece) pieces h)
