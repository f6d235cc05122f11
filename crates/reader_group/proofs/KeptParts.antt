-- What the parts of a datagram keep of a reader's list: what such frames and such chunks keep, and what each item and each chunk keeps.
use Rattle.std.proofs.Common.{◌≡◌, refl, ℕ, Bool, true, false, not, List, [], ◌∷◌, Option, Some, None, All}
use Rattle.std.specs.Prelude.{⊤, fold, Result, Ok, Err, if◌then◌else◌}
use Rattle.std.proofs.lemmas.List.Elements.{All-cons, All-head, All-nil, All-tail}
use Rattle.dataset_meta.specs.Metas.{MetaData}
use Rattle.pubsub_model.specs.Frames.{PlacedFrame}
use Rattle.pubsub_model.specs.Records.{Item, since_cut}
use Rattle.frame_codec.specs.declared.fault.FrameFault.{FrameFault}
use Rattle.frame_codec.specs.Frames.{Frame}
use Rattle.frame_codec.specs.Reading.{frame_at}
use Rattle.chunker.specs.Chunks.{Chunk, is_proper, is_whole_at, message_of}
use Rattle.chunker.specs.Spelling.{chunk_at, without_rest}
use Rattle.chunker.specs.declared.payload.ChunkFault.{ChunkFault}
use Rattle.reader_group.specs.SlotFrames.{slot_frame_at}
use Rattle.reader_group.specs.Payloads.{Piece, Message, Chunked, Slotted, Missing}
use Rattle.reader_group.specs.Arrivals.{Way, Mark, Laid, frame_of, arrivals_in, chunks_in, comes, item_of, item_on, read_on, placed, chunk_on, piece_on}

-- ---- such frames and such chunks

-- of what is read, if it is read
abbrev pub OfRead : {X F : Type 0} → (X → Type 0) → Result X F → Type 0
OfRead P (Ok x) = P x
OfRead P (Err fault) = ⊤

-- a part whose frame is such, or whose chunk
abbrev pub IsPieceOf : (Frame → Type 0) → (Chunk → Type 0) → MetaData → Piece → Type 0
IsPieceOf A C meta (Message bytes) = OfRead A (frame_at meta bytes)
IsPieceOf A C meta (Chunked bytes) = OfRead C (without_rest (chunk_at bytes))
IsPieceOf A C meta (Slotted bytes) = OfRead A (slot_frame_at meta bytes)
IsPieceOf A C meta Missing = ⊤

-- Frames that are A, and chunks that are C, keep P of the list; and the message that such a chunk makes whole has a frame that is A, if it has one.
pub record Keep (P : List Mark → Type 0) (A : Frame → Type 0) (C : Chunk → Type 0) (way : Way) (place : ℕ → ℕ) (now : ℕ) (s : Option ℕ) : Type 0 where
  pub item : (before : List Mark) (frame : Frame) → A frame → P before → P (item_on way now s before (frame_of way place frame))
  pub chunk : (before : List Mark) (chunk : Chunk) → C chunk → P before → P (Laid (placed place chunk) ∷ before)
  pub whole : (before : List Mark) (chunk : Chunk) → C chunk → P before → is_whole_at (chunks_in before) (placed place chunk) ≡ true
      → OfRead A (frame_at way.seat.meta (message_of (placed place chunk ∷ chunks_in before) (placed place chunk).place (placed place chunk).total))

module _ (P : List Mark → Type 0) (A : Frame → Type 0) (C : Chunk → Type 0) (way : Way) (place : ℕ → ℕ) (now : ℕ) (s : Option ℕ) (keep : Keep P A C way place now s) where
  keep-read : (before : List Mark) (read : Result Frame FrameFault) → OfRead A read → P before → P (read_on way place now s before read)
  keep-read before (Ok frame) is h = keep.item before frame is h
  keep-read before (Err fault) is h = h

  keep-laid : (p w : Bool) (before : List Mark) (chunk : Chunk) → is_whole_at (chunks_in before) (placed place chunk) ≡ w → C chunk → P before
      → P (if not p then before
      else if w then read_on way place now s (Laid (placed place chunk) ∷ before) (frame_at way.seat.meta (message_of (placed place chunk ∷ chunks_in before) (placed place chunk).place (placed place chunk).total))
      else Laid (placed place chunk) ∷ before)
  keep-laid false w before chunk e is h = h
  keep-laid true true before chunk e is h = keep-read (Laid (placed place chunk) ∷ before) _ (keep.whole before chunk is h e) (keep.chunk before chunk is h)
  keep-laid true false before chunk e is h = keep.chunk before chunk is h

  keep-chunk : (before : List Mark) (read : Result Chunk ChunkFault) → OfRead C read → P before → P (chunk_on way place now s before read)
  keep-chunk before (Ok chunk) is h = keep-laid (is_proper (chunks_in before) (placed place chunk)) (is_whole_at (chunks_in before) (placed place chunk)) before chunk refl is h
  keep-chunk before (Err fault) is h = h

  keep-piece : (before : List Mark) (piece : Piece) → IsPieceOf A C way.seat.meta piece → P before → P (piece_on way place now s before piece)
  keep-piece before (Message bytes) is h = keep-read before (frame_at way.seat.meta bytes) is h
  keep-piece before (Chunked bytes) is h = keep-chunk before (without_rest (chunk_at bytes)) is h
  keep-piece before (Slotted bytes) is h = keep-read before (slot_frame_at way.seat.meta bytes) is h
  keep-piece before Missing is h = h

  -- parts of such frames and such chunks keep P
  pub keep-parts : (parts : List Piece) (before : List Mark) → All (IsPieceOf A C way.seat.meta) parts → P before → P (fold (piece_on way place now s) before parts)
  keep-parts [] before are h = h
  keep-parts (piece ∷ parts) before are h =
      keep-parts parts (piece_on way place now s before piece) (All-tail (IsPieceOf A C way.seat.meta) piece parts are) (keep-piece before piece (All-head (IsPieceOf A C way.seat.meta) piece parts are) h)

-- a weaker claim of the frames and chunks
weaker-read : {X F : Type 0} (A B : X → Type 0) (read : Result X F) → ((x : X) → A x → B x) → OfRead A read → OfRead B read
weaker-read A B (Ok x) more h = more x h
weaker-read A B (Err fault) more h = tt

pub weaker-piece : (A B : Frame → Type 0) (C D : Chunk → Type 0) (meta : MetaData) → ((frame : Frame) → A frame → B frame) → ((chunk : Chunk) → C chunk → D chunk) → (piece : Piece) → IsPieceOf A C meta piece → IsPieceOf B D meta piece
weaker-piece A B C D meta frames chunks (Message bytes) h = weaker-read A B (frame_at meta bytes) frames h
weaker-piece A B C D meta frames chunks (Chunked bytes) h = weaker-read C D (without_rest (chunk_at bytes)) chunks h
weaker-piece A B C D meta frames chunks (Slotted bytes) h = weaker-read A B (slot_frame_at meta bytes) frames h
weaker-piece A B C D meta frames chunks Missing h = tt

-- ---- each item and each chunk: whatever the frames and the chunks are

abbrev pub items_in : List Mark → List Item
items_in list = since_cut (arrivals_in list)

pub record IsKept (P : List Mark → Type 0) (way : Way) (now : ℕ) (s : Option ℕ) : Type 0 where
  pub item : (before : List Mark) (frame : PlacedFrame) → P before → P (comes way before (item_of now s frame))
  pub chunk : (before : List Mark) (c : Chunk) → P before → P (Laid c ∷ before)

abbrev Any : {X : Type 0} → X → Type 0
Any x = ⊤

any-read : {X F : Type 0} (read : Result X F) → OfRead Any read
any-read (Ok x) = tt
any-read (Err fault) = tt

any-piece : (meta : MetaData) (piece : Piece) → IsPieceOf Any Any meta piece
any-piece meta (Message bytes) = any-read (frame_at meta bytes)
any-piece meta (Chunked bytes) = any-read (without_rest (chunk_at bytes))
any-piece meta (Slotted bytes) = any-read (slot_frame_at meta bytes)
any-piece meta Missing = tt

any-parts : (meta : MetaData) (parts : List Piece) → All (IsPieceOf Any Any meta) parts
any-parts meta [] = All-nil (IsPieceOf Any Any meta)
any-parts meta (piece ∷ parts) = All-cons (IsPieceOf Any Any meta) piece parts (any-piece meta piece) (any-parts meta parts)

kept-item : (P : List Mark → Type 0) (way : Way) (now : ℕ) (s : Option ℕ) → IsKept P way now s → (before : List Mark) (o : Option PlacedFrame) → P before → P (item_on way now s before o)
kept-item P way now s keeps before None h = h
kept-item P way now s keeps before (Some frame) h = keeps.item before frame h

kept-by-any : (P : List Mark → Type 0) (way : Way) (place : ℕ → ℕ) (now : ℕ) (s : Option ℕ) → IsKept P way now s → Keep P Any Any way place now s
kept-by-any P way place now s keeps = record {
  item = λ before frame any h. kept-item P way now s keeps before (frame_of way place frame) h;
  chunk = λ before chunk any h. keeps.chunk before (placed place chunk) h;
  whole = λ before chunk any h whole. any-read (frame_at way.seat.meta (message_of (placed place chunk ∷ chunks_in before) (placed place chunk).place (placed place chunk).total));
}

pub keep-pieces : (P : List Mark → Type 0) (way : Way) (place : ℕ → ℕ) (now : ℕ) (s : Option ℕ) → IsKept P way now s → (parts : List Piece) (before : List Mark) → P before
    → P (fold (piece_on way place now s) before parts)
keep-pieces P way place now s keeps parts before h = keep-parts P Any Any way place now s (kept-by-any P way place now s keeps) parts before (any-parts way.seat.meta parts) h
