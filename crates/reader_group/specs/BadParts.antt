-- A part that can't be read, and its reader.
use Rattle.std.specs.Prelude.{◌≡◌, Bool, true, false}
use Rattle.reader_group.specs.declared.receipt.Receipt.{Receipt}
use Rattle.reader_group.specs.Members.{Seat, MemberValue}
use Rattle.reader_group.specs.Payloads.{Piece, Message, Chunked, Slotted, Missing}
use Rattle.reader_group.specs.Plain.{piece_case}

abbrev pub is_chunk : Piece → Bool
is_chunk (Message bytes) = false
is_chunk (Chunked bytes) = true
is_chunk (Slotted bytes) = false
is_chunk Missing = false

-- all of the reader stays, but for the message that chunks are joined to; and that stays too where the part is no chunk
pub record IsLeft (piece : Piece) (before after : MemberValue) : Type 0 where
  pub rest : after ≡ record before { joining = after.joining }
  pub joining : is_chunk piece ≡ false → after.joining ≡ before.joining

-- a part that can't be read leaves its reader
abbrev pub BadPartLeaves : Seat → Receipt → MemberValue → Piece → Type 0
BadPartLeaves seat receipt member piece =
    let after = piece_case seat receipt member piece in
    after.1 ≡ true → IsLeft piece member after.0

-- a part that can't be read leaves its reader, whichever reader and part
abbrev pub BadPartsLeave : Type 0
BadPartsLeave =
    (seat : Seat) (receipt : Receipt) (member : MemberValue) (piece : Piece) → BadPartLeaves seat receipt member piece
