-- What became of the parts that a reader was given, beside what they brought it.
use Rattle.std.proofs.Common.{◌≡◌, refl, ℕ, Bool, true, false, List, [], ◌∷◌}
use Rattle.std.specs.Prelude.{fold, Result, Ok, Err}
use Rattle.pubsub_model.specs.declared.reading.Why.TheVariants.{NewToken}
use Rattle.frame_codec.specs.declared.fault.FrameFault.{FrameFault}
use Rattle.frame_codec.specs.Frames.{Frame}
use Rattle.frame_codec.specs.Reading.{frame_at}
use Rattle.chunker.specs.Chunks.{Chunk}
use Rattle.chunker.specs.Joining.{Joining, chunk_case, joined_bytes}
use Rattle.chunker.specs.Joins.{numbered}
use Rattle.chunker.specs.Spelling.{chunk_at, without_rest}
use Rattle.chunker.specs.declared.joiner.Joined.{Joined}
use Rattle.chunker.specs.declared.joiner.Joined.TheVariants as joins
use Rattle.chunker.specs.declared.payload.ChunkFault.{ChunkFault}
use Rattle.reader_group.specs.declared.receipt.Receipt.{Receipt}
use Rattle.reader_group.specs.Members.{Seat, MemberValue}
use Rattle.reader_group.specs.Notices.{AccountValue, account_by, account_on, chunked_outcome, is_bad, joined_outcome, no_account, piece_outcome, read_outcome}
use Rattle.reader_group.specs.Payloads.{Payload, Piece, Message, Chunked, Slotted, Missing, pieces}
use Rattle.reader_group.specs.Plain.{chunked_case, cut_if, fed_by, fed_on, joined_case, piece_case, read_case}
use Rattle.reader_group.specs.SlotFrames.{slot_frame_at}

-- ---- which part is bad

read-bad : (seat : Seat) (receipt : Receipt) (member : MemberValue) (bytes : List ℕ) (read : Result Frame FrameFault) → (read_case seat receipt member read).1 ≡ is_bad (read_outcome seat receipt member bytes read)
read-bad seat receipt member bytes (Err fault) = refl
read-bad seat receipt member bytes (Ok frame) = refl

joined-bad : (seat : Seat) (receipt : Receipt) (member : MemberValue) (joining : Joining) (answer : Joined)
    → (joined_case seat receipt member (joining, answer)).1 ≡ is_bad (joined_outcome seat receipt member (joining, answer))
joined-bad seat receipt member joining (joins.Whole total) = read-bad seat receipt (record member { joining = joining }) (joined_bytes joining) (frame_at seat.meta (joined_bytes joining))
joined-bad seat receipt member joining joins.Part = refl
joined-bad seat receipt member joining joins.Older = refl
joined-bad seat receipt member joining (joins.TooLong total) = refl
joined-bad seat receipt member joining (joins.BadRange offset total) = refl
joined-bad seat receipt member joining (joins.Differs first now) = refl

chunked-bad : (seat : Seat) (receipt : Receipt) (member : MemberValue) (read : Result Chunk ChunkFault)
    → (chunked_case seat receipt member read).1 ≡ is_bad (chunked_outcome seat receipt member read)
chunked-bad seat receipt member (Err fault) = refl
chunked-bad seat receipt member (Ok chunk) =
    let laid = chunk_case member.joining (numbered chunk) in
    joined-bad seat receipt member laid.0 laid.1

pub piece-bad : (seat : Seat) (receipt : Receipt) (member : MemberValue) (piece : Piece) → (piece_case seat receipt member piece).1 ≡ is_bad (piece_outcome seat receipt member piece)
piece-bad seat receipt member (Message bytes) = read-bad seat receipt member bytes (frame_at seat.meta bytes)
piece-bad seat receipt member (Chunked bytes) = chunked-bad seat receipt member (without_rest (chunk_at bytes))
piece-bad seat receipt member (Slotted bytes) = read-bad seat receipt member bytes (slot_frame_at seat.meta bytes)
piece-bad seat receipt member Missing = refl

-- ---- what they brought

fold-fed : (seat : Seat) (receipt : Receipt) (parts : List Piece) (account : AccountValue) → (fold (account_on seat receipt) account parts).fed ≡ fold (fed_on seat receipt) account.fed parts
fold-fed seat receipt [] account = refl
fold-fed seat receipt (piece ∷ parts) account = fold-fed seat receipt parts (account_on seat receipt account piece)

pub account-fed : (seat : Seat) (receipt : Receipt) (raised enabled : Bool) (payload : Payload) (member : MemberValue)
    → (account_by seat receipt raised enabled payload member).fed ≡ fed_by seat receipt raised enabled payload member
account-fed seat receipt raised true payload member = fold-fed seat receipt (pieces seat.part payload) (no_account (cut_if raised NewToken member))
account-fed seat receipt raised false payload member = refl
