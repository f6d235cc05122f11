-- A part that can't be read leaves its reader.
use Rattle.std.proofs.Common.{◌≡◌, refl, sym, ap, ◌∙◌, Bool, true, false}
use Rattle.std.specs.Prelude.{Result, Ok, Err}
use Rattle.frame_codec.specs.declared.fault.FrameFault.{FrameFault}
use Rattle.frame_codec.specs.Frames.{Frame}
use Rattle.frame_codec.specs.Reading.{frame_at}
use Rattle.chunker.specs.Chunks.{Chunk}
use Rattle.chunker.specs.Joining.{Joining, chunk_case, joined_bytes}
use Rattle.chunker.specs.Joins.{numbered}
use Rattle.chunker.specs.Spelling.{chunk_at, without_rest}
use Rattle.chunker.specs.declared.joiner.Joined.{Joined}
use Rattle.chunker.specs.declared.joiner.Joined.TheVariants as joins
use Rattle.chunker.specs.declared.payload.ChunkFault.{ChunkFault}
use Rattle.reader_group.specs.declared.receipt.Receipt.{Receipt}
use Rattle.reader_group.specs.Members.{Seat, MemberValue}
use Rattle.reader_group.specs.SlotFrames.{slot_frame_at}
use Rattle.reader_group.specs.Payloads.{Piece, Message, Chunked, Slotted, Missing}
use Rattle.reader_group.specs.Plain.{read_case, joined_case, chunked_case}
use Rattle.reader_group.specs.BadParts.{IsLeft, BadPartLeaves}

not_bad : {X : Type 0} → Path Bool false true → X
not_bad wrong = absurd (no wrong)
  where
    no : Path Bool false true → ⊥
    no e = cc

-- what couldn't be read
read-left : (seat : Seat) (receipt : Receipt) (member : MemberValue) (read : Result Frame FrameFault) → (read_case seat receipt member read).1 ≡ true → (read_case seat receipt member read).0 ≡ member
read-left seat receipt member (Err fault) bad = refl
read-left seat receipt member (Ok frame) bad = not_bad bad

-- all but the chunks
abbrev IsSame : MemberValue → MemberValue → Type 0
IsSame before after = after ≡ record before { joining = after.joining }

same_joined : (before after : MemberValue) (joining : Joining) → after ≡ record before { joining = joining } → IsSame before after
same_joined before after joining e = e ∙ sym (ap (λ (m : MemberValue). record before { joining = m.joining }) e)

joined-left : (seat : Seat) (receipt : Receipt) (member : MemberValue) (joining : Joining) (answer : Joined) → (joined_case seat receipt member (joining, answer)).1 ≡ true
    → IsSame member (joined_case seat receipt member (joining, answer)).0
joined-left seat receipt member joining (joins.Whole total) bad =
    let now : MemberValue = record member { joining = joining } in
    same_joined member (read_case seat receipt now (frame_at seat.meta (joined_bytes joining))).0 joining (read-left seat receipt now (frame_at seat.meta (joined_bytes joining)) bad)
joined-left seat receipt member joining joins.Part bad = not_bad bad
joined-left seat receipt member joining joins.Older bad = not_bad bad
joined-left seat receipt member joining (joins.TooLong total) bad = refl
joined-left seat receipt member joining (joins.BadRange offset total) bad = refl
joined-left seat receipt member joining (joins.Differs first now) bad = refl

chunk-left : (seat : Seat) (receipt : Receipt) (member : MemberValue) (read : Result Chunk ChunkFault) → (chunked_case seat receipt member read).1 ≡ true
    → IsSame member (chunked_case seat receipt member read).0
chunk-left seat receipt member (Err fault) bad = refl
chunk-left seat receipt member (Ok chunk) bad =
    let laid = chunk_case member.joining (numbered chunk) in
    joined-left seat receipt member laid.0 laid.1 bad

left_all : (piece : Piece) (before after : MemberValue) → after ≡ before → IsLeft piece before after
left_all piece before after e = record {
  rest = e ∙ sym (ap (λ (m : MemberValue). record before { joining = m.joining }) e);
  joining = λ other. ap (λ (m : MemberValue). m.joining) e;
}

pub bad-left : (seat : Seat) (receipt : Receipt) (member : MemberValue) (piece : Piece) → BadPartLeaves seat receipt member piece
bad-left seat receipt member (Message bytes) bad =
    left_all (Message bytes) member (read_case seat receipt member (frame_at seat.meta bytes)).0 (read-left seat receipt member (frame_at seat.meta bytes) bad)
bad-left seat receipt member (Chunked bytes) bad =
    record { rest = chunk-left seat receipt member (without_rest (chunk_at bytes)) bad; joining = λ chunk. not_bad (sym chunk) }
bad-left seat receipt member (Slotted bytes) bad =
    left_all (Slotted bytes) member (read_case seat receipt member (slot_frame_at seat.meta bytes)).0 (read-left seat receipt member (slot_frame_at seat.meta bytes) bad)
bad-left seat receipt member Missing bad = left_all Missing member member refl
