-- Which message is held: a key frame that comes alone to an enabled reader of its writer.
use Rattle.std.specs.Prelude.{◌≡◌, ◌⊎◌, ⊤, ℕ, List, [], ◌∷◌, length, ◌<◌, Bool, true, false, Option, Some, None, option_map, Ok, slice_index_or}
use Rattle.dataset_meta.specs.DataValues.{DataValue}
use Rattle.seq_number.specs.Numbers.{number_of_place, newer}
use Rattle.pubsub_model.specs.declared.reading.Why.TheVariants.{NewToken}
use Rattle.frame_codec.specs.Frames.{Frame, Whole}
use Rattle.frame_codec.specs.Reading.{frame_at}
use Rattle.dataset_reader.specs.Kept.{Kept}
use Rattle.dataset_reader.specs.Answers.{IsJump}
use Rattle.dataset_reader.specs.Keeping.{IsOfMajor}
use Rattle.chunker.specs.Chunks.{Chunk}
use Rattle.chunker.specs.Joining.{Joining, chunk_case, joined_bytes}
use Rattle.chunker.specs.Joins.{numbered}
use Rattle.chunker.specs.Spelling.{chunk_at, without_rest}
use Rattle.chunker.specs.declared.joiner.Joined.TheVariants as joins
use Rattle.config_tables.specs.declared.words.NumberingWord.{NumberingWord}
use Rattle.config_tables.specs.declared.words.NumberingWord.TheVariants as words
use Rattle.reader_group.specs.Members.{Seat, seat_at, MemberValue}
use Rattle.reader_group.specs.SlotFrames.{slot_frame_at}
use Rattle.reader_group.specs.Payloads.{Piece, Message, Chunked, Slotted, Missing, pieces}
use Rattle.reader_group.specs.Opening.{Opened}
use Rattle.reader_group.specs.Plain.{Setting, PlainGroup, Got, member_at, step, verdict_in, is_raised, stamp_by, cut_if}

-- a chunk that makes its message whole, which is read as this frame
pub record JoinsTo (seat : Seat) (member : MemberValue) (bytes : List ℕ) (frame : Frame) : Type 0 where
  pub chunk : Chunk
  pub read : without_rest (chunk_at bytes) ≡ Ok chunk
  pub joining : Joining
  pub total : ℕ
  pub whole : chunk_case member.joining (numbered chunk) ≡ (joining, joins.Whole total)
  pub message : frame_at seat.meta (joined_bytes joining) ≡ Ok frame

-- the part brings the frame, directly or as the chunk that makes it whole
abbrev pub BringsFrame : Seat → MemberValue → Piece → Frame → Type 0
BringsFrame seat member (Message bytes) frame = frame_at seat.meta bytes ≡ Ok frame
BringsFrame seat member (Chunked bytes) frame = JoinsTo seat member bytes frame
BringsFrame seat member (Slotted bytes) frame = slot_frame_at seat.meta bytes ≡ Ok frame
BringsFrame seat member Missing frame = ⊥

-- its number is newer than that of the last record
pub record IsNewerThanLast (kept : Kept) (number : ℕ) : Type 0 where
  pub last : ℕ
  pub last_is : kept.last ≡ Some last
  pub is_newer : newer (number_of_place number) last ≡ true

-- there is no last record; or the number is newer than its; or the nonce's number jumps; or the token is higher than the accepted one
abbrev pub MayFollow : Bool → Kept → Option ℕ → ℕ → Type 0
MayFollow raised kept stamp number =
    (raised ≡ true) ⊎ (kept.last ≡ None) ⊎ IsNewerThanLast kept number ⊎ IsJump kept stamp

-- by numbers the frame carries one, which may follow
abbrev pub IsTakenBy : NumberingWord → Bool → Kept → Option ℕ → Frame → Type 0
IsTakenBy words.Message raised kept stamp frame = (number : ℕ) × (frame.number ≡ Some number) × MayFollow raised kept stamp number
IsTakenBy words.None raised kept stamp frame = ⊤

-- A datagram that the group takes has just one part for an enabled reader, which brings a key frame with this row, of the data set's major version or with
-- none, that the reader takes.
pub record BringsWhole (setting : Setting) (group : PlainGroup) (on : List Bool) (datagram : List ℕ) (k : ℕ) (row : List DataValue) : Type 0 where
  pub opened : Opened
  pub taken : verdict_in setting group datagram ≡ Ok opened
  pub reader : k < length setting.seats
  pub enabled : slice_index_or on k false ≡ true
  pub piece : Piece
  pub alone : pieces (seat_at setting.seats k).part opened.payload ≡ piece ∷ []
  pub frame : Frame
  pub brings : BringsFrame (seat_at setting.seats k) (cut_if (is_raised setting group.accepted opened) NewToken (member_at group.members k)) piece frame
  pub content : frame.content ≡ Whole row
  pub major : IsOfMajor (seat_at setting.seats k).meta.major frame.major
  pub follows : IsTakenBy (seat_at setting.seats k).part.numbering (is_raised setting group.accepted opened) (member_at group.members k).kept
      (stamp_by setting.setup.mode opened.pass.number) frame

-- by numbers what is held has the number of the frame, in 16 bits
abbrev pub HasNumber : NumberingWord → Option ℕ → Frame → Type 0
HasNumber words.Message number frame = number ≡ option_map number_of_place frame.number
HasNumber words.None number frame = ⊤

-- what is kept is the row of the frame
pub record HoldsFrame (word : NumberingWord) (frame : Frame) (row : List DataValue) (kept : Kept) : Type 0 where
  pub row_is : kept.row ≡ Some row
  pub number_is : HasNumber word kept.number frame

-- a key frame that comes as the one part for an enabled reader, in a datagram that is taken, is held
abbrev pub WholeIsHeld : Setting → PlainGroup → ℕ → List Bool → List ℕ → ℕ → List DataValue → Type 0
WholeIsHeld setting group now on datagram k row =
    (brings : BringsWhole setting group on datagram k row)
    → HoldsFrame (seat_at setting.seats k).part.numbering brings.frame row (member_at (step setting group (Got now on datagram)).members k).kept

-- a key frame that comes alone is held, whatever the group went through
abbrev pub WholesAreHeld : Type 0
WholesAreHeld =
    (setting : Setting) (group : PlainGroup) (now : ℕ) (on : List Bool) (datagram : List ℕ) (reader : ℕ)
    (row : List DataValue) → WholeIsHeld setting group now on datagram reader row
