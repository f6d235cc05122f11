-- Which reader in memory has what a read group keeps for it.
use Rattle.std.specs.Prelude.{◌≡◌, ℕ, ◌==◌, Bool, List, fold, Result}
use Rattle.std.specs.List.{HoldsAt}
use Rattle.dataset_meta.specs.Metas.{MetaData}
use Rattle.frame_codec.specs.declared.fault.FrameFault.{FrameFault}
use Rattle.frame_codec.specs.Calls.{leaving}
use Rattle.frame_codec.specs.Frames.{Frame}
use Rattle.frame_codec.specs.Reading.{frame_at}
use Rattle.frame_codec.specs.Words.{IsFrameOf, frame_in}
use Rattle.receive_timer.specs.Told.{IsTimerOf}
use Rattle.chunker.specs.Chunks.{Chunk}
use Rattle.chunker.specs.declared.joiner.Joined.{Joined}
use Rattle.chunker.specs.declared.joiner.Joiner.{Joiner}
use Rattle.chunker.specs.Joiners.{IsJoinerOf, Meets}
use Rattle.chunker.specs.Joining.{Joining, chunk_case, joined_bytes}
use Rattle.chunker.specs.Joins.{numbered}
use Rattle.ps_config.specs.declared.parts.ReaderPart.{ReaderPart}
use Rattle.dataset_reader.specs.declared.took.Outcome.{Outcome}
use Rattle.dataset_reader.specs.Reader.{kept_by, passed_of, IsReaderOf}
use Rattle.dataset_reader.specs.Reader as readers
use Rattle.reader_group.specs.declared.account.Account.{Account}
use Rattle.reader_group.specs.declared.member.Member.{Member}
use Rattle.reader_group.specs.declared.notice.PartOutcome.{PartOutcome}
use Rattle.reader_group.specs.declared.receipt.Receipt.{Receipt}
use Rattle.reader_group.specs.declared.tally.Tally.{Tally}
use Rattle.reader_group.specs.Members.{Seat, MemberValue, numbering_of, seat_of, noted, confirmed_by}
use Rattle.reader_group.specs.Payloads.{Payload, Piece, Message, pieces}
use Rattle.reader_group.specs.Plain.{Fed, fed_by, given, piece_case, read_case}
use Rattle.reader_group.specs.Notices.{AccountValue, account_by, account_if, account_on, given_outcome, no_account, piece_outcome, read_outcome}

pub record IsMemberOf (seat : Seat) (value : MemberValue) (member : Member) : Type 0 where
  pub kept : kept_by seat.meta.fields member.reader ≡ value.kept
  pub passed : passed_of member.reader ≡ value.passed
  pub numbering : readers.numbering_of member.reader ≡ numbering_of seat.part.numbering
  pub joining : IsJoinerOf value.joining member.joiner
  pub timer : IsTimerOf seat.part.timeout value.told member.timer
  pub late : member.late ≡ value.late
  pub ready : member.ready ≡ value.ready
  pub confirmed : member.confirmed ≡ value.confirmed

-- a reader holds rows of this meta alone, and the frame that was read last is one of it
pub record HoldsRowsOf (meta : MetaData) (member : Member) : Type 0 where
  pub reader : IsReaderOf meta member.reader
  pub frame : IsFrameOf meta member.frame

-- what is kept then, and what became of the part
abbrev pub Follows : Seat → MemberValue → PartOutcome → Member → PartOutcome → Type 0
Follows seat value expected member outcome = IsMemberOf seat value member × (outcome ≡ expected)

-- how many parts a reader was given, and how many of them were bad
pub record Tells (fed : Fed) (tally : Tally) : Type 0 where
  pub matched : tally.matched ≡ fed.matched
  pub bad : tally.bad ≡ fed.bad

-- how many parts of a datagram were bad, and what they told
pub record Accounts (value : AccountValue) (account : Account) : Type 0 where
  pub bad : account.tally.bad ≡ value.fed.bad
  pub findings : account.findings ≡ value.findings

-- what is kept once a reader was given its parts, and what became of them
pub record IsFed (seat : Seat) (value : AccountValue) (member : Member) (account : Account) : Type 0 where
  pub member_is : IsMemberOf seat value.fed.member member
  pub matched : account.tally.matched ≡ value.fed.matched
  pub accounts : Accounts value account

-- ---- what calls on a reader ensure

-- what is kept for the reader, in whichever seat, becomes f of it
abbrev pub Becomes : (Seat → MemberValue → MemberValue) → Member → Member → Type 0
Becomes f old new = (seat : Seat) (value : MemberValue) → IsMemberOf seat value old → IsMemberOf seat (f seat value) new

-- after the reader's answer to a message that came at this moment, what is kept for it, in whichever seat
abbrev pub IsNoted : ℕ → Outcome → Member → Member → Type 0
IsNoted now outcome old new =
    Becomes (λ seat value. confirmed_by now outcome old.frame.number (noted now outcome value)) old new

-- what is kept for the reader, in whichever seat, stays
abbrev pub Stays : Member → Member → Type 0
Stays old new = (seat : Seat) (value : MemberValue) → IsMemberOf seat value old → IsMemberOf seat value new

-- what is kept for the reader at this index, in whichever seat, becomes f of it
abbrev pub BecomesAt : (Seat → MemberValue → MemberValue) → ℕ → List Member → List Member → Type 0
BecomesAt f index old new =
    (seat : Seat) (value : MemberValue) → HoldsAt (IsMemberOf seat value) old index
    → HoldsAt (IsMemberOf seat (f seat value)) new index

-- the reader at this index holds rows of its meta alone where it did before
abbrev pub KeepsRowsAt : ℕ → List Member → List Member → Type 0
KeepsRowsAt index old new = (meta : MetaData) → HoldsAt (HoldsRowsOf meta) old index → HoldsAt (HoldsRowsOf meta) new index

-- a datagram with this payload brings the reader at this index what the plain reading has
abbrev pub IsFedAt : Seat → Receipt → Bool → Bool → Payload → ℕ → List Member → List Member → Type 0
IsFedAt seat receipt raised enabled payload index old new =
    (value : MemberValue) → HoldsAt (IsMemberOf seat value) old index
    → HoldsAt (IsMemberOf seat (fed_by seat receipt raised enabled payload value).member) new index

-- the counts are those of the plain reading of the reader at this index
abbrev pub IsTalliedAt : Seat → Receipt → Bool → Bool → Payload → ℕ → List Member → Tally → Type 0
IsTalliedAt seat receipt raised enabled payload index old tally =
    (value : MemberValue) → HoldsAt (IsMemberOf seat value) old index
    → Tells (fed_by seat receipt raised enabled payload value) tally

-- the account is that of the parts that a datagram with this payload brings the reader at this index
abbrev pub IsAccountAt : Seat → Receipt → Bool → Bool → Payload → ℕ → List Member → Account → Type 0
IsAccountAt seat receipt raised enabled payload index old account =
    (value : MemberValue) → HoldsAt (IsMemberOf seat value) old index
    → Accounts (account_by seat receipt raised enabled payload value) account

-- a datagram with this payload brings the reader what the plain reading has, and the account is that of its parts
abbrev pub IsFedBy : ReaderPart → MetaData → Receipt → Bool → Bool → Payload → Member → Member → Account → Type 0
IsFedBy part meta receipt raised enabled payload old new account =
    (value : MemberValue) → IsMemberOf (seat_of part meta) value old
    → IsFed (seat_of part meta) (account_by (seat_of part meta) receipt raised enabled payload value) new account

-- the reader is given its parts of a payload
abbrev pub TakesParts : ReaderPart → MetaData → Receipt → Payload → Member → Member → Account → Type 0
TakesParts part meta receipt payload old new account =
    (value : MemberValue) → IsMemberOf (seat_of part meta) value old
    → IsFed (seat_of part meta) (fold (account_on (seat_of part meta) receipt) (no_account value) (pieces part payload)) new account

-- the reader is given a message, behind which its writer's id stands, where that is its own
abbrev pub IsOffered : ReaderPart → MetaData → Receipt → ℕ × List ℕ → Member → Account → Member → Account → Type 0
IsOffered part meta receipt listed old before new after =
    (value : AccountValue) → IsFed (seat_of part meta) value old before
    → IsFed (seat_of part meta) (account_if (seat_of part meta) receipt (listed.0 == part.writer) value (Message listed.1)) new after

-- the reader is given this part, and the answer says what became of it
abbrev pub FollowsPiece : ReaderPart → MetaData → Receipt → Piece → Member → Member → PartOutcome → Type 0
FollowsPiece part meta receipt piece old new outcome =
    (value : MemberValue) → IsMemberOf (seat_of part meta) value old
    → Follows (seat_of part meta) (piece_case (seat_of part meta) receipt value piece).0 (piece_outcome (seat_of part meta) receipt value piece) new outcome

-- what these bytes were read as is given to the reader, and what became of it
abbrev pub FollowsRead : Seat → Receipt → MemberValue → List ℕ → Result Frame FrameFault → Member → PartOutcome → Type 0
FollowsRead seat receipt value bytes read new outcome =
    Follows seat (read_case seat receipt value read).0 (read_outcome seat receipt value bytes read) new outcome

-- the reader is given the message that was joined of its chunks, and the answer says what became of it
abbrev pub FollowsJoined : MetaData → Receipt → Member → Member → PartOutcome → Type 0
FollowsJoined meta receipt old new outcome =
    (part : ReaderPart) (value : MemberValue) → IsMemberOf (seat_of part meta) value old
    → FollowsRead (seat_of part meta) receipt value (joined_bytes value.joining) (frame_at meta (joined_bytes value.joining)) new outcome

-- the message that was joined of the reader's chunks is read over the frame that it keeps
abbrev pub ReadsJoined : MetaData → Member → Result (Unit {0}) FrameFault → Member → Type 0
ReadsJoined meta old result new =
    (joining : Joining) → IsJoinerOf joining old.joiner
    → leaving result (frame_in meta.fields new.frame) ≡ frame_at meta (joined_bytes joining)

-- a chunk is laid in under its number
abbrev pub IsLaidIn : Chunk → Joiner → Joiner → Joined → Type 0
IsLaidIn chunk old new result =
    (joining : Joining) → IsJoinerOf joining old → Meets (chunk_case joining (numbered chunk)) new result

-- the reader is given the frame that it keeps, and the answer says what became of it
abbrev pub IsGivenKept : MetaData → Receipt → Member → Member → PartOutcome → Type 0
IsGivenKept meta receipt old new outcome =
    (part : ReaderPart) (value : MemberValue) → IsMemberOf (seat_of part meta) value old →
    let frame = frame_in meta.fields old.frame in
    Follows (seat_of part meta) (given (seat_of part meta) receipt value frame) (given_outcome (seat_of part meta) receipt value frame) new outcome
