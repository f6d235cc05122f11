-- What a read group notes of each of its readers, beside the plain reading: why the last part that couldn't be read couldn't and at which field, how many couldn't, the
-- major version of the last message of another one, how many messages were missing, how often a row was stored, and when the last message was taken.
use Rattle.std.specs.Prelude.{◌≡◌, ℕ, ◌+◌, ◌-◌, ◌%◌, ◌^◌, min, Bool, true, false, List, fold, Option, Some, None, Result, Ok, Err, slice_index_or, slice_set, if◌then◌else◌}
use Rattle.dataset_meta.specs.Metas.{MetaData}
use Rattle.pubsub_model.specs.declared.reading.Break.{Break}
use Rattle.pubsub_model.specs.declared.reading.Why.TheVariants.{NewToken}
use Rattle.frame_codec.specs.declared.fault.FrameFault.{FrameFault}
use Rattle.frame_codec.specs.declared.faulty.FieldFault.{FieldFault}
use Rattle.frame_codec.specs.FieldFaults.{field_fault}
use Rattle.frame_codec.specs.Frames.{Frame}
use Rattle.frame_codec.specs.Reading.{frame_at}
use Rattle.dataset_reader.specs.declared.took.Outcome.{Outcome}
use Rattle.dataset_reader.specs.declared.took.Outcome.TheVariants as outcomes
use Rattle.dataset_reader.specs.declared.took.Took.{Took}
use Rattle.dataset_reader.specs.Cases.{frame_case}
use Rattle.chunker.specs.Chunks.{Chunk}
use Rattle.chunker.specs.Joining.{Joining, chunk_case, joined_bytes}
use Rattle.chunker.specs.Joins.{numbered}
use Rattle.chunker.specs.Spelling.{chunk_at, without_rest}
use Rattle.chunker.specs.declared.joiner.Joined.{Joined}
use Rattle.chunker.specs.declared.joiner.Joined.TheVariants as joins
use Rattle.chunker.specs.declared.payload.ChunkFault.{ChunkFault}
use Rattle.reader_group.specs.declared.receipt.Receipt.{Receipt}
use Rattle.reader_group.specs.declared.account.Account.{Account}
use Rattle.reader_group.specs.declared.findings.Findings.{Findings}
use Rattle.reader_group.specs.declared.notice.Notice.{Notice}
use Rattle.reader_group.specs.declared.notice.PartFault.{PartFault}
use Rattle.reader_group.specs.declared.notice.PartFault.TheVariants as faults
use Rattle.reader_group.specs.declared.notice.PartOutcome.{PartOutcome}
use Rattle.reader_group.specs.declared.notice.PartOutcome.TheVariants as parts
use Rattle.reader_group.specs.declared.refusal.Refusal.{Refusal}
use Rattle.reader_group.specs.Members.{Seat, MemberValue, numbering_of, seat_at}
use Rattle.reader_group.specs.SlotFrames.{slot_frame_at}
use Rattle.reader_group.specs.Payloads.{Payload, Piece, Message, Chunked, Slotted, Missing, pieces}
use Rattle.reader_group.specs.Opening.{Opened}
use Rattle.reader_group.specs.Plain.{Setting, PlainGroup, Fed, cut_if, fed_on, is_raised, member_at, receipt_of, short, unfed}

-- ---- what a part was

-- a part that can't be read for what is no field's
abbrev pub bad_part : PartFault → PartOutcome
bad_part fault = parts.Bad fault None

-- a frame that can't be read, with the field whose value can't, if there is one
abbrev pub bad_frame : MetaData → List ℕ → FrameFault → PartOutcome
bad_frame meta bytes fault = parts.Bad (faults.Frame fault) (field_fault meta bytes)

-- a frame was read, and the reader answered this
abbrev pub given_outcome : Seat → Receipt → MemberValue → Frame → PartOutcome
given_outcome seat receipt member frame =
    parts.Given (frame_case (numbering_of seat.part.numbering) seat.meta.major member.kept (short frame) receipt.stamp).1

-- what these bytes were read as
abbrev pub read_outcome : Seat → Receipt → MemberValue → List ℕ → Result Frame FrameFault → PartOutcome
read_outcome seat receipt member bytes (Err fault) = bad_frame seat.meta bytes fault
read_outcome seat receipt member bytes (Ok frame) = given_outcome seat receipt member frame

abbrev pub joined_outcome : Seat → Receipt → MemberValue → Joining × Joined → PartOutcome
joined_outcome seat receipt member (joining, joins.Whole total) =
    read_outcome seat receipt member (joined_bytes joining) (frame_at seat.meta (joined_bytes joining))
joined_outcome seat receipt member (joining, joins.Part) = parts.Laid
joined_outcome seat receipt member (joining, joins.Older) = parts.Laid
joined_outcome seat receipt member (joining, joins.TooLong total) = bad_part (faults.TooLong total)
joined_outcome seat receipt member (joining, joins.BadRange offset total) = bad_part (faults.BadRange offset total)
joined_outcome seat receipt member (joining, joins.Differs first now) = bad_part (faults.Differs first now)

abbrev pub chunked_outcome : Seat → Receipt → MemberValue → Result Chunk ChunkFault → PartOutcome
chunked_outcome seat receipt member (Err fault) = bad_part (faults.Chunk fault)
chunked_outcome seat receipt member (Ok chunk) =
    joined_outcome seat receipt member (chunk_case member.joining (numbered chunk))

-- what a part is for a reader that is there when it comes
abbrev pub piece_outcome : Seat → Receipt → MemberValue → Piece → PartOutcome
piece_outcome seat receipt member (Message bytes) = read_outcome seat receipt member bytes (frame_at seat.meta bytes)
piece_outcome seat receipt member (Chunked bytes) = chunked_outcome seat receipt member (without_rest (chunk_at bytes))
piece_outcome seat receipt member (Slotted bytes) = read_outcome seat receipt member bytes (slot_frame_at seat.meta bytes)
piece_outcome seat receipt member Missing = bad_part faults.Missing

abbrev pub is_bad : PartOutcome → Bool
is_bad parts.Laid = false
is_bad (parts.Given took) = false
is_bad (parts.Bad fault field) = true

-- ---- a datagram for a reader

-- a count after so many more: it stands at 2^64 - 1
abbrev pub more_of : ℕ → ℕ → ℕ
more_of count more = min (count + more) (2 ^ 64 - 1)

-- How many messages are missing at a break: those from the number that was due, which is the one after the last message's, to the one before the number that came. A
-- keep-alive carries the number of the next message, so that none is counted twice.
abbrev pub missing : Break → ℕ
missing broke = (65536 + broke.got - broke.expected) % 65536

abbrev pub missing_in : Option Break → ℕ
missing_in None = 0
missing_in (Some broke) = missing broke

-- by what a reader did with a message
abbrev pub findings_by : Outcome → Findings → Findings
findings_by outcomes.Held before = record before { stored = more_of before.stored 1; taken = true }
findings_by outcomes.Alive before = record before { taken = true }
findings_by (outcomes.Waiting why) before = record before { taken = true }
findings_by outcomes.Older before = before
findings_by (outcomes.WrongMajor got) before = record before { major = Some got }
findings_by outcomes.Unnumbered before = before

-- by what a reader answered to a message
abbrev pub findings_given : Took → Findings → Findings
findings_given took before =
    findings_by took.outcome (record before { lost = more_of before.lost (missing_in took.broke) })

-- what the parts told, after one more
abbrev pub findings_on : PartOutcome → Findings → Findings
findings_on parts.Laid before = before
findings_on (parts.Given took) before = findings_given took before
findings_on (parts.Bad fault field) before = record before { fault = Some fault; field = field }

-- before any part
abbrev pub no_findings : Findings
no_findings = record { fault = None; field = None; major = None; lost = 0; stored = 0; taken = false }

-- what a datagram brought a reader, and what its parts told
pub record AccountValue : Type 0 where
  pub fed : Fed
  pub findings : Findings

abbrev pub no_account : MemberValue → AccountValue
no_account member = record { fed = unfed member; findings = no_findings }

abbrev pub account_on : Seat → Receipt → AccountValue → Piece → AccountValue
account_on seat receipt account piece =
    record {
      fed = fed_on seat receipt account.fed piece;
      findings = findings_on (piece_outcome seat receipt account.fed.member piece) account.findings;
    }

-- a part that is the reader's, or isn't
abbrev pub account_if : Seat → Receipt → Bool → AccountValue → Piece → AccountValue
account_if seat receipt true account piece = account_on seat receipt account piece
account_if seat receipt false account piece = account

-- over the parts of a datagram in their order, as the reader is fed them
abbrev pub account_by : Seat → Receipt → Bool → Bool → Payload → MemberValue → AccountValue
account_by seat receipt raised enabled payload member =
    let now = cut_if raised NewToken member in
    if enabled then fold (account_on seat receipt) (no_account now) (pieces seat.part payload) else no_account now

-- ---- what is noted

-- before anything
abbrev pub no_notice : Notice
no_notice = record { fault = None; field = None; bad = 0; major = None; lost = 0; stored = 0; seen = None }

-- the last one, if there is one, or the one before
abbrev pub last_of : {A : Type 0} → Option A → Option A → Option A
last_of None before = before
last_of (Some last) before = Some last

-- the field goes with the fault
abbrev pub field_of : Option PartFault → Option FieldFault → Option FieldFault → Option FieldFault
field_of None field before = before
field_of (Some fault) field before = field

-- after a datagram of this moment, whose parts told this, and so many of which couldn't be read
abbrev pub noticed : ℕ → Findings → ℕ → Notice → Notice
noticed now findings bad before = record {
  fault = last_of findings.fault before.fault;
  field = field_of findings.fault findings.field before.field;
  bad = more_of before.bad bad;
  major = last_of findings.major before.major;
  lost = more_of before.lost findings.lost;
  stored = more_of before.stored findings.stored;
  seen = if findings.taken then Some now else before.seen;
}

abbrev pub noticed_as : ℕ → AccountValue → Notice → Notice
noticed_as now account before = noticed now account.findings account.fed.bad before

-- what a datagram that a group takes brings the reader at this index
abbrev pub account_in : Setting → PlainGroup → ℕ → List Bool → Opened → ℕ → AccountValue
account_in setting group now on opened index =
    account_by (seat_at setting.seats index) (receipt_of setting now opened) (is_raised setting group.accepted opened)
    (slice_index_or on index false) opened.payload (member_at group.members index)

-- one that is refused changes nothing
abbrev pub noticed_on : Setting → PlainGroup → ℕ → List Bool → ℕ → Result Opened Refusal → Notice → Notice
noticed_on setting group now on index (Err refusal) before = before
noticed_on setting group now on index (Ok opened) before = noticed_as now (account_in setting group now on opened index) before

abbrev pub notice_at : List Notice → ℕ → Notice
notice_at notices index = slice_index_or notices index no_notice

-- after a datagram of this moment with this account in memory
abbrev pub noted_by : ℕ → Account → Notice → Notice
noted_by now account before = noticed now account.findings account.tally.bad before

-- an account is noted at this index
abbrev pub IsNotedAt : ℕ → ℕ → Account → List Notice → List Notice → Type 0
IsNotedAt index now account old new = new ≡ slice_set old index (noted_by now account (notice_at old index))
