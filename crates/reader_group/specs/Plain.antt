-- The plain reading of a read group: a fold of one step over all that befell it, the latest first.
use Rattle.std.specs.Prelude.{ℕ, ◌+◌, ◌==◌, Bool, true, false, ◌&&◌, List, [], ◌∷◌, length, map, fold, sum_by, Option, Some, None, option_map, Result, Ok, Err, slice_index_or, if◌then◌else◌}
use Rattle.std.specs.List.{range_with_len}
use Rattle.seq_number.specs.Numbers.{number_of_place}
use Rattle.pubsub_model.specs.declared.reading.Why.{Why}
use Rattle.pubsub_model.specs.declared.reading.Why.TheVariants.{NewToken}
use Rattle.frame_codec.specs.declared.fault.FrameFault.{FrameFault}
use Rattle.frame_codec.specs.Frames.{Frame}
use Rattle.frame_codec.specs.Reading.{frame_at}
use Rattle.dataset_reader.specs.Kept.{Kept}
use Rattle.dataset_reader.specs.Cases.{frame_case}
use Rattle.dataset_reader.specs.Passed.{counted}
use Rattle.dataset_reader.specs.declared.took.Took.{Took}
use Rattle.chunker.specs.Chunks.{Chunk}
use Rattle.chunker.specs.Joining.{Joining, chunk_case, joined_bytes}
use Rattle.chunker.specs.Joins.{numbered}
use Rattle.chunker.specs.Spelling.{chunk_at, without_rest}
use Rattle.chunker.specs.declared.joiner.Joined.{Joined}
use Rattle.chunker.specs.declared.joiner.Joined.TheVariants as joins
use Rattle.chunker.specs.declared.payload.ChunkFault.{ChunkFault}
use Rattle.message_guard.specs.declared.keys.TokenKeys.{TokenKeys}
use Rattle.message_guard.specs.declared.mode.Mode.{Mode}
use Rattle.message_guard.specs.Modes.{is_secured}
use Rattle.message_guard.specs.Acceptance.{Accepted, raises}
use Rattle.message_guard.specs.Guards.{Setup}
use Rattle.message_guard.specs.Opening.{accepts}
use Rattle.ps_config.specs.declared.parts.ReadGroupPart.{ReadGroupPart}
use Rattle.reader_group.specs.declared.receipt.Receipt.{Receipt}
use Rattle.reader_group.specs.declared.refusal.Refusal.{Refusal}
use Rattle.reader_group.specs.declared.refusal.Taken.{Taken}
use Rattle.reader_group.specs.Members.{Seat, seat_at, MemberValue, new_member, cut_member, stopped, expired, noted, confirmed_by, numbering_of}
use Rattle.reader_group.specs.SlotFrames.{slot_frame_at}
use Rattle.reader_group.specs.Payloads.{Payload, Piece, Message, Chunked, Slotted, Missing, pieces, part_count}
use Rattle.reader_group.specs.Opening.{Opened, verdict}

-- ---- a part for a reader

-- a frame with its number in 16 bits, as it is carried
abbrev pub short : Frame → Frame
short frame = record frame { number = option_map number_of_place frame.number }

-- what the reader kept and answered, which counts what is passed over
abbrev pub taken_in : MemberValue → Kept × Took → MemberValue
taken_in member taken = record member { kept = taken.0; passed = counted member.passed taken.1.outcome }

-- after what the reader kept and answered
abbrev pub after_took : ℕ → MemberValue → Kept × Took → MemberValue
after_took now member taken = noted now taken.1.outcome (taken_in member taken)

-- the same, where the frame carried this number: it may confirm the row
abbrev pub given_took : ℕ → Option ℕ → MemberValue → Kept × Took → MemberValue
given_took now carried member taken = confirmed_by now taken.1.outcome carried (after_took now member taken)

-- the reader is given a frame
abbrev pub given : Seat → Receipt → MemberValue → Frame → MemberValue
given seat receipt member frame =
    given_took receipt.moment (short frame).number member
    (frame_case (numbering_of seat.part.numbering) seat.meta.major member.kept (short frame) receipt.stamp)

-- the reader is given what was read; what couldn't be read is bad, and leaves it
abbrev pub read_case : Seat → Receipt → MemberValue → Result Frame FrameFault → MemberValue × Bool
read_case seat receipt member (Err fault) = (member, true)
read_case seat receipt member (Ok frame) = (given seat receipt member frame, false)

-- a message that a chunk makes whole is read
abbrev pub joined_case : Seat → Receipt → MemberValue → Joining × Joined → MemberValue × Bool
joined_case seat receipt member (joining, joins.Whole total) =
    read_case seat receipt (record member { joining = joining }) (frame_at seat.meta (joined_bytes joining))
joined_case seat receipt member (joining, joins.Part) = (record member { joining = joining }, false)
joined_case seat receipt member (joining, joins.Older) = (record member { joining = joining }, false)
joined_case seat receipt member (joining, joins.TooLong total) = (record member { joining = joining }, true)
joined_case seat receipt member (joining, joins.BadRange offset total) = (record member { joining = joining }, true)
joined_case seat receipt member (joining, joins.Differs first now) = (record member { joining = joining }, true)

abbrev pub chunked_case : Seat → Receipt → MemberValue → Result Chunk ChunkFault → MemberValue × Bool
chunked_case seat receipt member (Err fault) = (member, true)
chunked_case seat receipt member (Ok chunk) =
    joined_case seat receipt member (chunk_case member.joining (numbered chunk))

-- what a part does to a reader, and whether it is bad
abbrev pub piece_case : Seat → Receipt → MemberValue → Piece → MemberValue × Bool
piece_case seat receipt member (Message bytes) = read_case seat receipt member (frame_at seat.meta bytes)
piece_case seat receipt member (Chunked bytes) = chunked_case seat receipt member (without_rest (chunk_at bytes))
piece_case seat receipt member (Slotted bytes) = read_case seat receipt member (slot_frame_at seat.meta bytes)
piece_case seat receipt member Missing = (member, true)

-- ---- a datagram for a reader

-- a reader, how many parts it was given, and how many of them were bad
pub record Fed : Type 0 where
  pub member : MemberValue
  pub matched : ℕ
  pub bad : ℕ

abbrev pub unfed : MemberValue → Fed
unfed member = record { member = member; matched = 0; bad = 0 }

abbrev pub count_if : Bool → ℕ
count_if true = 1
count_if false = 0

abbrev pub fed_on : Seat → Receipt → Fed → Piece → Fed
fed_on seat receipt fed piece =
    let after = piece_case seat receipt fed.member piece in
    record { member = after.0; matched = fed.matched + 1; bad = fed.bad + count_if after.1 }

abbrev pub cut_if : Bool → Why → MemberValue → MemberValue
cut_if true why member = cut_member why member
cut_if false why member = member

-- a higher token cuts every reader, and an enabled one is given its parts
abbrev pub fed_by : Seat → Receipt → Bool → Bool → Payload → MemberValue → Fed
fed_by seat receipt raised enabled payload member =
    let now = cut_if raised NewToken member in
    if enabled then fold (fed_on seat receipt) (unfed now) (pieces seat.part payload) else unfed now

-- ---- the group

-- what the configuration says of a read group, and what its guard was made of
pub record Setting : Type 0 where
  pub group : ReadGroupPart
  pub setup : Setup
  pub seats : List Seat

-- the setting of a guard with other keys: all else stays
abbrev pub with_keys : Setting → List TokenKeys → Setting
with_keys setting keys = record setting { setup = record setting.setup { keys = keys } }

-- the pairs of token and number that were accepted, the latest first, and the readers in order
pub record PlainGroup : Type 0 where
  pub accepted : Accepted
  pub members : List MemberValue

abbrev pub member_at : List MemberValue → ℕ → MemberValue
member_at members k = slice_index_or members k new_member

-- f of each reader: of its index, its seat and what is kept for it
abbrev pub each : {A : Type 0} → List Seat → List MemberValue → (ℕ → Seat → MemberValue → A) → List A
each seats members f =
    map (λ k. f k (seat_at seats k) (member_at members k)) (range_with_len 0 (length seats))

-- what befalls a read group
pub data Event : Type 0 where
  -- a datagram came, where these readers are enabled
  Got : (moment : ℕ) (on : List Bool) (datagram : List ℕ) → Event
  -- timers were looked at
  Expired : (moment : ℕ) → Event
  -- a reader was cut by hand
  Stopped : (reader : ℕ) (why : Why) → Event

-- the number in the nonce, where there is security
abbrev pub stamp_by : Mode → ℕ → Option ℕ
stamp_by mode number = if is_secured mode then Some number else None

abbrev pub receipt_of : Setting → ℕ → Opened → Receipt
receipt_of setting now opened = record { moment = now; stamp = stamp_by setting.setup.mode opened.pass.number }

-- a token was accepted before, and this one is higher
abbrev pub is_raised : Setting → Accepted → Opened → Bool
is_raised setting accepted opened = is_secured setting.setup.mode && raises accepted opened.pass.token

-- each reader with what a datagram brings it
abbrev pub all_fed : List Seat → List MemberValue → Receipt → Bool → List Bool → Payload → List Fed
all_fed seats members receipt raised on payload =
    each seats members (λ k seat member. fed_by seat receipt raised (slice_index_or on k false) payload member)

abbrev pub feds : Setting → PlainGroup → ℕ → List Bool → Opened → List Fed
feds setting group now on opened =
    all_fed setting.seats group.members (receipt_of setting now opened)
    (is_raised setting group.accepted opened) on opened.payload

-- a datagram that is refused changes nothing
abbrev pub taken_on : Setting → PlainGroup → ℕ → List Bool → Result Opened Refusal → PlainGroup
taken_on setting group now on (Err refusal) = group
taken_on setting group now on (Ok opened) = record {
  accepted = accepts setting.setup.mode opened.pass group.accepted;
  members = map (λ fed. fed.member) (feds setting group now on opened);
}

abbrev pub verdict_in : Setting → PlainGroup → List ℕ → Result Opened Refusal
verdict_in setting group datagram = verdict setting.group setting.setup group.accepted datagram

-- the timer of each reader is looked at
abbrev pub all_expired : List Seat → ℕ → List MemberValue → List MemberValue
all_expired seats now members =
    each seats members (λ k seat member. expired seat.part.timeout now member)

abbrev pub stopped_if : Bool → Why → MemberValue → MemberValue
stopped_if true why member = stopped why member
stopped_if false why member = member

abbrev pub one_stopped : List Seat → ℕ → Why → List MemberValue → List MemberValue
one_stopped seats reader why members =
    each seats members (λ k seat member. stopped_if (k == reader) why member)

-- THE STEP
abbrev pub step : Setting → PlainGroup → Event → PlainGroup
step setting group (Got now on datagram) = taken_on setting group now on (verdict_in setting group datagram)
step setting group (Expired now) = record group { members = all_expired setting.seats now group.members }
step setting group (Stopped reader why) =
    record group { members = one_stopped setting.seats reader why group.members }

-- before anything
abbrev pub opening : Setting → PlainGroup
opening setting = record { accepted = []; members = map (λ seat. new_member) setting.seats }

-- the plain reading
abbrev pub plain : Setting → List Event → PlainGroup
plain setting [] = opening setting
plain setting (event ∷ before) = step setting (plain setting before) event

-- ---- the answer to a datagram

abbrev pub answer_on : Setting → PlainGroup → ℕ → List Bool → Result Opened Refusal → Result Taken Refusal
answer_on setting group now on (Err refusal) = Err refusal
answer_on setting group now on (Ok opened) =
    let fed = feds setting group now on opened in
    Ok (record {
      parts = part_count on opened.payload;
      matched = sum_by (λ f. f.matched) fed;
      bad = sum_by (λ f. f.bad) fed;
    })

abbrev pub answer : Setting → PlainGroup → ℕ → List Bool → List ℕ → Result Taken Refusal
answer setting group now on datagram = answer_on setting group now on (verdict_in setting group datagram)
