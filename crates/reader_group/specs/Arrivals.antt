-- Arrivals: what comes to a reader of a read group, told by whole lists. Lists have the latest first.
use Rattle.std.specs.Prelude.{◌≡◌, ℕ, ◌+◌, ◌%◌, List, [], ◌∷◌, filter_map, fold, Bool, true, false, not, ◌&&◌, ◌||◌, ◌==◌, Option, Some, None, is_some, option_map, Result, Ok, Err, slice_index_or, if◌then◌else◌}
use Rattle.std.specs.Option.{option_map_or}
use Rattle.dataset_meta.specs.Metas.{MetaData}
use Rattle.pubsub_model.specs.declared.reading.Why.{Why}
use Rattle.pubsub_model.specs.declared.reading.Why.TheVariants.{Start, Gap, Timeout, NewToken, Jump, Restarted}
use Rattle.pubsub_model.specs.Frames as model
use Rattle.pubsub_model.specs.Frames.{PlacedFrame}
use Rattle.pubsub_model.specs.Records.{Item, Arrival, Came, Cut, since_cut, held, unnumbered_row, is_record, counts, last_counting}
use Rattle.frame_codec.specs.declared.fault.FrameFault.{FrameFault}
use Rattle.frame_codec.specs.Frames as frames
use Rattle.frame_codec.specs.Frames.{Content, Frame}
use Rattle.frame_codec.specs.Reading.{frame_at}
use Rattle.dataset_reader.specs.Keeping.{jumps}
use Rattle.receive_timer.specs.Told.{Told, Seen, is_due}
use Rattle.chunker.specs.Chunks.{Chunk, is_proper, is_whole_at, message_of}
use Rattle.chunker.specs.Spelling.{chunk_at, without_rest}
use Rattle.chunker.specs.declared.payload.ChunkFault.{ChunkFault}
use Rattle.message_guard.specs.Acceptance.{Accepted}
use Rattle.message_guard.specs.Opening.{accepts}
use Rattle.config_tables.specs.declared.words.NumberingWord.{NumberingWord}
use Rattle.config_tables.specs.declared.words.NumberingWord.TheVariants as words
use Rattle.reader_group.specs.declared.refusal.Refusal.{Refusal}
use Rattle.reader_group.specs.Members.{Seat}
use Rattle.reader_group.specs.SlotFrames.{slot_frame_at}
use Rattle.reader_group.specs.Payloads.{Piece, Message, Chunked, Slotted, Missing, pieces}
use Rattle.reader_group.specs.Opening.{Opened, verdict}
use Rattle.reader_group.specs.Plain.{Setting, Event, Got, Expired, Stopped, is_raised, plain, stamp_by}

-- the pairs of token and number that the group has accepted
abbrev pub accepted_with : Setting → Accepted → Result Opened Refusal → Accepted
accepted_with setting so_far (Err refusal) = so_far
accepted_with setting so_far (Ok opened) = accepts setting.setup.mode opened.pass so_far

abbrev pub accepted : Setting → List Event → Accepted
accepted setting [] = []
accepted setting (Got moment on datagram ∷ before) =
    let so_far = accepted setting before in
    accepted_with setting so_far (verdict setting.group setting.setup so_far datagram)
accepted setting (Expired moment ∷ before) = accepted setting before
accepted setting (Stopped reader why ∷ before) = accepted setting before

-- the pairs of the plain reading are those that the datagrams tell
abbrev pub AreTold : Setting → List Event → Type 0
AreTold setting events = (plain setting events).accepted ≡ accepted setting events

-- a reader of the group, and the place that a message's number stands for in a datagram of a token and a number
pub record Way : Type 0 where
  pub index : ℕ
  pub seat : Seat
  pub place : ℕ → ℕ → ℕ → ℕ

abbrev pub is_numbered : NumberingWord → Bool
is_numbered words.Message = true
is_numbered words.None = false

abbrev pub goes_by_numbers : Way → Bool
goes_by_numbers way = is_numbered way.seat.part.numbering

-- a frame of a number that counts it, as the model's
abbrev pub framed : (ℕ → ℕ) → Content → ℕ → PlacedFrame
framed place (frames.Whole row) number = model.Whole (place number) row
framed place (frames.Change patch) number = model.Change (place number) patch
framed place frames.Alive number = model.Alive (place ((number + 65535) % 65536) + 1)

-- with no numbering places don't matter, and a delta frame gives none
abbrev pub unnumbered : Content → Option PlacedFrame
unnumbered (frames.Whole row) = Some (model.Whole 0 row)
unnumbered (frames.Change patch) = None
unnumbered frames.Alive = Some (model.Alive 1)

abbrev pub is_foreign : MetaData → Frame → Bool
is_foreign meta frame = option_map_or (λ major. not (major == meta.major)) frame.major false

-- the item's frame, if the message is an item for the reader
abbrev pub frame_of : Way → (ℕ → ℕ) → Frame → Option PlacedFrame
frame_of way place frame =
    if is_foreign way.seat.meta frame then None
    else if goes_by_numbers way then option_map (framed place frame.content) frame.number
    else unnumbered frame.content

-- what stands in a reader's list: arrivals, and the chunks that count
pub data Mark : Type 0 where
  Arrived : (arrival : Arrival) → Mark
  Laid : (chunk : Chunk) → Mark

abbrev pub arrival_in : Mark → Option Arrival
arrival_in (Arrived arrival) = Some arrival
arrival_in (Laid chunk) = None

abbrev pub arrivals_in : List Mark → List Arrival
arrivals_in marks = filter_map arrival_in marks

-- all cuts but Jump clear the chunks
abbrev pub clears : Why → Bool
clears Start = true
clears Gap = true
clears Timeout = true
clears NewToken = true
clears Jump = false
clears Restarted = true

abbrev pub chunks_unless : Bool → List Chunk → List Chunk
chunks_unless true chunks = []
chunks_unless false chunks = chunks

-- the chunks that count since the chunks were last cleared
abbrev pub chunks_in : List Mark → List Chunk
chunks_in [] = []
chunks_in (Laid chunk ∷ before) = chunk ∷ chunks_in before
chunks_in (Arrived (Came item) ∷ before) = chunks_in before
chunks_in (Arrived (Cut why) ∷ before) = chunks_unless (clears why) (chunks_in before)

-- an item comes; by numbers a jump cuts before it
abbrev pub comes : Way → List Mark → Item → List Mark
comes way before item =
    if goes_by_numbers way && jumps (since_cut (arrivals_in before)) item.stamp
    then Arrived (Came item) ∷ Arrived (Cut Jump) ∷ before
    else Arrived (Came item) ∷ before

abbrev pub item_of : ℕ → Option ℕ → PlacedFrame → Item
item_of moment stamp frame = record { moment = moment; stamp = stamp; frame = frame }

abbrev pub item_on : Way → ℕ → Option ℕ → List Mark → Option PlacedFrame → List Mark
item_on way moment stamp before None = before
item_on way moment stamp before (Some frame) = comes way before (item_of moment stamp frame)

-- what is read as a message gives an item
abbrev pub read_on : Way → (ℕ → ℕ) → ℕ → Option ℕ → List Mark → Result Frame FrameFault → List Mark
read_on way place moment stamp before (Err fault) = before
read_on way place moment stamp before (Ok frame) = item_on way moment stamp before (frame_of way place frame)

abbrev pub placed : (ℕ → ℕ) → Chunk → Chunk
placed place chunk = record chunk { place = place chunk.place }

-- a chunk that counts stands in the list, and a message that is whole at it is read
abbrev pub laid_on : Way → (ℕ → ℕ) → ℕ → Option ℕ → List Mark → Chunk → List Mark
laid_on way place moment stamp before chunk =
    let chunks = chunks_in before in
    if not (is_proper chunks chunk) then before
    else if is_whole_at chunks chunk
    then read_on way place moment stamp (Laid chunk ∷ before)
    (frame_at way.seat.meta (message_of (chunk ∷ chunks) chunk.place chunk.total))
    else Laid chunk ∷ before

abbrev pub chunk_on : Way → (ℕ → ℕ) → ℕ → Option ℕ → List Mark → Result Chunk ChunkFault → List Mark
chunk_on way place moment stamp before (Err fault) = before
chunk_on way place moment stamp before (Ok chunk) = laid_on way place moment stamp before (placed place chunk)

abbrev pub piece_on : Way → (ℕ → ℕ) → ℕ → Option ℕ → List Mark → Piece → List Mark
piece_on way place moment stamp before (Message bytes) =
    read_on way place moment stamp before (frame_at way.seat.meta bytes)
piece_on way place moment stamp before (Chunked bytes) =
    chunk_on way place moment stamp before (without_rest (chunk_at bytes))
piece_on way place moment stamp before (Slotted bytes) =
    read_on way place moment stamp before (slot_frame_at way.seat.meta bytes)
piece_on way place moment stamp before Missing = before

abbrev pub cut_on : Bool → Why → List Mark → List Mark
cut_on true why before = Arrived (Cut why) ∷ before
cut_on false why before = before

-- a datagram: NewToken before the items of one that raises the token; nothing of one that is refused
abbrev pub taken_in : Setting → Way → ℕ → Bool → Accepted → List Mark → Result Opened Refusal → List Mark
taken_in setting way moment enabled so_far before (Err refusal) = before
taken_in setting way moment enabled so_far before (Ok opened) =
    fold (piece_on way (way.place opened.pass.token opened.pass.number) moment (stamp_by setting.setup.mode opened.pass.number))
    (cut_on (is_raised setting so_far opened) NewToken before)
    (if enabled then pieces way.seat.part opened.payload else [])

-- a timer that was told of this moment last, if of any
abbrev pub told_of : Option ℕ → List Told
told_of None = []
told_of (Some moment) = Seen moment ∷ []

-- Timeout: at a moment that is the reader's timeout or more after the last item that counts
abbrev pub runs_out : Way → ℕ → List Arrival → Bool
runs_out way moment before =
    is_due way.seat.part.timeout (told_of (last_counting (goes_by_numbers way) (since_cut before))) moment

-- the reader's list after what befell the group
abbrev pub marks : Setting → Way → List Event → List Mark
marks setting way [] = []
marks setting way (Expired moment ∷ before) =
    let so_far = marks setting way before in
    cut_on (runs_out way moment (arrivals_in so_far)) Timeout so_far
marks setting way (Stopped reader why ∷ before) = cut_on (reader == way.index) why (marks setting way before)
marks setting way (Got moment on datagram ∷ before) =
    let pairs = accepted setting before in
    taken_in setting way moment (slice_index_or on way.index false) pairs (marks setting way before)
    (verdict setting.group setting.setup pairs datagram)

-- Arrivals
abbrev pub arrivals : Setting → Way → List Event → List Arrival
arrivals setting way events = arrivals_in (marks setting way events)

-- the last item holds a row: by numbers it is a record with a row held, and with none a key frame
abbrev pub holds : Bool → Item → List Arrival → Bool
holds true item before = is_record (since_cut before) item && is_some (held (Came item ∷ before))
holds false item before = is_some (unnumbered_row (Came item ∷ []))

abbrev pub ends_readiness : Why → Bool
ends_readiness Start = false
ends_readiness Gap = false
ends_readiness Timeout = true
ends_readiness NewToken = false
ends_readiness Jump = false
ends_readiness Restarted = true

-- a row was held, with neither a timeout nor a restart since
abbrev pub is_ready : Bool → List Arrival → Bool
is_ready numbered [] = false
is_ready numbered (Cut why ∷ before) = not (ends_readiness why) && is_ready numbered before
is_ready numbered (Came item ∷ before) = holds numbered item before || is_ready numbered before

abbrev pub is_timeout : Why → Bool
is_timeout Start = false
is_timeout Gap = false
is_timeout Timeout = true
is_timeout NewToken = false
is_timeout Jump = false
is_timeout Restarted = false

-- a timeout came, and no item that counts since
abbrev pub is_late : Bool → List Arrival → Bool
is_late numbered [] = false
is_late numbered (Cut why ∷ before) = is_timeout why || is_late numbered before
is_late numbered (Came item ∷ before) = not (counts numbered (since_cut before) item) && is_late numbered before
