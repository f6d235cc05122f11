-- Which datagrams are spelled in the JSON mapping (OPC 10000-14 section 7.2.5), and how.
use Rattle.std.specs.Prelude.{ℕ, ◌+◌, ◌*◌, Bool, true, false, ◌&&◌, nat_lt, is_none, is_some, if◌then◌else◌, List, [], ◌∷◌, length, map, sum, filter_map, count_by, slice_get, decimal, Option, Some, None, option_map, option_and_then, Result, Ok, Err}
use Rattle.serde_json.specs.Written.{compact_text}
use Rattle.ua_values.specs.declared.text.TextFault.{TextFault}
use Rattle.ua_values.specs.Texts.{text_of}
use Rattle.frame_codec.specs.declared.fault.FrameFault.{FrameFault}
use Rattle.frame_codec.specs.Frames.{Frame}
use Rattle.frame_codec.specs.Reading.{frame_at}
use Rattle.uadp_header.specs.declared.fault.HeaderFault.{HeaderFault}
use Rattle.uadp_header.specs.Headers.{PublisherValue, U8, U16, U32, U64, Text, IdsValue, NoIds, ListOf, ChunkOf, HeaderValue, ids_of}
use Rattle.uadp_header.specs.Layout.{header_at}
use Rattle.payload_layout.specs.Payloads.{sizes_of, parts_of}
use Rattle.ps_config.specs.declared.parts.Config.{Config}
use Rattle.ps_config.specs.Sound.{writers}
use Rattle.json_frames.specs.Parts.{Part}
use Rattle.json_frames.specs.Reading.{set_of}
use Rattle.json_frames.specs.Written.{message_json}

-- what is transcoded of a datagram: its publisher as a text, and the frames of its writers
pub record Message : Type 0 where
  pub publisher : List ℕ
  pub parts : List Part

-- ---- the publisher

-- a number as decimal text, a text as itself
abbrev pub publisher_text : PublisherValue → List ℕ
publisher_text (U8 id) = decimal id
publisher_text (U16 id) = decimal id
publisher_text (U32 id) = decimal id
publisher_text (U64 id) = decimal id
publisher_text (Text text) = text

abbrev pub text_if : Result (List ℕ) TextFault → Option (List ℕ)
text_if (Ok text) = Some text
text_if (Err fault) = None

-- where it is told, and a text of at most 256 bytes
abbrev pub publisher_of : Option PublisherValue → Option (List ℕ)
publisher_of None = None
publisher_of (Some publisher) = text_if (text_of (publisher_text publisher))

-- ---- the frames

-- the data set of each writer of a configuration
abbrev pub sets_of : Config → List (ℕ × ℕ)
sets_of config = map (λ writer. (writer.id, writer.dataset)) (writers config)

-- both versions are there, or neither
abbrev pub are_paired : Option ℕ → Option ℕ → Bool
are_paired (Some major) (Some minor) = true
are_paired (Some major) None = false
are_paired None (Some minor) = false
are_paired None None = true

abbrev pub has_numbers : Option ℕ → Option ℕ → Option ℕ → Bool
has_numbers number major minor = is_some number && are_paired major minor

-- a frame with a number, and with both versions or neither
abbrev pub is_spelled : Frame → Bool
is_spelled frame = has_numbers frame.number frame.major frame.minor

abbrev pub frame_if : Result Frame FrameFault → Option Frame
frame_if (Ok frame) = if is_spelled frame then Some frame else None
frame_if (Err fault) = None

-- the bytes of a writer, read as a frame of the data set with this place
abbrev pub part_for : Config → ℕ → List ℕ → ℕ → Option Part
part_for config writer bytes set =
    option_and_then (λ meta. option_map (λ frame. record { writer = writer; set = set; frame = frame }) (frame_if (frame_at meta bytes)))
    (slice_get config.dataset set)

-- the bytes with the id of their writer, read as a frame of this writer's data set
abbrev pub part_of : Config → ℕ × List ℕ → Option Part
part_of config message = option_and_then (part_for config message.0 message.1) (set_of (sets_of config) message.0)

-- all of them, where each is there
abbrev pub all_of : {X : Type 0} → List (Option X) → Option (List X)
all_of [] = Some []
all_of (None ∷ xs) = None
all_of (Some x ∷ xs) = option_map (λ others. x ∷ others) (all_of xs)

-- so many messages, more than one, have sizes that pass the payload's end, or that do so themselves
abbrev pub are_past : ℕ → List ℕ → Bool
are_past count payload = nat_lt 1 count && nat_lt (length payload) (2 * count + sum (sizes_of count payload))

-- the frames of a payload with the ids of these bytes
abbrev pub listed : Config → List ℕ → List ℕ → Option (List Part)
listed config ids payload =
    if are_past (length (ids_of ids)) payload then None
    else all_of (map (part_of config) (parts_of (ids_of ids) payload))

-- a chunk's payload isn't frames, and without a payload header nothing tells whose they are
abbrev pub parts_for : Config → IdsValue → List ℕ → Option (List Part)
parts_for config NoIds payload = None
parts_for config (ListOf ids) payload = listed config ids payload
parts_for config (ChunkOf id) payload = None

-- ---- datagrams

abbrev pub message_of : Option (List ℕ) → Option (List Part) → Option Message
message_of (Some publisher) (Some parts) = Some (record { publisher = publisher; parts = parts })
message_of (Some publisher) None = None
message_of None parts = None

-- of an unsecured datagram with this header and payload
abbrev pub message_in : Config → HeaderValue → List ℕ → Option Message
message_in config header payload =
    if is_some header.security then None
    else message_of (publisher_of header.publisher) (parts_for config header.ids payload)

abbrev pub message_read : Config → Result (HeaderValue × List ℕ) HeaderFault → Option Message
message_read config (Ok read) = message_in config read.0 read.1
message_read config (Err fault) = None

-- what is transcoded of a datagram: of one that is unsecured, has a list of writer ids of this configuration, and whose parts all
-- read as frames of these writers' data sets
unfoldable pub transcoded : Config → List ℕ → Option Message
transcoded config datagram = message_read config (header_at datagram)

-- ---- lines

-- the line of a message with this number
abbrev pub line : Config → ℕ → Message → List ℕ
line config number message = compact_text (message_json config.dataset number message.publisher message.parts)

-- the lines of messages, of which the first has this number
abbrev pub lines_from : Config → ℕ → List Message → List (List ℕ)
lines_from config number [] = []
lines_from config number (message ∷ messages) = line config number message ∷ lines_from config (number + 1) messages

-- the messages that are transcoded of datagrams, in their order
abbrev pub messages_of : Config → List (List ℕ) → List Message
messages_of config datagrams = filter_map (transcoded config) datagrams

-- their lines, numbered from 0
abbrev pub lines_of : Config → List (List ℕ) → List (List ℕ)
lines_of config datagrams = lines_from config 0 (messages_of config datagrams)

-- how many datagrams are not transcoded
abbrev pub skipped_of : Config → List (List ℕ) → ℕ
skipped_of config datagrams = count_by (λ datagram. is_none (transcoded config datagram)) datagrams
