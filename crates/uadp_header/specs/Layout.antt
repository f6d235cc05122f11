-- The layout of a NetworkMessage's header (OPC 10000-14 7.2.4.4, UADP NetworkMessage), part after part.
use Rattle.std.specs.Prelude.{ℕ, ℤ, pos, negsuc, zero, suc, ◌*◌, ◌/◌, ◌%◌, ◌==◌, Bool, not, ◌&&◌, ◌||◌, nat_lt, List, slice_index, Option, Some, None, Result, Ok, Err, if◌then◌else◌}
use Rattle.std.specs.Int.{Width, w16, w32, w64, byte_len, from_le_bytes, cast_signed}
use Rattle.std.specs.Str.{is_utf8}
use Rattle.ua_binary.specs.ReadingValues.{has}
use Rattle.uadp_header.specs.declared.fault.HeaderFault.{HeaderFault}
use Rattle.uadp_header.specs.declared.fault.HeaderFault.TheVariants.{Version, DiscoveryOut, BadPublisherType, ReservedBits, BadId}
use Rattle.uadp_header.specs.Formats.{Format, Told, Part, ◌>>=◌, read}
use Rattle.uadp_header.specs.Headers.{PublisherValue, U8, U16, U32, U64, Text, IdsValue, NoIds, ListOf, ChunkOf, SecurityValue, GroupValue, no_group, HeaderValue}

-- a byte that is refused for some values
unfoldable pub byte : (ℕ → Option HeaderFault) → Format ℕ
byte refused = Part 1 (λ part. refused (slice_index part 0)) (λ part. Told (slice_index part 0))

abbrev pub any_byte : ℕ → Option HeaderFault
any_byte n = None

-- a little-endian number
unfoldable pub number : Width → Format ℕ
number w = Part (byte_len w) (λ part. None) (λ part. Told (from_le_bytes w part))

-- so many bytes
unfoldable pub block : ℕ → Format (List ℕ)
block len = Part len (λ part. None) Told

-- a part that isn't always there
unfoldable pub when : {A : Type 0} → Bool → Format A → Format (Option A)
when there format = if there then (format >>= λ told. Told (Some told)) else Told None

-- flags that aren't always there, and are 0 where they aren't
unfoldable pub byte_when : Bool → (ℕ → Option HeaderFault) → Format ℕ
byte_when there refused = if there then byte refused else Told 0

-- the flags: bits 0 to 3 version, 4 PublisherId, 5 GroupHeader, 6 PayloadHeader, 7 ExtendedFlags1
abbrev pub flags_fault : ℕ → Option HeaderFault
flags_fault flags = if flags % 16 == 1 then None else Some (Version (flags % 16))

-- ExtendedFlags1: bits 0 to 2 PublisherId type, 3 DataSetClassId, 4 security, 5 timestamp, 6 picoseconds, 7 ExtendedFlags2
abbrev pub extended1_fault : ℕ → Option HeaderFault
extended1_fault extended1 = if nat_lt 4 (extended1 % 8) then Some BadPublisherType else None

-- the message type in ExtendedFlags2: 0 DataSetMessages, 1 a discovery probe, 2 a discovery announcement
abbrev pub message_type : ℕ → ℕ
message_type extended2 = extended2 / 4 % 8

-- ExtendedFlags2: bit 0 chunk, 1 promoted fields, 2 to 4 message type
abbrev pub extended2_fault : ℕ → ℕ → Option HeaderFault
extended2_fault flags extended2 =
    if message_type extended2 == 1 || message_type extended2 == 2 then Some DiscoveryOut
    else if nat_lt 2 (message_type extended2) || has extended2 0xe0 || (has extended2 0x01 && not (has flags 0x40)) then Some ReservedBits
    else None

-- the upper four bits of GroupFlags and of SecurityFlags
abbrev pub reserved_fault : ℕ → Option HeaderFault
reserved_fault flags = if has flags 0xf0 then Some ReservedBits else None

-- the length of a String: -1 is the null String, which is empty here
abbrev pub text_len : ℤ → Result ℕ HeaderFault
text_len (pos n) = Ok n
text_len (negsuc zero) = Ok 0
text_len (negsuc (suc n)) = Err BadId

abbrev pub fault_in : {A : Type 0} → Result A HeaderFault → Option HeaderFault
fault_in (Ok x) = None
fault_in (Err fault) = Some fault

abbrev pub told_in : Result ℕ HeaderFault → ℕ
told_in (Ok n) = n
told_in (Err fault) = 0

abbrev pub len_in : List ℕ → Result ℕ HeaderFault
len_in part = text_len (cast_signed w32 (from_le_bytes w32 part))

abbrev pub utf8_fault : List ℕ → Option HeaderFault
utf8_fault text = if is_utf8 text then None else Some BadId

-- an Int32 length and that many bytes, which are UTF-8
unfoldable pub text : Format (List ℕ)
text = Part 4 (λ part. fault_in (len_in part)) (λ part. Told (told_in (len_in part))) >>= λ len. Part len utf8_fault Told

-- a PublisherId of this type
unfoldable pub publisher_id : ℕ → Format PublisherValue
publisher_id type =
    if type == 0 then (byte any_byte >>= λ id. Told (U8 id))
    else if type == 1 then (number w16 >>= λ id. Told (U16 id))
    else if type == 2 then (number w32 >>= λ id. Told (U32 id))
    else if type == 3 then (number w64 >>= λ id. Told (U64 id))
    else (text >>= λ id. Told (Text id))

-- GroupFlags: bit 0 WriterGroupId, 1 GroupVersion, 2 NetworkMessageNumber, 3 SequenceNumber
unfoldable pub group_numbers : ℕ → Format GroupValue
group_numbers flags = do
  id ← when (has flags 0x01) (number w16)
  version ← when (has flags 0x02) (number w32)
  message_number ← when (has flags 0x04) (number w16)
  sequence ← when (has flags 0x08) (number w16)
  Told (record { id = id; version = version; message_number = message_number; sequence = sequence })

unfoldable pub group_when : Bool → Format GroupValue
group_when there = if there then (byte reserved_fault >>= group_numbers) else Told no_group

-- the PayloadHeader: a count and so many ids of two bytes, or, in a chunk, the id of its writer
unfoldable pub payload_header : Bool → Format IdsValue
payload_header chunk =
    if chunk then (number w16 >>= λ id. Told (ChunkOf id))
    else (byte any_byte >>= λ count. block (2 * count) >>= λ ids. Told (ListOf ids))

unfoldable pub ids_when : Bool → Bool → Format IdsValue
ids_when there chunk = if there then payload_header chunk else Told NoIds

-- the timestamp, its picoseconds, and the promoted fields behind their size
unfoldable pub extras : ℕ → ℕ → Format (Unit {0})
extras extended1 extended2 = do
  timestamp ← when (has extended1 0x20) (block 8)
  picoseconds ← when (has extended1 0x40) (block 2)
  promoted ← when (has extended2 0x02) (number w16 >>= block)
  Told tt

-- SecurityFlags: bit 0 signed, 1 encrypted, 2 security footer, 3 force key reset; the footer's size stands last
unfoldable pub security_header : Format SecurityValue
security_header = do
  flags ← byte reserved_fault
  token ← number w32
  len ← byte any_byte
  nonce ← block len
  footer_size ← when (has flags 0x04) (number w16)
  Told (record { signed = has flags 0x01; encrypted = has flags 0x02; footer = has flags 0x04; reset = has flags 0x08; token = token; nonce = nonce })

abbrev pub header_of : Option PublisherValue → Option (List ℕ) → GroupValue → IdsValue → Option SecurityValue → HeaderValue
header_of publisher class_id group ids security = record {
  publisher = publisher;
  class_id = class_id;
  group = group.id;
  version = group.version;
  message_number = group.message_number;
  sequence = group.sequence;
  ids = ids;
  security = security;
}

-- all parts behind the flags
unfoldable pub parts : ℕ → ℕ → ℕ → Format HeaderValue
parts flags extended1 extended2 = do
  publisher ← when (has flags 0x10) (publisher_id (extended1 % 8))
  class_id ← when (has extended1 0x08) (block 16)
  group ← group_when (has flags 0x20)
  ids ← ids_when (has flags 0x40) (has extended2 0x01)
  passed ← extras extended1 extended2
  security ← when (has extended1 0x10) security_header
  Told (header_of publisher class_id group ids security)

-- a header
unfoldable pub header : Format HeaderValue
header = do
  flags ← byte flags_fault
  extended1 ← byte_when (has flags 0x80) extended1_fault
  extended2 ← byte_when (has extended1 0x80) (extended2_fault flags)
  parts flags extended1 extended2

-- The header that the bytes begin with and the payload behind it, or the fault of the first part that fails.
unfoldable pub header_at : List ℕ → Result (HeaderValue × List ℕ) HeaderFault
header_at bytes = read header bytes
