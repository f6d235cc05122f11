-- Headers as they stand on the wire, with the parts that are read past (OPC 10000-14 7.2.4.4, UADP NetworkMessage): the flags and the parts in the order of the standard's table. Numbers are little-endian.
use Rattle.std.specs.Prelude.{◌≡◌, ℕ, ◌+◌, ◌^◌, ◌<◌, ◌≤◌, ⊤, Bool, true, false, List, [], ◌∷◌, ◌++◌, length, Option, Some, None, is_some, nat_lt, IfSome, if◌then◌else◌}
use Rattle.std.specs.List.{All, flat_map}
use Rattle.std.specs.Int.{w16, w32, w64, to_le_bytes}
use Rattle.ua_binary.specs.Wire.{flag, optional}
use Rattle.uadp_header.specs.Headers.{PublisherValue, Text, IdsValue, NoIds, ListOf, ChunkOf, SecurityValue, GroupValue, no_group, HeaderValue, if_there, ids_of}
use Rattle.uadp_header.specs.Spelling.{type_of, type_in, extended1_in, publisher_bytes, IsPublisher, IsShortText}

-- a PublisherId; a String's length -1 is the null String, which is read as empty
pub data WirePublisher : Type 0 where
  Given : (id : PublisherValue) → WirePublisher
  NullText : WirePublisher

-- the PayloadHeader: none, a list of writer ids, or the id of a chunk's writer
pub data WireIds : Type 0 where
  NoPayloadHeader : WireIds
  Listed : (ids : List ℕ) → WireIds
  OfChunk : (id : ℕ) → WireIds

-- the SecurityHeader; the footer's size is there with the footer
pub record WireSecurity : Type 0 where
  pub signed : Bool
  pub encrypted : Bool
  pub reset : Bool
  pub token : ℕ
  pub nonce : List ℕ
  pub footer_size : Option ℕ

-- A header. `has_extended1` and `has_extended2` say that ExtendedFlags1 and ExtendedFlags2 are there; the type of a PublisherId is there without one too.
pub record WireHeader : Type 0 where
  pub has_extended1 : Bool
  pub has_extended2 : Bool
  pub id_type : ℕ
  pub publisher : Option WirePublisher
  pub class_id : Option (List ℕ)
  pub group : Option GroupValue
  pub ids : WireIds
  pub timestamp : Option ℕ
  pub picoseconds : Option ℕ
  pub promoted : Option (List ℕ)
  pub security : Option WireSecurity

abbrev pub has_ids : WireIds → Bool
has_ids NoPayloadHeader = false
has_ids (Listed ids) = true
has_ids (OfChunk id) = true

abbrev pub is_chunk : WireIds → Bool
is_chunk NoPayloadHeader = false
is_chunk (Listed ids) = false
is_chunk (OfChunk id) = true

-- the flags: bits 0 to 3 version 1, 4 PublisherId, 5 GroupHeader, 6 PayloadHeader, 7 ExtendedFlags1
abbrev pub flags : WireHeader → ℕ
flags wire = 1 + flag (is_some wire.publisher) 0x10 + flag (is_some wire.group) 0x20 + flag (has_ids wire.ids) 0x40 + flag wire.has_extended1 0x80

-- ExtendedFlags1: bits 0 to 2 PublisherId type, 3 DataSetClassId, 4 security, 5 timestamp, 6 picoseconds, 7 ExtendedFlags2
abbrev pub extended1 : WireHeader → ℕ
extended1 wire =
    wire.id_type + flag (is_some wire.class_id) 0x08 + flag (is_some wire.security) 0x10 + flag (is_some wire.timestamp) 0x20
    + flag (is_some wire.picoseconds) 0x40 + flag wire.has_extended2 0x80

-- ExtendedFlags2: bit 0 chunk, 1 promoted fields; the type of a DataSet message is 0
abbrev pub extended2 : WireHeader → ℕ
extended2 wire = flag (is_chunk wire.ids) 0x01 + flag (is_some wire.promoted) 0x02

-- a flags byte that isn't always there
abbrev pub byte_if : Bool → ℕ → List ℕ
byte_if there byte = if there then byte ∷ [] else []

-- by its type: a Byte, a UInt16, a UInt32, a UInt64, or a String behind its Int32 length
abbrev pub publisher_as : WirePublisher → List ℕ
publisher_as (Given id) = publisher_bytes id
publisher_as NullText = 0xff ∷ 0xff ∷ 0xff ∷ 0xff ∷ []

-- GroupFlags: bit 0 WriterGroupId, 1 GroupVersion, 2 NetworkMessageNumber, 3 SequenceNumber; a UInt16, a UInt32, and two UInt16
abbrev pub group_flags : GroupValue → ℕ
group_flags group =
    flag (is_some group.id) 0x01 + flag (is_some group.version) 0x02 + flag (is_some group.message_number) 0x04 + flag (is_some group.sequence) 0x08

unfoldable pub group_as : GroupValue → List ℕ
group_as group =
    group_flags group ∷ optional (to_le_bytes w16) group.id ++ optional (to_le_bytes w32) group.version
    ++ optional (to_le_bytes w16) group.message_number ++ optional (to_le_bytes w16) group.sequence

-- a Byte count and that many UInt16; in a chunk one UInt16
abbrev pub ids_as : WireIds → List ℕ
ids_as NoPayloadHeader = []
ids_as (Listed ids) = length ids ∷ flat_map (to_le_bytes w16) ids
ids_as (OfChunk id) = to_le_bytes w16 id

-- a UInt16 size and that many bytes
abbrev pub promoted_as : List ℕ → List ℕ
promoted_as fields = to_le_bytes w16 (length fields) ++ fields

-- SecurityFlags: bit 0 signed, 1 encrypted, 2 security footer, 3 force key reset
abbrev pub security_flags : WireSecurity → ℕ
security_flags security =
    flag security.signed 0x01 + flag security.encrypted 0x02 + flag (is_some security.footer_size) 0x04 + flag security.reset 0x08

-- SecurityFlags, the SecurityTokenId, a UInt32, the nonce behind its Byte length, and the footer's UInt16 size
unfoldable pub security_as : WireSecurity → List ℕ
security_as security =
    security_flags security ∷ to_le_bytes w32 security.token ++ (length security.nonce ∷ security.nonce)
    ++ optional (to_le_bytes w16) security.footer_size

-- the flags and the parts: the timestamp is a DateTime, 8 bytes, its picoseconds are a UInt16
unfoldable pub wire_bytes : WireHeader → List ℕ
wire_bytes wire =
    (flags wire ∷ []) ++ byte_if wire.has_extended1 (extended1 wire) ++ byte_if wire.has_extended2 (extended2 wire)
    ++ optional publisher_as wire.publisher ++ optional (λ guid. guid) wire.class_id ++ optional group_as wire.group ++ ids_as wire.ids
    ++ optional (to_le_bytes w64) wire.timestamp ++ optional (to_le_bytes w16) wire.picoseconds ++ optional promoted_as wire.promoted
    ++ optional security_as wire.security

-- what it tells: timestamp, picoseconds, promoted fields and the footer's size are read past
abbrev pub publisher_read : WirePublisher → PublisherValue
publisher_read (Given id) = id
publisher_read NullText = Text []

abbrev pub group_read : Option GroupValue → GroupValue
group_read None = no_group
group_read (Some group) = group

abbrev pub ids_read : WireIds → IdsValue
ids_read NoPayloadHeader = NoIds
ids_read (Listed ids) = ListOf (flat_map (to_le_bytes w16) ids)
ids_read (OfChunk id) = ChunkOf id

abbrev pub security_read : WireSecurity → SecurityValue
security_read s = record { signed = s.signed; encrypted = s.encrypted; footer = is_some s.footer_size; reset = s.reset; token = s.token; nonce = s.nonce }

abbrev pub header_read : WireHeader → HeaderValue
header_read wire = record {
  publisher = if_there publisher_read wire.publisher;
  class_id = wire.class_id;
  group = (group_read wire.group).id;
  version = (group_read wire.group).version;
  message_number = (group_read wire.group).message_number;
  sequence = (group_read wire.group).sequence;
  ids = ids_read wire.ids;
  security = if_there security_read wire.security;
}

-- a number of its type, or a text that is UTF-8 and has an Int32 length
abbrev pub IsWirePublisher : WirePublisher → Type 0
IsWirePublisher publisher = IsPublisher (publisher_read publisher) × IsShortText (publisher_read publisher)

pub record IsWireGroup (group : GroupValue) : Type 0 where
  pub id : IfSome group.id (λ n. n < 2 ^ 16)
  pub version : IfSome group.version (λ n. n < 2 ^ 32)
  pub message_number : IfSome group.message_number (λ n. n < 2 ^ 16)
  pub sequence : IfSome group.sequence (λ n. n < 2 ^ 16)

abbrev pub AreWireIds : WireIds → Type 0
AreWireIds NoPayloadHeader = ⊤
AreWireIds (Listed ids) = (length ids < 2 ^ 8) × All (λ id. id < 2 ^ 16) ids
AreWireIds (OfChunk id) = id < 2 ^ 16

pub record IsWireSecurity (security : WireSecurity) : Type 0 where
  pub token : security.token < 2 ^ 32
  pub nonce : length security.nonce < 2 ^ 8
  pub footer_size : IfSome security.footer_size (λ n. n < 2 ^ 16)

-- Flags that are left out are 0. The type of a PublisherId is one of five, and that of the id.
pub record IsWireHeader (wire : WireHeader) : Type 0 where
  pub no_extended1 : wire.has_extended1 ≡ false → extended1 wire ≡ 0
  pub no_extended2 : wire.has_extended2 ≡ false → extended2 wire ≡ 0
  pub id_type : wire.id_type ≤ 4
  pub type_is : IfSome wire.publisher (λ publisher. type_of (publisher_read publisher) ≡ wire.id_type)
  pub publisher : IfSome wire.publisher IsWirePublisher
  pub class_id : IfSome wire.class_id (λ guid. length guid ≡ 16)
  pub group : IfSome wire.group IsWireGroup
  pub ids : AreWireIds wire.ids
  pub timestamp : IfSome wire.timestamp (λ n. n < 2 ^ 64)
  pub picoseconds : IfSome wire.picoseconds (λ n. n < 2 ^ 16)
  pub promoted : IfSome wire.promoted (λ fields. length fields < 2 ^ 16)
  pub security : IfSome wire.security IsWireSecurity

-- The header that a sender writes: ExtendedFlags1 where it isn't 0, ExtendedFlags2 for a chunk, and nothing that is read past.
abbrev pub ids_sent : IdsValue → WireIds
ids_sent NoIds = NoPayloadHeader
ids_sent (ListOf bytes) = Listed (ids_of bytes)
ids_sent (ChunkOf id) = OfChunk id

abbrev pub security_sent : SecurityValue → WireSecurity
security_sent s = record { signed = s.signed; encrypted = s.encrypted; reset = false; token = s.token; nonce = s.nonce; footer_size = None }

abbrev pub header_sent : HeaderValue → WireHeader
header_sent h = record {
  has_extended1 = nat_lt 0 (extended1_in h);
  has_extended2 = is_chunk (ids_sent h.ids);
  id_type = type_in h.publisher;
  publisher = if_there Given h.publisher;
  class_id = h.class_id;
  group = Some (record { id = h.group; version = h.version; message_number = h.message_number; sequence = h.sequence });
  ids = ids_sent h.ids;
  timestamp = None;
  picoseconds = None;
  promoted = None;
  security = if_there security_sent h.security;
}

-- a list of ids is one of bytes
abbrev pub HasIdBytes : IdsValue → Type 0
HasIdBytes NoIds = ⊤
HasIdBytes (ListOf bytes) = All (λ byte. byte < 256) bytes
HasIdBytes (ChunkOf id) = ⊤

-- a header that tells this stands in front of this rest
pub record BeginsWithHeader (bytes : List ℕ) (header : HeaderValue) (rest : List ℕ) : Type 0 where
  pub wire : WireHeader
  pub is_wire : IsWireHeader wire
  pub meaning : header_read wire ≡ header
  pub split : bytes ≡ wire_bytes wire ++ rest
