-- The one spelling of a header that a sender writes (OPC 10000-14 7.2.4.4, UADP NetworkMessage): flags that aren't needed are left out.
use Rattle.std.specs.Prelude.{◌≡◌, ◌≢◌, ℕ, ◌+◌, ◌*◌, ◌/◌, ◌^◌, ◌<◌, ◌≤◌, ⊤, Bool, true, false, is_some, nat_lt, List, [], ◌∷◌, ◌++◌, length, Option, Some, None, IsSome, IfSome, if◌then◌else◌}
use Rattle.std.specs.Int.{w16, w32, w64, to_le_bytes}
use Rattle.std.specs.List.{flat_map}
use Rattle.std.specs.Str.{IsUtf8}
use Rattle.ua_binary.specs.Spelling as binary
use Rattle.ua_binary.specs.Wire.{flag, optional}
use Rattle.uadp_header.specs.Headers.{PublisherValue, U8, U16, U32, U64, Text, IdsValue, NoIds, ListOf, ChunkOf, SecurityValue, HeaderValue}

abbrev pub type_of : PublisherValue → ℕ
type_of (U8 id) = 0
type_of (U16 id) = 1
type_of (U32 id) = 2
type_of (U64 id) = 3
type_of (Text text) = 4

abbrev pub publisher_bytes : PublisherValue → List ℕ
publisher_bytes (U8 id) = id ∷ []
publisher_bytes (U16 id) = to_le_bytes w16 id
publisher_bytes (U32 id) = to_le_bytes w32 id
publisher_bytes (U64 id) = to_le_bytes w64 id
publisher_bytes (Text text) = binary.block text

abbrev pub type_in : Option PublisherValue → ℕ
type_in None = 0
type_in (Some publisher) = type_of publisher

abbrev pub has_ids : IdsValue → Bool
has_ids NoIds = false
has_ids (ListOf bytes) = true
has_ids (ChunkOf id) = true

abbrev pub is_chunk : IdsValue → Bool
is_chunk NoIds = false
is_chunk (ListOf bytes) = false
is_chunk (ChunkOf id) = true

-- a count and the ids, or a chunk's id alone
abbrev pub ids_bytes : IdsValue → List ℕ
ids_bytes NoIds = []
ids_bytes (ListOf bytes) = length bytes / 2 ∷ bytes
ids_bytes (ChunkOf id) = to_le_bytes w16 id

-- ExtendedFlags1 of a publisher of this type, and whether there is a class id, security, and a chunk
abbrev pub extended1_byte : ℕ → Bool → Bool → Bool → ℕ
extended1_byte type class security chunk = type + flag class 0x08 + flag security 0x10 + flag chunk 0x80

-- ExtendedFlags1 where it isn't 0, and ExtendedFlags2 of a chunk
abbrev pub extended_bytes : ℕ → Bool → List ℕ
extended_bytes extended1 chunk = if nat_lt 0 extended1 then extended1 ∷ (if chunk then 1 ∷ [] else []) else []

abbrev pub extended1_in : HeaderValue → ℕ
extended1_in h = extended1_byte (type_in h.publisher) (is_some h.class_id) (is_some h.security) (is_chunk h.ids)

-- version 1, PublisherId and GroupHeader, which are always there, PayloadHeader, ExtendedFlags1
abbrev pub flags_byte : Bool → ℕ → ℕ
flags_byte ids extended1 = 0x31 + flag ids 0x40 + flag (nat_lt 0 extended1) 0x80

unfoldable pub flags_bytes : HeaderValue → List ℕ
flags_bytes h = flags_byte (has_ids h.ids) (extended1_in h) ∷ extended_bytes (extended1_in h) (is_chunk h.ids)

-- GroupFlags; the WriterGroupId is always there
abbrev pub group_flags : HeaderValue → ℕ
group_flags h = 1 + flag (is_some h.version) 2 + flag (is_some h.message_number) 4 + flag (is_some h.sequence) 8

-- GroupFlags and the numbers that they tell of
unfoldable pub group_bytes : HeaderValue → List ℕ
group_bytes h =
    group_flags h ∷ optional (to_le_bytes w16) h.group ++ optional (to_le_bytes w32) h.version
    ++ optional (to_le_bytes w16) h.message_number ++ optional (to_le_bytes w16) h.sequence

-- SecurityFlags
abbrev pub security_flags : SecurityValue → ℕ
security_flags s = flag s.signed 1 + flag s.encrypted 2

-- SecurityFlags, SecurityTokenId, and the nonce behind its length
unfoldable pub security_bytes : SecurityValue → List ℕ
security_bytes s = security_flags s ∷ to_le_bytes w32 s.token ++ length s.nonce ∷ s.nonce

unfoldable pub header_bytes : HeaderValue → List ℕ
header_bytes h =
    flags_bytes h ++ optional publisher_bytes h.publisher ++ optional (λ guid. guid) h.class_id
    ++ group_bytes h ++ ids_bytes h.ids ++ optional security_bytes h.security

-- How many bytes that is: it goes by which parts are there, and by the lengths of a text, of a list of ids and of a nonce. No number counts.
abbrev pub publisher_len : PublisherValue → ℕ
publisher_len (U8 id) = 1
publisher_len (U16 id) = 2
publisher_len (U32 id) = 4
publisher_len (U64 id) = 8
publisher_len (Text text) = 4 + length text

abbrev pub ids_len : IdsValue → ℕ
ids_len NoIds = 0
ids_len (ListOf bytes) = 1 + length bytes
ids_len (ChunkOf id) = 2

abbrev pub len_if : {A : Type 0} → (A → ℕ) → Option A → ℕ
len_if len None = 0
len_if len (Some x) = len x

abbrev pub extended_len : HeaderValue → ℕ
extended_len h = flag (nat_lt 0 (extended1_in h)) 1 + flag (is_chunk h.ids) 1

abbrev pub group_len : HeaderValue → ℕ
group_len h = 1 + flag (is_some h.group) 2 + flag (is_some h.version) 4 + flag (is_some h.message_number) 2 + flag (is_some h.sequence) 2

abbrev pub security_len : SecurityValue → ℕ
security_len s = 6 + length s.nonce

unfoldable pub header_len : HeaderValue → ℕ
header_len h =
    1 + extended_len h + len_if publisher_len h.publisher + flag (is_some h.class_id) 16 + group_len h + ids_len h.ids
    + len_if security_len h.security

-- the header of a message with frames of these writers
abbrev pub of_writers : HeaderValue → List ℕ → HeaderValue
of_writers h ids = record h { ids = ListOf (flat_map (to_le_bytes w16) ids) }

-- both have the same parts, with texts, ids and nonces of the same lengths; their numbers may differ
pub record IsAlike (one other : HeaderValue) : Type 0 where
  pub type : type_in one.publisher ≡ type_in other.publisher
  pub publisher : len_if publisher_len one.publisher ≡ len_if publisher_len other.publisher
  pub class_id : is_some one.class_id ≡ is_some other.class_id
  pub group : is_some one.group ≡ is_some other.group
  pub version : is_some one.version ≡ is_some other.version
  pub message_number : is_some one.message_number ≡ is_some other.message_number
  pub sequence : is_some one.sequence ≡ is_some other.sequence
  pub chunk : is_chunk one.ids ≡ is_chunk other.ids
  pub ids : ids_len one.ids ≡ ids_len other.ids
  pub secured : is_some one.security ≡ is_some other.security
  pub security : len_if security_len one.security ≡ len_if security_len other.security

-- a String's length is an Int32
abbrev pub IsShortText : PublisherValue → Type 0
IsShortText (U8 id) = ⊤
IsShortText (U16 id) = ⊤
IsShortText (U32 id) = ⊤
IsShortText (U64 id) = ⊤
IsShortText (Text text) = length text < 2 ^ 31

-- at most 255 ids of two bytes
abbrev pub AreIds : IdsValue → Type 0
AreIds NoIds = ⊤
AreIds (ListOf bytes) = (length bytes ≤ 510) × (2 * (length bytes / 2) ≡ length bytes)
AreIds (ChunkOf id) = ⊤

-- neither footer nor key reset, and a nonce of eight bytes
pub record IsSendersSecurity (security : SecurityValue) : Type 0 where
  pub no_footer : security.footer ≡ false
  pub no_reset : security.reset ≡ false
  pub nonce : length security.nonce ≡ 8

-- a header as a sender has it
pub record IsSenders (h : HeaderValue) : Type 0 where
  pub publisher : IsSome h.publisher
  pub text : IfSome h.publisher IsShortText
  pub group : IsSome h.group
  pub version : h.version ≢ Some 0
  pub ids : AreIds h.ids
  pub security : IfSome h.security IsSendersSecurity

abbrev pub IsPublisher : PublisherValue → Type 0
IsPublisher (U8 id) = id < 2 ^ 8
IsPublisher (U16 id) = id < 2 ^ 16
IsPublisher (U32 id) = id < 2 ^ 32
IsPublisher (U64 id) = id < 2 ^ 64
IsPublisher (Text text) = IsUtf8 text

abbrev pub IsIds : IdsValue → Type 0
IsIds NoIds = ⊤
IsIds (ListOf bytes) = ⊤
IsIds (ChunkOf id) = id < 2 ^ 16

-- each number is of its type, each text is UTF-8, and a class id has its bytes
pub record IsHeader (h : HeaderValue) : Type 0 where
  pub publisher : IfSome h.publisher IsPublisher
  pub class_id : IfSome h.class_id (λ guid. length guid ≡ 16)
  pub group : IfSome h.group (λ n. n < 2 ^ 16)
  pub version : IfSome h.version (λ n. n < 2 ^ 32)
  pub message_number : IfSome h.message_number (λ n. n < 2 ^ 16)
  pub sequence : IfSome h.sequence (λ n. n < 2 ^ 16)
  pub ids : IsIds h.ids
  pub security : IfSome h.security (λ security. security.token < 2 ^ 32)

-- a sender's header that can be written
pub record IsWritten (h : HeaderValue) : Type 0 where
  pub senders : IsSenders h
  pub header : IsHeader h

-- a header as it is read: a text, ids and a nonce are also as long as their lengths can tell
pub record IsRead (h : HeaderValue) : Type 0 where
  pub header : IsHeader h
  pub text : IfSome h.publisher IsShortText
  pub ids : AreIds h.ids
  pub nonce : IfSome h.security (λ security. length security.nonce < 2 ^ 8)
