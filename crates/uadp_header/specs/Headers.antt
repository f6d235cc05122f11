-- What a header tells (OPC 10000-14 7.2.4.4, UADP NetworkMessage). Here a text and a list are their bytes.
use Rattle.std.specs.Prelude.{ℕ, Bool, List, [], ◌∷◌, Option, Some, None}
use Rattle.std.specs.Int.{w16, from_le_bytes}
use Rattle.uadp_header.specs.declared.header.PublisherId.{PublisherId}
use Rattle.uadp_header.specs.declared.header.PublisherId.TheVariants as publishers
use Rattle.uadp_header.specs.declared.header.Ids.{Ids}
use Rattle.uadp_header.specs.declared.header.Ids.TheVariants as ids
use Rattle.uadp_header.specs.declared.header.SecurityPart.{SecurityPart}
use Rattle.uadp_header.specs.declared.header.Header.{Header}

pub data PublisherValue : Type 0 where
  U8 : (id : ℕ) → PublisherValue
  U16 : (id : ℕ) → PublisherValue
  U32 : (id : ℕ) → PublisherValue
  U64 : (id : ℕ) → PublisherValue
  Text : (text : List ℕ) → PublisherValue

-- no payload header, the bytes of a list of ids, or the id of a chunk's writer
pub data IdsValue : Type 0 where
  NoIds : IdsValue
  ListOf : (bytes : List ℕ) → IdsValue
  ChunkOf : (id : ℕ) → IdsValue

pub record SecurityValue : Type 0 where
  pub signed : Bool
  pub encrypted : Bool
  pub footer : Bool
  pub reset : Bool
  pub token : ℕ
  pub nonce : List ℕ

-- what a GroupHeader tells; nothing where it isn't there
pub record GroupValue : Type 0 where
  pub id : Option ℕ
  pub version : Option ℕ
  pub message_number : Option ℕ
  pub sequence : Option ℕ

abbrev pub no_group : GroupValue
no_group = record { id = None; version = None; message_number = None; sequence = None }

pub record HeaderValue : Type 0 where
  pub publisher : Option PublisherValue
  pub class_id : Option (List ℕ)
  pub group : Option ℕ
  pub version : Option ℕ
  pub message_number : Option ℕ
  pub sequence : Option ℕ
  pub ids : IdsValue
  pub security : Option SecurityValue

-- the writer ids that a list of bytes is: a UInt16 for each two bytes, little-endian
abbrev pub ids_of : List ℕ → List ℕ
ids_of [] = []
ids_of (low ∷ []) = []
ids_of (low ∷ high ∷ bytes) = from_le_bytes w16 (low ∷ high ∷ []) ∷ ids_of bytes

-- the ids of a payload header
abbrev pub ids_list : IdsValue → List ℕ
ids_list NoIds = []
ids_list (ListOf bytes) = ids_of bytes
ids_list (ChunkOf id) = id ∷ []

-- what the values of the program stand for
abbrev pub publisher_in : PublisherId → PublisherValue
publisher_in (publishers.U8 id) = U8 id
publisher_in (publishers.U16 id) = U16 id
publisher_in (publishers.U32 id) = U32 id
publisher_in (publishers.U64 id) = U64 id
publisher_in (publishers.Text text) = Text text.now

abbrev pub ids_in : Ids → IdsValue
ids_in ids.None = NoIds
ids_in (ids.List bytes) = ListOf bytes.now
ids_in (ids.Chunk id) = ChunkOf id

abbrev pub security_in : SecurityPart → SecurityValue
security_in s = record { signed = s.signed; encrypted = s.encrypted; footer = s.footer; reset = s.reset; token = s.token; nonce = s.nonce.now }

abbrev pub if_there : {A B : Type 0} → (A → B) → Option A → Option B
if_there f None = None
if_there f (Some x) = Some (f x)

abbrev pub header_in : Header → HeaderValue
header_in h = record {
  publisher = if_there publisher_in h.publisher;
  class_id = h.class_id;
  group = h.group;
  version = h.version;
  message_number = h.message_number;
  sequence = h.sequence;
  ids = ids_in h.ids;
  security = if_there security_in h.security;
}
