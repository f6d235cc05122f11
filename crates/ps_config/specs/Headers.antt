-- The headers of a group's datagrams (OPC 10000-14 7.2.4.4, UADP NetworkMessage), as its settings tell them.
use Rattle.std.specs.Prelude.{ℕ, ◌≤◌, ◌==◌, Bool, true, false, replicate, Option, Some, None, if◌then◌else◌}
use Rattle.uadp_header.specs.Headers.{PublisherValue, U8, U16, U32, U64, Text, IdsValue, NoIds, ChunkOf, SecurityValue, HeaderValue}
use Rattle.uadp_header.specs.Spelling.{publisher_len}
use Rattle.message_guard.specs.declared.mode.Mode.{Mode}
use Rattle.message_guard.specs.declared.mode.Mode.TheVariants as modes
use Rattle.config_tables.specs.declared.publisher.Publisher.{Publisher}
use Rattle.config_tables.specs.declared.publisher.Publisher.TheVariants as publisher
use Rattle.config_tables.specs.declared.words.Security.{Security}
use Rattle.config_tables.specs.declared.words.Security.TheVariants as security
use Rattle.ps_config.specs.declared.header.HeaderSettings.{HeaderSettings}

abbrev pub publisher_value : Publisher → PublisherValue
publisher_value (publisher.U8 id) = U8 id
publisher_value (publisher.U16 id) = U16 id
publisher_value (publisher.U32 id) = U32 id
publisher_value (publisher.U64 id) = U64 id
publisher_value (publisher.Text text) = Text text

-- a PublisherId of at most 68 bytes: those of a text are at most 64, after the four of its length
abbrev pub IsShortId : Publisher → Type 0
IsShortId publisher = publisher_len (publisher_value publisher) ≤ 68

abbrev pub is_secured : Security → Bool
is_secured security.None = false
is_secured security.Sign = true
is_secured security.Encrypt = true

abbrev pub is_encrypted : Security → Bool
is_encrypted security.None = false
is_encrypted security.Sign = false
is_encrypted security.Encrypt = true

-- what a guard does to the datagrams of a group with this security (OPC 10000-14, MessageSecurityMode)
abbrev pub mode_of : Security → Mode
mode_of security.None = modes.None
mode_of security.Sign = modes.Sign
mode_of security.Encrypt = modes.Encrypt

-- signed, with a nonce of 8 bytes
abbrev pub security_value : Security → Option SecurityValue
security_value security =
    if is_secured security
    then Some (record {
      signed = true;
      encrypted = is_encrypted security;
      footer = false;
      reset = false;
      token = 0;
      nonce = replicate 8 0;
    })
    else None

abbrev pub zero_if : Bool → Option ℕ
zero_if holds = if holds then Some 0 else None

-- a GroupVersion is carried where it isn't 0
abbrev pub version_value : ℕ → Option ℕ
version_value version = if version == 0 then None else Some version

-- the payload header of a chunk, whose writer has id 0 here, or none
abbrev pub ids_of : Bool → IdsValue
ids_of is_chunk = if is_chunk then ChunkOf 0 else NoIds

-- a header with these ids; its message number, sequence number, token and nonce are 0
abbrev pub header_of : Publisher → HeaderSettings → IdsValue → HeaderValue
header_of publisher settings ids = record {
  publisher = Some (publisher_value publisher);
  class_id = settings.class_id;
  group = Some settings.id;
  version = version_value settings.version;
  message_number = zero_if settings.message_number;
  sequence = zero_if settings.sequence;
  ids = ids;
  security = security_value settings.security;
}

-- the bytes of a signature after the payload (HMAC-SHA-256)
abbrev pub signature_len : Security → ℕ
signature_len security = if is_secured security then 32 else 0
