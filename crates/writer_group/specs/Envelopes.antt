-- The headers of a group's datagrams with their numbers (OPC 10000-14 7.2.4.4, UADP NetworkMessage), and the room that they leave.
use Rattle.std.specs.Prelude.{◌≡◌, is_some, ℕ, ◌+◌, ◌-◌, Bool, [], ◌∷◌, Option, Some, None, if◌then◌else◌}
use Rattle.seq_number.specs.Numbers.{number_of_place}
use Rattle.uadp_header.specs.Headers.{PublisherValue, IdsValue, SecurityValue, HeaderValue}
use Rattle.uadp_header.specs.Spelling.{len_if, security_len}
use Rattle.config_tables.specs.declared.publisher.Publisher.{Publisher}
use Rattle.ps_config.specs.declared.header.HeaderSettings.{HeaderSettings}
use Rattle.ps_config.specs.declared.parts.GroupPart.{GroupPart}
use Rattle.ps_config.specs.Headers.{version_value, security_value, signature_len}
use Rattle.ps_config.specs.Rooms.{frame_header}

-- a number that is carried, 16 bits of it, or none
abbrev pub number_if : Bool → ℕ → Option ℕ
number_if holds number = if holds then Some (number_of_place number) else None

-- what stands in one datagram alone: its places in the group's datagrams and in its turn's, the first from 0 and the second from 1 (SequenceNumber and
-- NetworkMessageNumber), and its security header
pub record Numbering : Type 0 where
  pub sequence : ℕ
  pub message : ℕ
  pub security : Option SecurityValue

abbrev pub numbered_header : PublisherValue → HeaderSettings → Numbering → IdsValue → HeaderValue
numbered_header publisher settings numbering ids = record {
  publisher = Some publisher;
  class_id = settings.class_id;
  group = Some settings.id;
  version = version_value settings.version;
  message_number = number_if settings.message_number numbering.message;
  sequence = number_if settings.sequence numbering.sequence;
  ids = ids;
  security = numbering.security;
}

-- what a datagram has for its payload, with one writer id in its header; each further id takes two bytes of it
abbrev pub frame_room : Publisher → GroupPart → ℕ
frame_room publisher group = group.max_size - (frame_header publisher group (0 ∷ 0 ∷ []) + signature_len group.security)

-- a security header as long as the group's settings say
pub record IsSecuredAs (settings : HeaderSettings) (security : Option SecurityValue) : Type 0 where
  pub there : is_some security ≡ is_some (security_value settings.security)
  pub long : len_if security_len security ≡ len_if security_len (security_value settings.security)
