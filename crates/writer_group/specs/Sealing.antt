-- A turn's datagrams, of their payloads: each with its header, and protected under a number of its own where the group is secured (Protection).
use Rattle.std.specs.Prelude.{ℕ, zero, suc, ◌+◌, List, [], ◌∷◌, ◌++◌, Option, Some, None}
use Rattle.uadp_header.specs.Headers.{PublisherValue, IdsValue, HeaderValue}
use Rattle.uadp_header.specs.Spelling.{IsWritten, header_bytes}
use Rattle.message_guard.specs.declared.mode.Mode.{Mode}
use Rattle.message_guard.specs.Senders.{SenderState, advanced, front_value, sent}
use Rattle.ps_config.specs.declared.header.HeaderSettings.{HeaderSettings}
use Rattle.writer_group.specs.Envelopes.{numbered_header}
use Rattle.ps_config.specs.declared.parts.Config.{Config}
use Rattle.ps_config.specs.declared.parts.GroupPart.{GroupPart}
use Rattle.ps_config.specs.Headers.{publisher_value, mode_of}
use Rattle.ps_config.specs.Rooms.{header_settings}

-- the ids of a datagram's header, and what stands after the header
abbrev pub Payload : Type 0
Payload = IdsValue × List ℕ

-- the sender once it gave so many fronts of the mode
abbrev pub advanced_by : Mode → SenderState → ℕ → SenderState
advanced_by mode sender zero = sender
advanced_by mode sender (suc count) = advanced mode (advanced_by mode sender count)

-- what all datagrams of a turn have in common: the publisher, the group's settings, and how many datagrams the group made before
pub record Envelope : Type 0 where
  pub publisher : PublisherValue
  pub settings : HeaderSettings
  pub made : ℕ

abbrev pub envelope_with : Config → GroupPart → ℕ → Envelope
envelope_with config part made = record { publisher = publisher_value config.publisher.id; settings = header_settings part; made = made }

-- the header of the turn's datagram with this index, from 0
abbrev pub open_header : Envelope → ℕ → IdsValue → HeaderValue
open_header e index ids =
    numbered_header e.publisher e.settings (record { sequence = e.made + index; message = index + 1; security = None }) ids

abbrev pub secured_header : Envelope → SenderState → ℕ → IdsValue → HeaderValue
secured_header e now index ids =
    numbered_header e.publisher e.settings (record {
      sequence = e.made + index;
      message = index + 1;
      security = Some (front_value (mode_of e.settings.security) now);
    }) ids

-- the datagram, by a sender that just gave its front, if the group has one
abbrev pub open_datagram : Envelope → ℕ → Payload → List ℕ
open_datagram e index payload = header_bytes (open_header e index payload.0) ++ payload.1

abbrev pub secured_datagram : Envelope → SenderState → ℕ → Payload → List ℕ
secured_datagram e now index payload = sent (mode_of e.settings.security) now (header_bytes (secured_header e now index payload.0)) payload.1

-- the datagram with this index, from 0; the sender is the one before the turn
abbrev pub datagram_at : Envelope → Option SenderState → ℕ → Payload → List ℕ
datagram_at e None index payload = open_datagram e index payload
datagram_at e (Some sender) index payload =
    secured_datagram e (advanced_by (mode_of e.settings.security) sender (suc index)) index payload

-- those from this index on
abbrev pub datagrams_from : Envelope → Option SenderState → ℕ → List Payload → List (List ℕ)
datagrams_from e sender index [] = []
datagrams_from e sender index (payload ∷ payloads) =
    datagram_at e sender index payload ∷ datagrams_from e sender (index + 1) payloads

-- the header of the turn's datagram with this index, from 0; the sender is the one before the turn
abbrev pub header_at : Envelope → Option SenderState → ℕ → IdsValue → HeaderValue
header_at e None index ids = open_header e index ids
header_at e (Some sender) index ids = secured_header e (advanced_by (mode_of e.settings.security) sender (suc index)) index ids

-- the headers of a turn's datagrams, from this index on, can be written, and are then read as they are
abbrev pub AreWritten : Envelope → Option SenderState → ℕ → List Payload → Type 0
AreWritten e sender index [] = Unit {0}
AreWritten e sender index (payload ∷ payloads) = IsWritten (header_at e sender index payload.0) × AreWritten e sender (index + 1) payloads
