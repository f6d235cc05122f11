-- Datagrams one after another.
use Rattle.std.specs.Prelude.{◌≡◌, ℕ, ◌+◌, ◌≤◌, List, [], ◌∷◌, ◌++◌, length, map, All, Option, Some}
use Rattle.uadp_header.specs.Spelling.{header_len, header_bytes}
use Rattle.message_guard.specs.declared.mode.Mode.{Mode}
use Rattle.message_guard.specs.Senders.{SenderState, advanced}
use Rattle.uadp_header.specs.declared.header.SecurityPart.{SecurityPart}
use Rattle.uadp_header.specs.Headers.{HeaderValue, SecurityValue, NoIds, if_there, security_in}
use Rattle.ps_config.specs.Headers.{security_value}
use Rattle.writer_group.specs.Envelopes.{numbered_header}
use Rattle.writer_group.specs.declared.front.Front.{Front}
use Rattle.writer_group.specs.declared.header_parts.HeaderParts.{HeaderParts}
use Rattle.writer_group.specs.declared.laying.Cargo.{Cargo}
use Rattle.writer_group.specs.declared.load.Load.{Load}
use Rattle.writer_group.specs.declared.posting.Range.{Range}
use Rattle.writer_group.specs.Holding.{CargoValue, CanBeWritten, cargo_in, envelope_in, payload_in, numbering_of}
use Rattle.writer_group.specs.Leads.{AreLeadsOf}
use Rattle.writer_group.specs.Loading.{IsCargo, IsLoad}
use Rattle.writer_group.specs.Sealing.{Envelope, datagrams_from, open_datagram, secured_datagram, secured_header}
use Rattle.writer_group.specs.Limits.{most_datagrams}
use Rattle.writer_group.specs.Numbers.{front_in}

abbrev pub open_load : Envelope → ℕ → CargoValue → Load → List ℕ
open_load envelope index cargo load = open_datagram envelope index (payload_in cargo load)

abbrev pub secured_load : Envelope → SenderState → ℕ → CargoValue → Load → List ℕ
secured_load envelope now index cargo load = secured_datagram envelope now index (payload_in cargo load)

-- the header of the datagram with this load and index, and the datagram without its signature
abbrev pub load_header : Envelope → ℕ → CargoValue → Load → Option SecurityValue → HeaderValue
load_header envelope index cargo load security =
    numbered_header envelope.publisher envelope.settings (numbering_of envelope index security) (payload_in cargo load).0

abbrev pub laid_load : Envelope → ℕ → CargoValue → Load → Option SecurityValue → List ℕ
laid_load envelope index cargo load security = header_bytes (load_header envelope index cargo load security) ++ (payload_in cargo load).1

-- the datagrams with these loads
abbrev pub made_of : Envelope → Option SenderState → CargoValue → List Load → List (List ℕ)
made_of envelope sender cargo loads = datagrams_from envelope sender 0 (map (payload_in cargo) loads)

-- a header in front of slots, with its numbers 0
abbrev pub slots_header : Envelope → HeaderValue
slots_header envelope =
    numbered_header envelope.publisher envelope.settings
    (record { sequence = 0; message = 0; security = security_value envelope.settings.security }) NoIds

-- the loads are of what the datagrams carry, slots begin after the header, and the leads are those of the headers
pub record MayPost (envelope : Envelope) (cargo : Cargo) (loads : List Load) : Type 0 where
  pub cargo_is : IsCargo cargo
  pub loads_are : All (IsLoad (cargo_in cargo)) loads
  pub few : length loads ≤ most_datagrams
  pub start : header_len (slots_header envelope) ≡ (cargo_in cargo).start
  pub publisher : CanBeWritten envelope.publisher
  pub leads : AreLeadsOf envelope.publisher envelope.settings cargo.leads.now

abbrev pub joined : List (List ℕ) → List ℕ
joined [] = []
joined (datagram ∷ datagrams) = datagram ++ joined datagrams

-- where each stands, the first from this byte on
abbrev pub ranges_of : ℕ → List (List ℕ) → List Range
ranges_of start [] = []
ranges_of start (datagram ∷ datagrams) =
    record { start = start; end = start + length datagram } ∷ ranges_of (start + length datagram) datagrams

-- ---- the datagrams as the parts of their headers and what they carry stand in memory

-- those with these loads
abbrev pub made_by : HeaderParts → Option SenderState → Cargo → List Load → List (List ℕ)
made_by parts sender cargo loads = made_of (envelope_in parts) sender (cargo_in cargo) loads

-- the one with this index and load, under the sender's next front, and its header
abbrev pub secured_by : HeaderParts → Mode → SenderState → ℕ → Cargo → Load → List ℕ
secured_by parts mode sender index cargo load = secured_load (envelope_in parts) (advanced mode sender) index (cargo_in cargo) load

abbrev pub secured_header_by : HeaderParts → Mode → SenderState → ℕ → Cargo → Load → HeaderValue
secured_header_by parts mode sender index cargo load = secured_header (envelope_in parts) (advanced mode sender) index (payload_in (cargo_in cargo) load).0

-- the one with this index and load before its signature, its header, and the header's bytes
abbrev pub laid_by : HeaderParts → ℕ → Cargo → Load → Option SecurityValue → List ℕ
laid_by parts index cargo load security = laid_load (envelope_in parts) index (cargo_in cargo) load security

abbrev pub load_header_by : HeaderParts → ℕ → Cargo → Load → Option SecurityValue → HeaderValue
load_header_by parts index cargo load security = load_header (envelope_in parts) index (cargo_in cargo) load security

abbrev pub head_by : HeaderParts → ℕ → Cargo → Load → Option SecurityValue → List ℕ
head_by parts index cargo load security = header_bytes (load_header_by parts index cargo load security)

-- what the front of a sender says in a security header, and what a security header says, if there is one
abbrev pub front_of : Front → Option SecurityValue
front_of front = Some (front_in front)

abbrev pub security_of : Option SecurityPart → Option SecurityValue
security_of security = if_there security_in security
