-- What the headers of a group's datagrams begin with, which stays from turn to turn (OPC 10000-14 7.2.4.4, UADP NetworkMessage).
use Rattle.std.specs.Prelude.{◌≡◌, ℕ, List, [], ◌∷◌, ◌++◌, take, None}
use Rattle.std.specs.Int.{w16, w32, to_le_bytes}
use Rattle.ua_binary.specs.Wire.{optional}
use Rattle.uadp_header.specs.Headers.{PublisherValue, IdsValue, NoIds, ListOf, ChunkOf, HeaderValue}
use Rattle.uadp_header.specs.Spelling.{publisher_bytes, ids_bytes, flags_bytes, group_flags}
use Rattle.ps_config.specs.declared.header.HeaderSettings.{HeaderSettings}
use Rattle.writer_group.specs.declared.lead.Lead.{Lead}
use Rattle.writer_group.specs.declared.leads.Leads.{Leads}
use Rattle.writer_group.specs.declared.load.Load.{Load}
use Rattle.writer_group.specs.declared.load.Load.TheVariants as loads
use Rattle.writer_group.specs.Envelopes.{Numbering, numbered_header}

-- a header up to its GroupVersion
abbrev pub lead_bytes : HeaderValue → List ℕ
lead_bytes h =
    flags_bytes h ++ optional publisher_bytes h.publisher ++ optional (λ guid. guid) h.class_id
    ++ group_flags h ∷ optional (to_le_bytes w16) h.group ++ optional (to_le_bytes w32) h.version

-- what stands after that in a header without security: the numbers and the ids
abbrev pub rest_bytes : HeaderValue → List ℕ
rest_bytes h = optional (to_le_bytes w16) h.message_number ++ optional (to_le_bytes w16) h.sequence ++ ids_bytes h.ids

-- the numbers of a group's first header
abbrev pub first_numbering : Numbering
first_numbering = record { sequence = 0; message = 1; security = None }

-- what that begins with, of a message with these ids
abbrev pub lead_of : PublisherValue → HeaderSettings → IdsValue → List ℕ
lead_of publisher settings ids = lead_bytes (numbered_header publisher settings first_numbering ids)

-- the bytes that are kept of it
abbrev pub lead_text : Lead → List ℕ
lead_text lead = take lead.len lead.bytes

pub record AreLeadsOf (publisher : PublisherValue) (settings : HeaderSettings) (leads : Leads) : Type 0 where
  pub listed : lead_text leads.listed ≡ lead_of publisher settings (ListOf [])
  pub chunk : lead_text leads.chunk ≡ lead_of publisher settings (ChunkOf 0)
  pub slots : lead_text leads.slots ≡ lead_of publisher settings NoIds

-- that of the datagram with this load
abbrev pub lead_in : Leads → Load → List ℕ
lead_in leads (loads.Frames first count) = lead_text leads.listed
lead_in leads (loads.Chunk frame index) = lead_text leads.chunk
lead_in leads loads.Slots = lead_text leads.slots

-- without security the header begins with it
abbrev pub BeginsWith : List ℕ → HeaderValue → Type 0
BeginsWith lead h = h.security ≡ None → lead ≡ lead_bytes h
