-- Each datagram of a turn has a byte: its header's first.
use Rattle.std.proofs.Common.{ℕ, suc, ◌+◌, ◌<◌, List, [], ◌∷◌, length, arith, Option, Some, None, All}
use Rattle.std.proofs.lemmas.List.{length-append}
use Rattle.std.proofs.lemmas.List.Elements.{All-cons, All-nil}
use Rattle.uadp_header.specs.Headers.{HeaderValue}
use Rattle.uadp_header.specs.Spelling.{flags_bytes, header_bytes}
use Rattle.message_guard.specs.Senders.{SenderState}
use Rattle.ps_config.specs.declared.parts.Config.{Config}
use Rattle.ps_config.specs.declared.parts.GroupPart.{GroupPart}
use Rattle.ps_config.specs.Headers.{mode_of}
use Rattle.writer_group.specs.Payloads.{payloads_of}
use Rattle.writer_group.specs.Sealing.{Envelope, Payload, advanced_by, datagram_at, datagrams_from, open_header, secured_header}
use Rattle.writer_group.specs.Turns.{GroupDeed, TurnInput, envelope_of, frames_in, turn_datagrams}
use Rattle.writer_group.proofs.DatagramSizes.{length-sent}

pub header-some : (h : HeaderValue) → 0 < length (header_bytes h)
unfolding header_bytes flags_bytes
header-some h = omega arith

datagram-some : (e : Envelope) (sender : Option SenderState) (index : ℕ) (payload : Payload) → 0 < length (datagram_at e sender index payload)
datagram-some e None index payload =
    let h = open_header e index payload.0 in
    omega (arith, length-append (header_bytes h) payload.1, header-some h)
datagram-some e (Some s) index payload =
    let mode = mode_of e.settings.security in
    let now = advanced_by mode s (suc index) in
    let h = secured_header e now index payload.0 in
    omega (arith, length-sent mode now (header_bytes h) payload.1, header-some h)

pub datagrams-some : (e : Envelope) (sender : Option SenderState) (index : ℕ) (payloads : List Payload) → All (λ (datagram : List ℕ). 0 < length datagram) (datagrams_from e sender index payloads)
datagrams-some e sender index [] = All-nil (λ (datagram : List ℕ). 0 < length datagram)
datagrams-some e sender index (payload ∷ payloads) =
    All-cons (λ (datagram : List ℕ). 0 < length datagram) (datagram_at e sender index payload) (datagrams_from e sender (index + 1) payloads)
    (datagram-some e sender index payload) (datagrams-some e sender (index + 1) payloads)

pub turn-bytes : (config : Config) (part : GroupPart) (past : List GroupDeed) (input : TurnInput) → All (λ (datagram : List ℕ). 0 < length datagram) (turn_datagrams config part past input)
turn-bytes config part past input = datagrams-some (envelope_of config part past) input.sender 0 (payloads_of config part (frames_in part past input))
