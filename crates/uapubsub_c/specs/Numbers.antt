-- The numbers by which C sees refusals and reasons to wait: those of include/uapubsub.h.
use Rattle.std.specs.Prelude.{ℕ, Result, Ok, Err}
use Rattle.pubsub_model.specs.declared.reading.Why.{Why}
use Rattle.pubsub_model.specs.declared.reading.Why.TheVariants.{Gap, Jump, NewToken, Restarted, Start, Timeout}
use Rattle.uadp_header.specs.declared.fault.HeaderFault.{HeaderFault}
use Rattle.uadp_header.specs.declared.fault.HeaderFault.TheVariants as headers
use Rattle.message_guard.specs.declared.open_fault.OpenFault.{OpenFault}
use Rattle.message_guard.specs.declared.open_fault.OpenFault.TheVariants as guards
use Rattle.chunker.specs.declared.payload.ChunkFault.TheVariants as chunks
use Rattle.frame_codec.specs.declared.fault.FrameFault.TheVariants as frames
use Rattle.reader_group.specs.declared.notice.PartFault.{PartFault}
use Rattle.reader_group.specs.declared.notice.PartFault.TheVariants as parts
use Rattle.reader_group.specs.declared.refusal.Refusal.{Refusal}
use Rattle.reader_group.specs.declared.refusal.Refusal.TheVariants as refusals
use Rattle.uapubsub_c.specs.declared.status.Status.{Status}
use Rattle.uapubsub_c.specs.declared.status.Status.TheVariants.{BadText, Begun, Closed, Damaged, Datagram, EarlierToken, Index, LaterToken, ManyKeys, Memory, Misfit, NoKind, NoRing, Nothing, NumbersAgain, Opened, OtherConfig, OtherSide, Refused, Room, Spent, Stale, Unstored}

-- why a reader holds no row
abbrev pub why_number : Why → ℕ
why_number Start = 0
why_number Gap = 1
why_number Timeout = 2
why_number NewToken = 3
why_number Jump = 4
why_number Restarted = 5

abbrev pub header_number : HeaderFault → ℕ
header_number headers.Short = 101
header_number (headers.Version got) = 102
header_number headers.DiscoveryOut = 103
header_number headers.BadPublisherType = 104
header_number headers.ReservedBits = 105
header_number headers.BadId = 106

abbrev pub guard_number : OpenFault → ℕ
guard_number guards.ModeDiffers = 121
guard_number guards.FooterOut = 122
guard_number guards.KeyResetOut = 123
guard_number (guards.BadNonceLength got) = 124
guard_number guards.Short = 125
guard_number (guards.UnknownToken got) = 126
guard_number (guards.OldToken got high) = 127
guard_number guards.BadSignature = 128
guard_number guards.Repeated = 129
guard_number (guards.TooOld high) = 130

-- why a datagram is refused
abbrev pub refusal_number : Refusal → ℕ
refusal_number (refusals.Header fault) = header_number fault
refusal_number refusals.NotOurs = 110
refusal_number refusals.NoIds = 111
refusal_number refusals.BadSizes = 112
refusal_number (refusals.Guard fault) = guard_number fault

-- why a part of a reader couldn't be read
abbrev pub fault_number : PartFault → ℕ
fault_number (parts.Frame frames.Short) = 1
fault_number (parts.Frame frames.BadEncoding) = 2
fault_number (parts.Frame frames.KindOut) = 3
fault_number (parts.Frame frames.BadValue) = 4
fault_number (parts.Frame (frames.BadIndex got)) = 5
fault_number (parts.Frame (frames.WrongCount got)) = 6
fault_number (parts.Frame frames.Trailing) = 7
fault_number (parts.Frame frames.NotValid) = 8
fault_number (parts.Frame frames.EventOut) = 9
fault_number (parts.Frame frames.ReservedBits) = 10
fault_number (parts.Chunk chunks.Short) = 20
fault_number (parts.Chunk chunks.BadLength) = 21
fault_number (parts.TooLong total) = 22
fault_number (parts.BadRange offset total) = 23
fault_number (parts.Differs first now) = 24
fault_number parts.Missing = 30

-- why a call didn't do what it says
abbrev pub status_number : Status → ℕ
status_number Nothing = 1
status_number Closed = 3
status_number Opened = 4
status_number OtherSide = 5
status_number Memory = 6
status_number Refused = 7
status_number Index = 8
status_number Misfit = 9
status_number Room = 10
status_number Spent = 11
status_number BadText = 12
status_number ManyKeys = 13
status_number NoRing = 14
status_number EarlierToken = 15
status_number NumbersAgain = 16
status_number NoKind = 17
status_number Stale = 18
status_number Unstored = 19
status_number Damaged = 20
status_number OtherConfig = 21
status_number LaterToken = 22
status_number Begun = 23
status_number (Datagram refusal) = refusal_number refusal

-- an answer: UAP_OK is 0
abbrev pub number_of : {T : Type 0} → Result T Status → ℕ
number_of (Ok value) = 0
number_of (Err status) = status_number status
