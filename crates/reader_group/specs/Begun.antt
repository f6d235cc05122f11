-- Steps of opening a datagram: what is known once its header is read, and once its messages are found.
use Rattle.std.specs.Prelude.{◌≡◌, ⊤, ℕ, ◌*◌, ◌/◌, ◌≤◌, List, [], length, map, take, drop, zip, true, All, Result, Ok, Err, OnErr, slice_range}
use Rattle.uadp_header.specs.Headers.{IdsValue, NoIds, ListOf, ChunkOf, HeaderValue, ids_of}
use Rattle.uadp_header.specs.Layout.{header_at}
use Rattle.payload_layout.specs.Payloads.{frame_at, frames_of, IsWithin}
use Rattle.message_guard.specs.Acceptance.{Accepted}
use Rattle.message_guard.specs.declared.guard.Guard.{Guard}
use Rattle.message_guard.specs.Guards.{Setup, IsGuardOf, setup_of}
use Rattle.message_guard.specs.Opening as guards
use Rattle.message_guard.specs.Opening.{judged}
use Rattle.config_tables.specs.declared.words.Layout.{Layout}
use Rattle.config_tables.specs.declared.words.Layout.TheVariants as layouts
use Rattle.ps_config.specs.declared.parts.ReadGroupPart.{ReadGroupPart}
use Rattle.reader_group.specs.declared.begun.Carried.{Carried}
use Rattle.reader_group.specs.declared.begun.Carried.TheVariants as carrieds
use Rattle.reader_group.specs.declared.begun.Begun.{Begun}
use Rattle.reader_group.specs.declared.opening.Buffers.{Buffers}
use Rattle.reader_group.specs.declared.refusal.Refusal.{Refusal}
use Rattle.reader_group.specs.Filter.{is_ours}
use Rattle.reader_group.specs.Payloads as payloads
use Rattle.reader_group.specs.Payloads.{Payload, Slots, Messages}
use Rattle.reader_group.specs.Opening.{Opened, bytes_left, verdict, payload_refusals}

-- the ids of a header, of which a list was kept
abbrev pub ids_carried : Carried → List ℕ → IdsValue
ids_carried carrieds.None kept = NoIds
ids_carried carrieds.List kept = ListOf kept
ids_carried (carrieds.Chunk writer) kept = ChunkOf writer

-- the header is read, passes the filter, and the guard passes the datagram
pub record HasBegun (group : ReadGroupPart) (setup : Setup) (accepted : Accepted) (datagram : List ℕ) (begun : Begun) (kept : List ℕ) : Type 0 where
  pub header : HeaderValue
  pub read : header_at datagram ≡ Ok (header, drop begun.payload datagram)
  pub within : begun.payload ≤ length datagram
  pub ours : is_ours group header ≡ true
  pub passed : guards.verdict setup.mode setup.keys accepted header.security datagram begun.payload ≡ Ok begun.pass
  pub ids : ids_carried begun.carried kept ≡ header.ids

abbrev pub IsBegun : ReadGroupPart → Setup → Accepted → List ℕ → Result Begun Refusal → Buffers → Type 0
IsBegun group setup accepted datagram (Ok begun) room = HasBegun group setup accepted datagram begun room.ids.items
IsBegun group setup accepted datagram (Err refusal) room = verdict group setup accepted datagram ≡ Err refusal

-- the places of the messages that a list of ids tells of
pub record AreListed (payload : List ℕ) (room : Buffers) : Type 0 where
  pub frames : map (frame_at payload) room.parts.items ≡ frames_of (length room.ids.items / 2) payload
  pub count : length room.ids.items ≡ 2 * length room.parts.items
  pub within : All (IsWithin payload) room.parts.items

-- where messages are told of by a list, their places are found
abbrev pub HasListed : Carried → List ℕ → Buffers → Type 0
HasListed carrieds.None payload room = ⊥
HasListed carrieds.List payload room = AreListed payload room
HasListed (carrieds.Chunk writer) payload room = ⊤

abbrev pub HasFound : Layout → Carried → List ℕ → Buffers → Type 0
HasFound layouts.Fixed carried payload room = ⊤
HasFound layouts.Dynamic carried payload room = HasListed carried payload room

-- what stands between the header and the signature
abbrev pub payload_in : Begun → List ℕ → List ℕ
payload_in begun bytes = slice_range bytes begun.payload begun.pass.end

abbrev pub HasMessages : Layout → Begun → Buffers → List ℕ → Type 0
HasMessages layout begun room bytes = HasFound layout begun.carried (payload_in begun bytes) room

-- none of the payload's refusals holds, and the messages are found
pub record Finds (layout : Layout) (carried : Carried) (payload : List ℕ) (old new : Buffers) : Type 0 where
  pub good : (x : Opened) → judged (payload_refusals layout (ids_carried carried old.ids.items) payload) x ≡ Ok x
  pub ids : new.ids.items ≡ old.ids.items
  pub found : HasFound layout carried payload new

abbrev pub FindsMessages : Layout → Carried → List ℕ → Buffers → Buffers → Result (Unit {0}) Refusal → Type 0
FindsMessages layout carried payload old new (Ok done) = Finds layout carried payload old new
FindsMessages layout carried payload old new (Err refusal) =
    (x : Opened) → judged (payload_refusals layout (ids_carried carried old.ids.items) payload) x ≡ Err refusal

-- where a list of ids tells of messages, none of the payload's refusals holds, and the messages are found
abbrev pub FindsListed : List ℕ → Buffers → Buffers → Result (Unit {0}) Refusal → Type 0
FindsListed payload old new result = FindsMessages layouts.Dynamic carrieds.List payload old new result

-- in a dynamic layout
abbrev pub listed_in : Carried → Buffers → List ℕ → Payload
listed_in carrieds.None room payload = Messages []
listed_in carrieds.List room payload = Messages (zip (ids_of room.ids.items) (map (frame_at payload) room.parts.items))
listed_in (carrieds.Chunk writer) room payload = payloads.Chunk writer payload

-- what the opened datagram has for the readers
abbrev pub payload_held : Layout → Begun → Buffers → List ℕ → Payload
payload_held layouts.Fixed begun room bytes = Slots (take begun.pass.end bytes)
payload_held layouts.Dynamic begun room bytes = listed_in begun.carried room (payload_in begun bytes)

abbrev pub Opens : ReadGroupPart → Result Opened Refusal → Result Begun Refusal → Buffers → List ℕ → Type 0
Opens group answer (Ok begun) room bytes =
    answer ≡ Ok (record { pass = begun.pass; payload = payload_held group.layout begun room bytes })
Opens group answer (Err refusal) room bytes = answer ≡ Err refusal

-- whatever the guard has accepted, the datagram is judged as by the plain definition
abbrev pub OpensBy : ReadGroupPart → Guard → List ℕ → Result Begun Refusal → Buffers → List ℕ → Type 0
OpensBy group guard datagram result room bytes =
    (accepted : Accepted) → IsGuardOf accepted guard
    → Opens group (verdict group (setup_of guard) accepted datagram) result room bytes

-- whatever the guard has accepted, these bytes are left of the datagram
abbrev pub LeavesBytes : ReadGroupPart → Guard → List ℕ → List ℕ → Type 0
LeavesBytes group guard datagram bytes =
    (accepted : Accepted) → IsGuardOf accepted guard → bytes ≡ bytes_left group (setup_of guard) accepted datagram

-- whatever the guard has accepted, the datagram is refused for its header, by the filter or by the guard, or its opening is begun
abbrev pub BeginsBy : ReadGroupPart → Guard → List ℕ → Result Begun Refusal → Buffers → Type 0
BeginsBy group guard datagram result room =
    (accepted : Accepted) → IsGuardOf accepted guard → IsBegun group (setup_of guard) accepted datagram result room

-- whatever the guard has accepted, a datagram that is refused before it is decrypted is left as it is
abbrev pub LeavesRefused : ReadGroupPart → Guard → List ℕ → Result Begun Refusal → Type 0
LeavesRefused group guard datagram result =
    (accepted : Accepted) → IsGuardOf accepted guard
    → OnErr result (bytes_left group (setup_of guard) accepted datagram ≡ datagram)
