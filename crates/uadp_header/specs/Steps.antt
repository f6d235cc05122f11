-- The layout as the calls read it, step after step, and the texts that they write. That the steps are the layout is shown in proofs/StepLaws.antt.
use Rattle.std.specs.Prelude.{ℕ, ◌+◌, ◌*◌, ◌%◌, ◌≤◌, ◌==◌, Bool, List, length, Option, Some, None, Result, Ok, Err, if◌then◌else◌}
use Rattle.std.specs.Int.{w16, w32, w64, cast_signed}
use Rattle.std.specs.Borrow.{Bor}
use Rattle.ua_binary.specs.declared.cursor.Cursor.{Cursor}
use Rattle.ua_binary.specs.declared.pen.Pen.{Pen}
use Rattle.ua_binary.specs.Reading.{◌>>=◌, ReadsAhead, byte_at, bytes_at, number_at, part_at}
use Rattle.ua_binary.specs.ReadingValues.{has}
use Rattle.ua_binary.specs.Wire.{optional}
use Rattle.uadp_header.specs.declared.fault.HeaderFault.{HeaderFault}
use Rattle.uadp_header.specs.declared.fault.HeaderFault.TheVariants.{Short}
use Rattle.uadp_header.specs.declared.header.PublisherId.{PublisherId}
use Rattle.uadp_header.specs.declared.header.SecurityPart.{SecurityPart}
use Rattle.uadp_header.specs.declared.reading.Group.{Group}
use Rattle.uadp_header.specs.Formats.{passing}
use Rattle.uadp_header.specs.Headers.{PublisherValue, U8, U16, U32, U64, Text, IdsValue, NoIds, ListOf, ChunkOf, SecurityValue, GroupValue, no_group, HeaderValue, publisher_in, security_in, if_there}
use Rattle.uadp_header.specs.Layout.{header_of, flags_fault, extended1_fault, extended2_fault, reserved_fault, text_len, utf8_fault}
use Rattle.uadp_header.specs.Spelling.{publisher_bytes, security_bytes}

-- what an answer stands for
abbrev pub told : {A B F : Type 0} → (A → B) → Result A F → Result B F
told f (Ok x) = Ok (f x)
told f (Err fault) = Err fault

-- a step answers what stands for what is read
abbrev pub ReadsAs : {A B : Type 0} → (A → B) → Result A HeaderFault → Cursor → Cursor → (List ℕ → Result (B × List ℕ) HeaderFault) → Type 0
ReadsAs f result old new read = ReadsAhead (told f result) old new read

-- the text fits behind the pen
abbrev pub HasRoom : Pen → List ℕ → Type 0
HasRoom pen text = pen.at + length text ≤ length pen.bytes.now

abbrev pub publisher_part : Option PublisherId → List ℕ
publisher_part publisher = optional publisher_bytes (if_there publisher_in publisher)

abbrev pub security_part : Option SecurityPart → List ℕ
security_part security = optional security_bytes (if_there security_in security)

-- a part that is bytes in memory, where it is there
abbrev pub bytes_in : Option (Bor (List ℕ)) → Option (List ℕ)
bytes_in None = None
bytes_in (Some bytes) = Some bytes.now

abbrev pub group_in : Group → GroupValue
group_in g = record { id = g.id; version = g.version; message_number = g.message_number; sequence = g.sequence }

unfoldable pub flags_at : (ℕ → Option HeaderFault) → List ℕ → Result (ℕ × List ℕ) HeaderFault
flags_at refused bytes = do
  flags ← byte_at Short bytes
  passing (refused flags.0) (Ok flags)

unfoldable pub flags_when : Bool → (ℕ → Option HeaderFault) → List ℕ → Result (ℕ × List ℕ) HeaderFault
flags_when there refused bytes = if there then flags_at refused bytes else Ok (0, bytes)

abbrev pub as_text : List ℕ → Result (List ℕ) HeaderFault
as_text bytes = passing (utf8_fault bytes) (Ok bytes)

unfoldable pub text_at : List ℕ → Result (List ℕ × List ℕ) HeaderFault
text_at bytes = do
  field ← number_at Short w32 bytes
  len ← text_len (cast_signed w32 field.0)
  text ← bytes_at Short len field.1
  utf8 ← as_text text.0
  Ok (utf8, text.1)

unfoldable pub publisher_at : ℕ → List ℕ → Result (PublisherValue × List ℕ) HeaderFault
publisher_at type bytes =
    if type == 0 then (byte_at Short bytes >>= λ id. Ok (U8 id.0, id.1))
    else if type == 1 then (number_at Short w16 bytes >>= λ id. Ok (U16 id.0, id.1))
    else if type == 2 then (number_at Short w32 bytes >>= λ id. Ok (U32 id.0, id.1))
    else if type == 3 then (number_at Short w64 bytes >>= λ id. Ok (U64 id.0, id.1))
    else (text_at bytes >>= λ id. Ok (Text id.0, id.1))

unfoldable pub group_numbers_at : ℕ → List ℕ → Result (GroupValue × List ℕ) HeaderFault
group_numbers_at flags bytes = do
  id ← part_at (has flags 0x01) (number_at Short w16) bytes
  version ← part_at (has flags 0x02) (number_at Short w32) id.1
  message_number ← part_at (has flags 0x04) (number_at Short w16) version.1
  sequence ← part_at (has flags 0x08) (number_at Short w16) message_number.1
  Ok (record { id = id.0; version = version.0; message_number = message_number.0; sequence = sequence.0 }, sequence.1)

unfoldable pub group_at : Bool → List ℕ → Result (GroupValue × List ℕ) HeaderFault
group_at there bytes =
    if there
    then (flags_at reserved_fault bytes >>= λ flags. group_numbers_at flags.0 flags.1)
    else Ok (no_group, bytes)

unfoldable pub ids_at : Bool → Bool → List ℕ → Result (IdsValue × List ℕ) HeaderFault
ids_at there chunk bytes =
    if there
    then (if chunk
    then (number_at Short w16 bytes >>= λ id. Ok (ChunkOf id.0, id.1))
    else (byte_at Short bytes >>= λ count. bytes_at Short (2 * count.0) count.1 >>= λ ids. Ok (ListOf ids.0, ids.1)))
    else Ok (NoIds, bytes)

unfoldable pub promoted_at : List ℕ → Result (List ℕ × List ℕ) HeaderFault
promoted_at bytes = do
  size ← number_at Short w16 bytes
  bytes_at Short size.0 size.1

unfoldable pub extras_at : ℕ → ℕ → List ℕ → Result (Unit {0} × List ℕ) HeaderFault
extras_at extended1 extended2 bytes = do
  timestamp ← part_at (has extended1 0x20) (bytes_at Short 8) bytes
  picoseconds ← part_at (has extended1 0x40) (bytes_at Short 2) timestamp.1
  promoted ← part_at (has extended2 0x02) promoted_at picoseconds.1
  Ok (tt, promoted.1)

unfoldable pub security_at : List ℕ → Result (SecurityValue × List ℕ) HeaderFault
security_at bytes = do
  flags ← flags_at reserved_fault bytes
  token ← number_at Short w32 flags.1
  len ← byte_at Short token.1
  nonce ← bytes_at Short len.0 len.1
  footer_size ← part_at (has flags.0 0x04) (number_at Short w16) nonce.1
  Ok (record { signed = has flags.0 0x01; encrypted = has flags.0 0x02; footer = has flags.0 0x04; reset = has flags.0 0x08; token = token.0; nonce = nonce.0 }, footer_size.1)

unfoldable pub parts_at : ℕ → ℕ → ℕ → List ℕ → Result (HeaderValue × List ℕ) HeaderFault
parts_at flags extended1 extended2 bytes = do
  publisher ← part_at (has flags 0x10) (publisher_at (extended1 % 8)) bytes
  class_id ← part_at (has extended1 0x08) (bytes_at Short 16) publisher.1
  group ← group_at (has flags 0x20) class_id.1
  ids ← ids_at (has flags 0x40) (has extended2 0x01) group.1
  passed ← extras_at extended1 extended2 ids.1
  security ← part_at (has extended1 0x10) security_at passed.1
  Ok (header_of publisher.0 class_id.0 group.0 ids.0 security.0, security.1)

unfoldable pub whole_at : List ℕ → Result (HeaderValue × List ℕ) HeaderFault
whole_at bytes = do
  flags ← flags_at flags_fault bytes
  extended1 ← flags_when (has flags.0 0x80) extended1_fault flags.1
  extended2 ← flags_when (has extended1.0 0x80) (extended2_fault flags.0) extended1.1
  parts_at flags.0 extended1.0 extended2.0 extended2.1
