-- What a sender wrote is read as itself, whatever follows it.
use Rattle.std.proofs.Common.{◌≡◌, ℕ, ◌+◌, ◌*◌, ◌/◌, ◌%◌, ◌^◌, ◌≤◌, ◌<◌, Bool, true, false, List, [], ◌∷◌, ◌++◌, length, take, drop, Option, Some, None, Result, Ok, pos, refl, sym, ap, subst, ◌∙◌, append_assoc, arith}
use Rattle.std.specs.Prelude.{nat_lt, is_some, IfSome, if◌then◌else◌}
use Rattle.std.specs.Int.{Width, w16, w32, w64, byte_len, from_le_bytes, to_le_bytes, cast_signed}
use Rattle.std.specs.Str.{IsUtf8}
use Rattle.std.proofs.lemmas.Bool.{ltb-false, le-ltb}
use Rattle.std.proofs.lemmas.Int.{to_z_pos}
use Rattle.std.proofs.lemmas.List.{length-append}
use Rattle.std.proofs.lemmas.Nat.{from_le_bytes-to_le_bytes_2, from_le_bytes-to_le_bytes_4, from_le_bytes-to_le_bytes_8}
use Rattle.std.proofs.Math.Seq.{take-append_seam, drop-append_seam}
use Rattle.ua_binary.specs.Reading.{bytes_at, number_at, part_at}
use Rattle.ua_binary.specs.ReadingValues.{has}
use Rattle.ua_binary.specs.Spelling.{block}
use Rattle.ua_binary.specs.Wire.{flag, optional}
use Rattle.uadp_header.specs.declared.fault.HeaderFault.{HeaderFault}
use Rattle.uadp_header.specs.declared.fault.HeaderFault.TheVariants.{Short}
use Rattle.uadp_header.specs.Formats.{passing}
use Rattle.uadp_header.specs.Headers.{PublisherValue, U8, U16, U32, U64, Text, IdsValue, NoIds, ListOf, ChunkOf, SecurityValue, HeaderValue}
use Rattle.uadp_header.specs.Layout.{header_at, flags_fault, extended1_fault, extended2_fault, reserved_fault, text_len}
use Rattle.uadp_header.specs.Reading.{BeginsWith}
use Rattle.uadp_header.specs.Spelling.{type_of, has_ids, is_chunk, publisher_bytes, ids_bytes, extended1_byte, extended_bytes, flags_byte, flags_bytes, group_flags, group_bytes, security_flags, security_bytes, header_bytes, header_len, IsShortText, AreIds, IsSendersSecurity, IsSenders, IsPublisher, IsIds, IsHeader, IsWritten}
use Rattle.uadp_header.specs.Steps.{as_text, flags_at, flags_when, text_at, publisher_at, group_numbers_at, group_at, ids_at, extras_at, security_at, parts_at, whole_at}
use Rattle.uadp_header.proofs.FormatLaws.{then_read}
use Rattle.uadp_header.proofs.Lengths.{length-is_header}
use Rattle.uadp_header.proofs.StepLaws.{got, header_whole}
use Rattle.uadp_header.proofs.Texts.{utf8_text}

bytes_again : (n : ℕ) (text rest : List ℕ) → length text ≡ n → bytes_at Short n (text ++ rest) ≡ Ok (text, rest)
bytes_again n text rest e =
    let enough : nat_lt (length (text ++ rest)) (length text) ≡ false = le-ltb (length (text ++ rest)) (length text) (omega (arith, length-append text rest)) in
    let front : take (length text) (text ++ rest) ≡ text = take-append_seam text rest in
    let back : drop (length text) (text ++ rest) ≡ rest = drop-append_seam text rest in
    subst (λ k. bytes_at Short k (text ++ rest) ≡ Ok (text, rest)) e (rw (enough, front, back) refl)

number_again : (w : Width) (n : ℕ) (text rest : List ℕ) → length text ≡ byte_len w → from_le_bytes w text ≡ n → number_at Short w (text ++ rest) ≡ Ok (n, rest)
number_again w n text rest len value = rw (bytes_again (byte_len w) text rest len, value) refl

u16_again : (n : ℕ) (rest : List ℕ) → n < 2 ^ 16 → number_at Short w16 (to_le_bytes w16 n ++ rest) ≡ Ok (n, rest)
u16_again n rest h = number_again w16 n (to_le_bytes w16 n) rest refl (from_le_bytes-to_le_bytes_2 n h)

u32_again : (n : ℕ) (rest : List ℕ) → n < 2 ^ 32 → number_at Short w32 (to_le_bytes w32 n ++ rest) ≡ Ok (n, rest)
u32_again n rest h = number_again w32 n (to_le_bytes w32 n) rest refl (from_le_bytes-to_le_bytes_4 n h)

u64_again : (n : ℕ) (rest : List ℕ) → n < 2 ^ 64 → number_at Short w64 (to_le_bytes w64 n ++ rest) ≡ Ok (n, rest)
u64_again n rest h = number_again w64 n (to_le_bytes w64 n) rest refl (from_le_bytes-to_le_bytes_8 n h)

u16_if : (number : Option ℕ) (rest : List ℕ) → IfSome number (λ n. n < 2 ^ 16) → part_at (is_some number) (number_at Short w16) (optional (to_le_bytes w16) number ++ rest) ≡ Ok (number, rest)
u16_if None rest range = refl
u16_if (Some n) rest range = ap (λ (r : Result (ℕ × List ℕ) HeaderFault). then_read r (λ read. Ok (Some read.0, read.1))) (u16_again n rest range)

u32_if : (number : Option ℕ) (rest : List ℕ) → IfSome number (λ n. n < 2 ^ 32) → part_at (is_some number) (number_at Short w32) (optional (to_le_bytes w32) number ++ rest) ≡ Ok (number, rest)
u32_if None rest range = refl
u32_if (Some n) rest range = ap (λ (r : Result (ℕ × List ℕ) HeaderFault). then_read r (λ read. Ok (Some read.0, read.1))) (u32_again n rest range)

-- PublisherId
text_again : (text rest : List ℕ) → length text < 2 ^ 31 → IsUtf8 text → text_at (block text ++ rest) ≡ Ok (text, rest)
unfolding text_at
text_again text rest short utf8 =
    let field = u32_again (length text) (text ++ rest) (omega arith) in
    let signed : cast_signed w32 (length text) ≡ pos (length text) = to_z_pos w32 (length text) (omega arith) in
    let good : as_text text ≡ Ok text = sym (utf8_text text utf8) in
    ap (λ (r : Result (ℕ × List ℕ) HeaderFault). then_read r (λ f. then_read (text_len (cast_signed w32 f.0)) (λ n. then_read (bytes_at Short n f.1) (λ t. then_read (as_text t.0) (λ u. Ok (u, t.1))))))
    (ap (number_at Short w32) (append_assoc (to_le_bytes w32 (length text)) text rest) ∙ field)
    ∙ ap (λ z. then_read (text_len z) (λ n. then_read (bytes_at Short n (text ++ rest)) (λ t. then_read (as_text t.0) (λ u. Ok (u, t.1))))) signed
    ∙ ap (λ (r : Result (List ℕ × List ℕ) HeaderFault). then_read r (λ t. then_read (as_text t.0) (λ u. Ok (u, t.1)))) (bytes_again (length text) text rest refl)
    ∙ ap (λ (r : Result (List ℕ) HeaderFault). then_read r (λ u. Ok (u, rest))) good

publisher_again : (publisher : PublisherValue) (rest : List ℕ) → IsShortText publisher → IsPublisher publisher → publisher_at (type_of publisher) (publisher_bytes publisher ++ rest) ≡ Ok (publisher, rest)
unfolding publisher_at
publisher_again (U8 id) rest short is = refl
publisher_again (U16 id) rest short is = ap (λ (r : Result (ℕ × List ℕ) HeaderFault). then_read r (λ id. Ok (U16 id.0, id.1))) (u16_again id rest is)
publisher_again (U32 id) rest short is = ap (λ (r : Result (ℕ × List ℕ) HeaderFault). then_read r (λ id. Ok (U32 id.0, id.1))) (u32_again id rest is)
publisher_again (U64 id) rest short is = ap (λ (r : Result (ℕ × List ℕ) HeaderFault). then_read r (λ id. Ok (U64 id.0, id.1))) (u64_again id rest is)
publisher_again (Text text) rest short is = ap (λ (r : Result (List ℕ × List ℕ) HeaderFault). then_read r (λ id. Ok (Text id.0, id.1))) (text_again text rest short is)

guid_again : (guid : Option (List ℕ)) (rest : List ℕ) → IfSome guid (λ bytes. length bytes ≡ 16) → part_at (is_some guid) (bytes_at Short 16) (optional (λ bytes. bytes) guid ++ rest) ≡ Ok (guid, rest)
guid_again None rest sixteen = refl
guid_again (Some guid) rest sixteen = ap (λ (r : Result (List ℕ × List ℕ) HeaderFault). then_read r (λ read. Ok (Some read.0, read.1))) (bytes_again 16 guid rest sixteen)

-- a sender's header
record Parts : Type 0 where
  publisher : PublisherValue
  class_id : Option (List ℕ)
  group : ℕ
  version : Option ℕ
  message_number : Option ℕ
  sequence : Option ℕ
  ids : IdsValue
  security : Option SecurityValue

abbrev whole : Parts → HeaderValue
whole p = record { publisher = Some p.publisher; class_id = p.class_id; group = Some p.group; version = p.version; message_number = p.message_number; sequence = p.sequence; ids = p.ids; security = p.security }

-- GroupFlags, and the numbers behind them
record TellsGroup (has_version has_message_number has_sequence : Bool) (flags : ℕ) : Type 0 where
  no_fault : reserved_fault flags ≡ None
  id : has flags 0x01 ≡ true
  version : has flags 0x02 ≡ has_version
  message_number : has flags 0x04 ≡ has_message_number
  sequence : has flags 0x08 ≡ has_sequence

abbrev group_with : Bool → Bool → Bool → ℕ
group_with version message_number sequence = 1 + flag version 2 + flag message_number 4 + flag sequence 8

group_tells : (version message_number sequence : Bool) → TellsGroup version message_number sequence (group_with version message_number sequence)
group_tells true true true = record { no_fault = refl; id = refl; version = refl; message_number = refl; sequence = refl }
group_tells true true false = record { no_fault = refl; id = refl; version = refl; message_number = refl; sequence = refl }
group_tells true false true = record { no_fault = refl; id = refl; version = refl; message_number = refl; sequence = refl }
group_tells true false false = record { no_fault = refl; id = refl; version = refl; message_number = refl; sequence = refl }
group_tells false true true = record { no_fault = refl; id = refl; version = refl; message_number = refl; sequence = refl }
group_tells false true false = record { no_fault = refl; id = refl; version = refl; message_number = refl; sequence = refl }
group_tells false false true = record { no_fault = refl; id = refl; version = refl; message_number = refl; sequence = refl }
group_tells false false false = record { no_fault = refl; id = refl; version = refl; message_number = refl; sequence = refl }

numbers_again : (flags id : ℕ) (version message_number sequence : Option ℕ) (rest : List ℕ) → TellsGroup (is_some version) (is_some message_number) (is_some sequence) flags
    → id < 2 ^ 16 → IfSome version (λ n. n < 2 ^ 32) → IfSome message_number (λ n. n < 2 ^ 16) → IfSome sequence (λ n. n < 2 ^ 16)
    → group_numbers_at flags (to_le_bytes w16 id ++ (optional (to_le_bytes w32) version ++ (optional (to_le_bytes w16) message_number ++ (optional (to_le_bytes w16) sequence ++ rest))))
    ≡ Ok (record { id = Some id; version = version; message_number = message_number; sequence = sequence }, rest)
unfolding group_numbers_at
numbers_again flags id version message_number sequence rest tells small version_small message_number_small sequence_small =
    let on_sequence = optional (to_le_bytes w16) sequence ++ rest in
    let on_message_number = optional (to_le_bytes w16) message_number ++ on_sequence in
    let on_version = optional (to_le_bytes w32) version ++ on_message_number in
    rw (
      tells.id,
      u16_again id on_version small,
      tells.version,
      u32_if version on_message_number version_small,
      tells.message_number,
      u16_if message_number on_sequence message_number_small,
      tells.sequence,
      u16_if sequence rest sequence_small,
    ) refl

group_again : (p : Parts) (rest : List ℕ) → IsHeader (whole p) → group_at true (group_bytes (whole p) ++ rest)
    ≡ Ok (record { id = Some p.group; version = p.version; message_number = p.message_number; sequence = p.sequence }, rest)
unfolding group_at group_bytes flags_at
group_again p rest is =
    let flags = group_flags (whole p) in
    let tells = group_tells (is_some p.version) (is_some p.message_number) (is_some p.sequence) in
    let numbers = to_le_bytes w16 p.group ++ optional (to_le_bytes w32) p.version ++ optional (to_le_bytes w16) p.message_number ++ optional (to_le_bytes w16) p.sequence in
    let behind : numbers ++ rest
    ≡ to_le_bytes w16 p.group ++ (optional (to_le_bytes w32) p.version ++ (optional (to_le_bytes w16) p.message_number ++ (optional (to_le_bytes w16) p.sequence ++ rest)))
    = simp append_assoc in
    ap (λ (fault : Option HeaderFault). then_read (passing fault (got flags (numbers ++ rest))) (λ f. group_numbers_at f.0 f.1)) tells.no_fault
    ∙ ap (group_numbers_at flags) behind
    ∙ numbers_again flags p.group p.version p.message_number p.sequence rest tells is.group is.version is.message_number is.sequence

-- the ids, and nothing between them and the security header
ids_again : (ids : IdsValue) (rest : List ℕ) → AreIds ids → IsIds ids → ids_at (has_ids ids) (is_chunk ids) (ids_bytes ids ++ rest) ≡ Ok (ids, rest)
unfolding ids_at
ids_again NoIds rest are is = refl
ids_again (ListOf bytes) rest are is = ap (λ (r : Result (List ℕ × List ℕ) HeaderFault). then_read r (λ ids. Ok (ListOf ids.0, ids.1))) (bytes_again (2 * (length bytes / 2)) bytes rest (sym are.1))
ids_again (ChunkOf id) rest are is = ap (λ (r : Result (ℕ × List ℕ) HeaderFault). then_read r (λ id. Ok (ChunkOf id.0, id.1))) (u16_again id rest is)

no_extras : (extended1 extended2 : ℕ) (rest : List ℕ) → has extended1 0x20 ≡ false → has extended1 0x40 ≡ false → has extended2 0x02 ≡ false → extras_at extended1 extended2 rest ≡ Ok (tt, rest)
unfolding extras_at
no_extras extended1 extended2 rest no_timestamp no_picoseconds no_promoted = rw (no_timestamp, no_picoseconds, no_promoted) refl

-- SecurityFlags, and the security header
record TellsSecurity (is_signed is_encrypted : Bool) (flags : ℕ) : Type 0 where
  no_fault : reserved_fault flags ≡ None
  signed : has flags 0x01 ≡ is_signed
  encrypted : has flags 0x02 ≡ is_encrypted
  footer : has flags 0x04 ≡ false
  reset : has flags 0x08 ≡ false

security_tells : (signed encrypted : Bool) → TellsSecurity signed encrypted (flag signed 1 + flag encrypted 2)
security_tells true true = record { no_fault = refl; signed = refl; encrypted = refl; footer = refl; reset = refl }
security_tells true false = record { no_fault = refl; signed = refl; encrypted = refl; footer = refl; reset = refl }
security_tells false true = record { no_fault = refl; signed = refl; encrypted = refl; footer = refl; reset = refl }
security_tells false false = record { no_fault = refl; signed = refl; encrypted = refl; footer = refl; reset = refl }

abbrev secured : Bool → Bool → Bool → Bool → ℕ → List ℕ → SecurityValue
secured signed encrypted footer reset token nonce = record { signed = signed; encrypted = encrypted; footer = footer; reset = reset; token = token; nonce = nonce }

nonce_again : (flags token : ℕ) (signed encrypted : Bool) (nonce rest : List ℕ) → TellsSecurity signed encrypted flags → token < 2 ^ 32
    → security_at (flags ∷ to_le_bytes w32 token ++ (length nonce ∷ nonce ++ rest)) ≡ Ok (secured signed encrypted false false token nonce, rest)
unfolding security_at flags_at
nonce_again flags token signed encrypted nonce rest tells small =
    rw (
      tells.no_fault,
      u32_again token (length nonce ∷ nonce ++ rest) small,
      bytes_again (length nonce) nonce rest refl,
      tells.signed,
      tells.encrypted,
      tells.footer,
      tells.reset,
    ) refl

security_again : (s : SecurityValue) (rest : List ℕ) → IsSendersSecurity s → s.token < 2 ^ 32 → security_at (security_bytes s ++ rest) ≡ Ok (s, rest)
unfolding security_bytes
security_again s rest senders small =
    ap security_at (append_assoc (security_flags s ∷ to_le_bytes w32 s.token) (length s.nonce ∷ s.nonce) rest)
    ∙ nonce_again (security_flags s) s.token s.signed s.encrypted s.nonce rest (security_tells s.signed s.encrypted) small
    ∙ ap (λ footer. Ok (secured s.signed s.encrypted footer false s.token s.nonce, rest)) (sym senders.no_footer)
    ∙ ap (λ reset. Ok (secured s.signed s.encrypted s.footer reset s.token s.nonce, rest)) (sym senders.no_reset)

security_if : (security : Option SecurityValue) (rest : List ℕ) → IfSome security IsSendersSecurity → IfSome security (λ s. s.token < 2 ^ 32)
    → part_at (is_some security) security_at (optional security_bytes security ++ rest) ≡ Ok (security, rest)
security_if None rest senders small = refl
security_if (Some s) rest senders small = ap (λ (r : Result (SecurityValue × List ℕ) HeaderFault). then_read r (λ read. Ok (Some read.0, read.1))) (security_again s rest senders small)

-- the flags
record TellsFlags (has_list is_extended : Bool) (flags : ℕ) : Type 0 where
  no_fault : flags_fault flags ≡ None
  publisher : has flags 0x10 ≡ true
  group : has flags 0x20 ≡ true
  ids : has flags 0x40 ≡ has_list
  extended : has flags 0x80 ≡ is_extended

flags_tell : (ids extended : Bool) → TellsFlags ids extended (0x31 + flag ids 0x40 + flag extended 0x80)
flags_tell true true = record { no_fault = refl; publisher = refl; group = refl; ids = refl; extended = refl }
flags_tell true false = record { no_fault = refl; publisher = refl; group = refl; ids = refl; extended = refl }
flags_tell false true = record { no_fault = refl; publisher = refl; group = refl; ids = refl; extended = refl }
flags_tell false false = record { no_fault = refl; publisher = refl; group = refl; ids = refl; extended = refl }

-- ExtendedFlags1
record TellsExtended (id_type : ℕ) (has_class has_security has_more : Bool) (extended1 : ℕ) : Type 0 where
  no_fault : extended1_fault extended1 ≡ None
  type : extended1 % 8 ≡ id_type
  class : has extended1 0x08 ≡ has_class
  security : has extended1 0x10 ≡ has_security
  timestamp : has extended1 0x20 ≡ false
  picoseconds : has extended1 0x40 ≡ false
  extended2 : has extended1 0x80 ≡ has_more

extended_tells : (publisher : PublisherValue) (class security chunk : Bool) → TellsExtended (type_of publisher) class security chunk (extended1_byte (type_of publisher) class security chunk)
extended_tells (U8 id) true true true = record { no_fault = refl; type = refl; class = refl; security = refl; timestamp = refl; picoseconds = refl; extended2 = refl }
extended_tells (U8 id) true true false = record { no_fault = refl; type = refl; class = refl; security = refl; timestamp = refl; picoseconds = refl; extended2 = refl }
extended_tells (U8 id) true false true = record { no_fault = refl; type = refl; class = refl; security = refl; timestamp = refl; picoseconds = refl; extended2 = refl }
extended_tells (U8 id) true false false = record { no_fault = refl; type = refl; class = refl; security = refl; timestamp = refl; picoseconds = refl; extended2 = refl }
extended_tells (U8 id) false true true = record { no_fault = refl; type = refl; class = refl; security = refl; timestamp = refl; picoseconds = refl; extended2 = refl }
extended_tells (U8 id) false true false = record { no_fault = refl; type = refl; class = refl; security = refl; timestamp = refl; picoseconds = refl; extended2 = refl }
extended_tells (U8 id) false false true = record { no_fault = refl; type = refl; class = refl; security = refl; timestamp = refl; picoseconds = refl; extended2 = refl }
extended_tells (U8 id) false false false = record { no_fault = refl; type = refl; class = refl; security = refl; timestamp = refl; picoseconds = refl; extended2 = refl }
extended_tells (U16 id) true true true = record { no_fault = refl; type = refl; class = refl; security = refl; timestamp = refl; picoseconds = refl; extended2 = refl }
extended_tells (U16 id) true true false = record { no_fault = refl; type = refl; class = refl; security = refl; timestamp = refl; picoseconds = refl; extended2 = refl }
extended_tells (U16 id) true false true = record { no_fault = refl; type = refl; class = refl; security = refl; timestamp = refl; picoseconds = refl; extended2 = refl }
extended_tells (U16 id) true false false = record { no_fault = refl; type = refl; class = refl; security = refl; timestamp = refl; picoseconds = refl; extended2 = refl }
extended_tells (U16 id) false true true = record { no_fault = refl; type = refl; class = refl; security = refl; timestamp = refl; picoseconds = refl; extended2 = refl }
extended_tells (U16 id) false true false = record { no_fault = refl; type = refl; class = refl; security = refl; timestamp = refl; picoseconds = refl; extended2 = refl }
extended_tells (U16 id) false false true = record { no_fault = refl; type = refl; class = refl; security = refl; timestamp = refl; picoseconds = refl; extended2 = refl }
extended_tells (U16 id) false false false = record { no_fault = refl; type = refl; class = refl; security = refl; timestamp = refl; picoseconds = refl; extended2 = refl }
extended_tells (U32 id) true true true = record { no_fault = refl; type = refl; class = refl; security = refl; timestamp = refl; picoseconds = refl; extended2 = refl }
extended_tells (U32 id) true true false = record { no_fault = refl; type = refl; class = refl; security = refl; timestamp = refl; picoseconds = refl; extended2 = refl }
extended_tells (U32 id) true false true = record { no_fault = refl; type = refl; class = refl; security = refl; timestamp = refl; picoseconds = refl; extended2 = refl }
extended_tells (U32 id) true false false = record { no_fault = refl; type = refl; class = refl; security = refl; timestamp = refl; picoseconds = refl; extended2 = refl }
extended_tells (U32 id) false true true = record { no_fault = refl; type = refl; class = refl; security = refl; timestamp = refl; picoseconds = refl; extended2 = refl }
extended_tells (U32 id) false true false = record { no_fault = refl; type = refl; class = refl; security = refl; timestamp = refl; picoseconds = refl; extended2 = refl }
extended_tells (U32 id) false false true = record { no_fault = refl; type = refl; class = refl; security = refl; timestamp = refl; picoseconds = refl; extended2 = refl }
extended_tells (U32 id) false false false = record { no_fault = refl; type = refl; class = refl; security = refl; timestamp = refl; picoseconds = refl; extended2 = refl }
extended_tells (U64 id) true true true = record { no_fault = refl; type = refl; class = refl; security = refl; timestamp = refl; picoseconds = refl; extended2 = refl }
extended_tells (U64 id) true true false = record { no_fault = refl; type = refl; class = refl; security = refl; timestamp = refl; picoseconds = refl; extended2 = refl }
extended_tells (U64 id) true false true = record { no_fault = refl; type = refl; class = refl; security = refl; timestamp = refl; picoseconds = refl; extended2 = refl }
extended_tells (U64 id) true false false = record { no_fault = refl; type = refl; class = refl; security = refl; timestamp = refl; picoseconds = refl; extended2 = refl }
extended_tells (U64 id) false true true = record { no_fault = refl; type = refl; class = refl; security = refl; timestamp = refl; picoseconds = refl; extended2 = refl }
extended_tells (U64 id) false true false = record { no_fault = refl; type = refl; class = refl; security = refl; timestamp = refl; picoseconds = refl; extended2 = refl }
extended_tells (U64 id) false false true = record { no_fault = refl; type = refl; class = refl; security = refl; timestamp = refl; picoseconds = refl; extended2 = refl }
extended_tells (U64 id) false false false = record { no_fault = refl; type = refl; class = refl; security = refl; timestamp = refl; picoseconds = refl; extended2 = refl }
extended_tells (Text text) true true true = record { no_fault = refl; type = refl; class = refl; security = refl; timestamp = refl; picoseconds = refl; extended2 = refl }
extended_tells (Text text) true true false = record { no_fault = refl; type = refl; class = refl; security = refl; timestamp = refl; picoseconds = refl; extended2 = refl }
extended_tells (Text text) true false true = record { no_fault = refl; type = refl; class = refl; security = refl; timestamp = refl; picoseconds = refl; extended2 = refl }
extended_tells (Text text) true false false = record { no_fault = refl; type = refl; class = refl; security = refl; timestamp = refl; picoseconds = refl; extended2 = refl }
extended_tells (Text text) false true true = record { no_fault = refl; type = refl; class = refl; security = refl; timestamp = refl; picoseconds = refl; extended2 = refl }
extended_tells (Text text) false true false = record { no_fault = refl; type = refl; class = refl; security = refl; timestamp = refl; picoseconds = refl; extended2 = refl }
extended_tells (Text text) false false true = record { no_fault = refl; type = refl; class = refl; security = refl; timestamp = refl; picoseconds = refl; extended2 = refl }
extended_tells (Text text) false false false = record { no_fault = refl; type = refl; class = refl; security = refl; timestamp = refl; picoseconds = refl; extended2 = refl }

-- ExtendedFlags2 of a chunk
abbrev chunk_bytes : Bool → List ℕ
chunk_bytes chunk = if chunk then 1 ∷ [] else []

extended1_again : (flags extended1 : ℕ) (chunk there : Bool) (rest : List ℕ) → nat_lt 0 extended1 ≡ there → has flags 0x80 ≡ there → extended1_fault extended1 ≡ None → has extended1 0x80 ≡ chunk
    → flags_when (has flags 0x80) extended1_fault ((if there then extended1 ∷ chunk_bytes chunk else []) ++ rest) ≡ Ok (extended1, chunk_bytes chunk ++ rest)
unfolding flags_when flags_at
extended1_again flags extended1 chunk true rest positive is_there no_fault is_chunk = rw (is_there, no_fault) refl
extended1_again flags extended1 chunk false rest positive is_there no_fault is_chunk =
    let zero : extended1 ≡ 0 = let above : extended1 ≤ 0 = ltb-false 0 extended1 positive in omega arith in
    let no_chunk : chunk ≡ false = sym is_chunk ∙ ap (λ n. has n 0x80) zero in
    rw (is_there, zero, no_chunk) refl

extended2_again : (flags extended1 : ℕ) (ids chunk : Bool) (rest : List ℕ) → has flags 0x40 ≡ ids → has extended1 0x80 ≡ chunk → (chunk ≡ true → ids ≡ true)
    → flags_when (has extended1 0x80) (extended2_fault flags) (chunk_bytes chunk ++ rest) ≡ Ok (flag chunk 1, rest)
unfolding flags_when flags_at
extended2_again flags extended1 ids true rest is_ids is_chunk listed = rw (is_chunk, is_ids, listed refl) refl
extended2_again flags extended1 ids false rest is_ids is_chunk listed = rw is_chunk refl

no_promoted : (chunk : Bool) → has (flag chunk 1) 0x02 ≡ false
no_promoted true = refl
no_promoted false = refl

chunk_told : (chunk : Bool) → has (flag chunk 1) 0x01 ≡ chunk
chunk_told true = refl
chunk_told false = refl

chunk_listed : (ids : IdsValue) → is_chunk ids ≡ true → has_ids ids ≡ true
chunk_listed NoIds is = absurd cc
chunk_listed (ListOf bytes) is = refl
chunk_listed (ChunkOf id) is = refl

-- all parts behind the flags
abbrev parts_before : Parts → List ℕ → List ℕ
parts_before p rest =
    publisher_bytes p.publisher ++ (optional (λ guid. guid) p.class_id ++ (group_bytes (whole p) ++ (ids_bytes p.ids ++ (optional security_bytes p.security ++ rest))))

parts_again : (flags extended1 extended2 : ℕ) (there : Bool) (p : Parts) (rest : List ℕ) → TellsFlags (has_ids p.ids) there flags
    → TellsExtended (type_of p.publisher) (is_some p.class_id) (is_some p.security) (is_chunk p.ids) extended1 → has extended2 0x01 ≡ is_chunk p.ids → has extended2 0x02 ≡ false
    → IsSenders (whole p) → IsHeader (whole p) → parts_at flags extended1 extended2 (parts_before p rest) ≡ Ok (whole p, rest)
unfolding parts_at
parts_again flags extended1 extended2 there p rest tells extended chunk promoted senders is =
    let on_security = optional security_bytes p.security ++ rest in
    let on_ids = ids_bytes p.ids ++ on_security in
    let on_group = group_bytes (whole p) ++ on_ids in
    let on_class_id = optional (λ guid. guid) p.class_id ++ on_group in
    rw (
      tells.publisher,
      extended.type,
      publisher_again p.publisher on_class_id senders.text is.publisher,
      extended.class,
      guid_again p.class_id on_group is.class_id,
      tells.group,
      group_again p on_ids is,
      tells.ids,
      chunk,
      ids_again p.ids on_security senders.ids is.ids,
      no_extras extended1 extended2 on_security extended.timestamp extended.picoseconds promoted,
      extended.security,
      security_if p.security rest senders.security is.security,
    ) refl

whole_again : (p : Parts) (rest : List ℕ) → IsSenders (whole p) → IsHeader (whole p) → whole_at (flags_bytes (whole p) ++ parts_before p rest) ≡ Ok (whole p, rest)
unfolding whole_at flags_bytes flags_at
whole_again p rest senders is =
    let ids = has_ids p.ids in
    let chunk = is_chunk p.ids in
    let extended1 = extended1_byte (type_of p.publisher) (is_some p.class_id) (is_some p.security) chunk in
    let flags = flags_byte ids extended1 in
    let behind = parts_before p rest in
    let tells = flags_tell ids (nat_lt 0 extended1) in
    let extended = extended_tells p.publisher (is_some p.class_id) (is_some p.security) chunk in
    ap (λ (fault : Option HeaderFault). then_read (passing fault (got flags (extended_bytes extended1 chunk ++ behind))) (λ f. then_read (flags_when (has f.0 0x80) extended1_fault f.1) (λ e. then_read (flags_when (has e.0 0x80) (extended2_fault f.0) e.1) (λ g. parts_at f.0 e.0 g.0 g.1)))) tells.no_fault
    ∙ ap (λ (r : Result (ℕ × List ℕ) HeaderFault). then_read r (λ e. then_read (flags_when (has e.0 0x80) (extended2_fault flags) e.1) (λ g. parts_at flags e.0 g.0 g.1)))
    (extended1_again flags extended1 chunk (nat_lt 0 extended1) behind refl tells.extended extended.no_fault extended.extended2)
    ∙ ap (λ (r : Result (ℕ × List ℕ) HeaderFault). then_read r (λ g. parts_at flags extended1 g.0 g.1))
    (extended2_again flags extended1 ids chunk behind tells.ids extended.extended2 (chunk_listed p.ids))
    ∙ parts_again flags extended1 (flag chunk 1) (nat_lt 0 extended1) p rest tells extended (chunk_told chunk) (no_promoted chunk) senders is

regrouped : (a b c d e f rest : List ℕ) → (a ++ b ++ c ++ d ++ e ++ f) ++ rest ≡ a ++ (b ++ (c ++ (d ++ (e ++ (f ++ rest)))))
regrouped a b c d e f rest = simp append_assoc

written_again : (p : Parts) (rest : List ℕ) → IsSenders (whole p) → IsHeader (whole p) → header_at (header_bytes (whole p) ++ rest) ≡ Ok (whole p, rest)
unfolding header_bytes
written_again p rest senders is =
    header_whole (header_bytes (whole p) ++ rest)
    ∙ ap whole_at (regrouped (flags_bytes (whole p)) (publisher_bytes p.publisher) (optional (λ guid. guid) p.class_id) (group_bytes (whole p)) (ids_bytes p.ids) (optional security_bytes p.security) rest)
    ∙ whole_again p rest senders is

abbrev with_ids : HeaderValue → Option PublisherValue → Option ℕ → HeaderValue
with_ids h publisher group = record h { publisher = publisher; group = group }

by_ids : (h : HeaderValue) (publisher : Option PublisherValue) (group : Option ℕ) (rest : List ℕ) → IsSenders (with_ids h publisher group) → IsHeader (with_ids h publisher group)
    → header_at (header_bytes (with_ids h publisher group) ++ rest) ≡ Ok (with_ids h publisher group, rest)
by_ids h (Some publisher) (Some group) rest senders is =
    written_again (record { publisher = publisher; class_id = h.class_id; group = group; version = h.version; message_number = h.message_number; sequence = h.sequence; ids = h.ids; security = h.security }) rest senders is
by_ids h None group rest senders is = let there : Path Bool false true = senders.publisher in absurd cc
by_ids h (Some publisher) None rest senders is = let there : Path Bool false true = senders.group in absurd cc

pub header_again : (h : HeaderValue) (rest : List ℕ) → IsWritten h → header_at (header_bytes h ++ rest) ≡ Ok (h, rest)
header_again h rest is = by_ids h h.publisher h.group rest is.senders is.header

pub header_begins : (h : HeaderValue) (rest : List ℕ) → IsWritten h → BeginsWith (header_bytes h ++ rest) h (header_len h)
header_begins h rest is =
    let len = length-is_header h is.header in
    let behind : drop (header_len h) (header_bytes h ++ rest) ≡ rest = ap (λ n. drop n (header_bytes h ++ rest)) (sym len) ∙ drop-append_seam (header_bytes h) rest in
    record {
      within = omega (arith, len, length-append (header_bytes h) rest);
      read = header_again h rest is ∙ ap (λ (l : List ℕ). Ok (h, l)) (sym behind);
    }

pub same_header : (one other : HeaderValue) (rest after : List ℕ) → IsWritten one → IsWritten other → header_bytes one ++ rest ≡ header_bytes other ++ after
    → (one ≡ other) × (rest ≡ after)
same_header one other rest after is_one is_other same =
    let both : Path (Result (HeaderValue × List ℕ) HeaderFault) (Ok (one, rest)) (Ok (other, after)) =
    sym (header_again one rest is_one) ∙ ap header_at same ∙ header_again other after is_other in
    let pair : Path (HeaderValue × List ℕ) (one, rest) (other, after) = cc in
    (ap (λ (p : HeaderValue × List ℕ). p.0) pair, ap (λ (p : HeaderValue × List ℕ). p.1) pair)
