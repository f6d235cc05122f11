-- What a group that doesn't lack room has room for.
use Rattle.std.proofs.Common.{◌≡◌, ℕ, ◌+◌, ◌≤◌, Bool, true, false, ◌&&◌, ◌||◌, ◌==◌, not, nat_lt, List, length, sym, arith}
use Rattle.std.proofs.lemmas.Bool.{false≢true, or_parts}
use Rattle.std.proofs.lemmas.Bool.Decides.{nat_tests}
use Rattle.uadp_header.specs.Headers.{ListOf}
use Rattle.uadp_header.specs.Spelling.{header_len, extended1_in}
use Rattle.dataset_meta.specs.Metas.{MetaData}
use Rattle.config_tables.specs.declared.publisher.Publisher.{Publisher}
use Rattle.ps_config.specs.declared.header.HeaderSettings.{HeaderSettings}
use Rattle.ps_config.specs.declared.parts.GroupPart.{GroupPart}
use Rattle.ps_config.specs.Headers.{ids_of, header_of, signature_len}
use Rattle.ps_config.specs.Rooms.{is_fixed, header_settings, chunk_room, datagrams_in, frame_header, IsRoomy}
use Rattle.ps_config.proofs.HeaderSizes.{flag_most}

has_room : (fixed none many : Bool) → fixed ≡ false → (not fixed && (none || many)) ≡ false → (none ≡ false) × (many ≡ false)
has_room false none many e h = or_parts none many h
has_room true none many e h = absurd (false≢true (sym e))

both : (publisher : Publisher) (metas : List MetaData) (group : GroupPart) → IsRoomy publisher metas group
    → ((chunk_room publisher group == 0) ≡ false) × (nat_lt 1024 (datagrams_in (chunk_room publisher group) metas group.writer) ≡ false)
both publisher metas group r =
    has_room (is_fixed group.layout) (chunk_room publisher group == 0) (nat_lt 1024 (datagrams_in (chunk_room publisher group) metas group.writer)) r.dynamic r.room

some_room : (n : ℕ) → (n == 0) ≡ false → 1 ≤ n
some_room n h = grind (arith, nat_tests)

few_enough : (n : ℕ) → nat_lt 1024 n ≡ false → n ≤ 1024
few_enough n h = grind (arith, nat_tests)

pub chunk_roomy : (publisher : Publisher) (metas : List MetaData) (group : GroupPart) → IsRoomy publisher metas group → 1 ≤ chunk_room publisher group
chunk_roomy publisher metas group r = some_room (chunk_room publisher group) (both publisher metas group r).0

pub turn_roomy : (publisher : Publisher) (metas : List MetaData) (group : GroupPart) → IsRoomy publisher metas group
    → datagrams_in (chunk_room publisher group) metas group.writer ≤ 1024
turn_roomy publisher metas group r = few_enough (datagrams_in (chunk_room publisher group) metas group.writer) (both publisher metas group r).1

-- a header with one id is at most one byte longer than a chunk's
near_length : (publisher : Publisher) (settings : HeaderSettings) (id : List ℕ) → length id ≡ 2
    → header_len (header_of publisher settings (ListOf id)) ≤ header_len (header_of publisher settings (ids_of true)) + 1
unfolding header_len
near_length publisher settings id two = omega (arith, two, flag_most (nat_lt 0 (extended1_in (header_of publisher settings (ListOf id)))) 1)

pub frame_roomy : (publisher : Publisher) (metas : List MetaData) (group : GroupPart) (ids : List ℕ) → IsRoomy publisher metas group → length ids ≡ 2
    → frame_header publisher group ids + 12 + signature_len group.security ≤ group.max_size
frame_roomy publisher metas group ids r two =
    omega (arith, chunk_roomy publisher metas group r, near_length publisher (header_settings group) ids two)
