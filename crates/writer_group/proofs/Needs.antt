-- The memory that turns need: of a group no more than of all, and never more than the largest.
use Rattle.std.proofs.Common.{◌≡◌, ℕ, zero, suc, ◌+◌, ◌*◌, ◌<◌, ◌≤◌, Bool, true, false, List, [], ◌∷◌, length, get_or, refl, sym, ap, ◌∙◌, arith, All, length-append}
use Rattle.std.specs.Prelude.{max, min, vec_len, if◌then◌else◌}
use Rattle.std.proofs.lemmas.List.Elements.{All-head, All-tail}
use Rattle.std.proofs.lemmas.List.Sums.{sum_by-cons}
use Rattle.dataset_meta.specs.Metas.{MetaData}
use Rattle.config_tables.specs.declared.publisher.Publisher.{Publisher}
use Rattle.ps_config.specs.declared.parts.Config.{Config}
use Rattle.ps_config.specs.declared.parts.GroupPart.{GroupPart}
use Rattle.ps_config.specs.declared.parts.WriterPart.{WriterPart}
use Rattle.ps_config.specs.Beginning.{changed_at, config_beginning, group_beginning, writer_beginning}
use Rattle.ps_config.specs.Rooms.{chunk_room, datagrams_in, datagrams_of, is_fixed}
use Rattle.writer_group.specs.declared.datagrams.Datagrams.{Datagrams}
use Rattle.writer_group.specs.Needs.{bytes_need, datagrams_need, frames_need, group_need, most_of}
use Rattle.writer_group.specs.Posting.{joined}
use Rattle.writer_group.specs.Standing.{HasRoom, HasRoomFor, HasRoomOf, IsReserved}

-- ---- the larger and the smaller number

max-left : (a b : ℕ) → a ≤ max a b
max-left a b = omega arith

max-right : (a b : ℕ) → b ≤ max a b
max-right a b = omega arith

max-least : (a b n : ℕ) → a ≤ n → b ≤ n → max a b ≤ n
max-least a b n one other = omega (arith, one, other)

min-most : (a b n : ℕ) → n ≤ a → n ≤ b → n ≤ min a b
min-most a b n one other = omega (arith, one, other)

min-left : (a b : ℕ) → min a b ≤ a
min-left a b = omega arith

pub min-within : (a b : ℕ) → b ≤ a → min a b ≡ b
min-within a b within = omega (arith, within)

-- ---- the largest number of groups

most-at : (number : GroupPart → ℕ) (parts : List GroupPart) (index : ℕ) (d : GroupPart) → index < length parts
    → number (get_or parts index d) ≤ most_of number parts
most-at number [] index d within = absurd (omega (arith, within))
most-at number (part ∷ parts) zero d within = max-left (number part) (most_of number parts)
most-at number (part ∷ parts) (suc index) d within =
    omega (arith, most-at number parts index d (omega (arith, within)), max-right (number part) (most_of number parts))

most-within : (number : GroupPart → ℕ) (most : ℕ) (parts : List GroupPart) → ((part : GroupPart) → number part ≤ most) → most_of number parts ≤ most
most-within number most [] each = omega arith
most-within number most (part ∷ parts) each = max-least (number part) (most_of number parts) most (each part) (most-within number most parts each)

-- ---- the datagrams of a group

need-fixed : (publisher : Publisher) (metas : List MetaData) (part : GroupPart) → is_fixed part.layout ≡ true → datagrams_need publisher metas part ≡ 1
need-fixed publisher metas part fixed =
    ap (λ (b : Bool). if b then 1 else min 1024 (datagrams_in (chunk_room publisher part) metas part.writer)) fixed

need-dynamic : (publisher : Publisher) (metas : List MetaData) (part : GroupPart) → is_fixed part.layout ≡ false
    → datagrams_need publisher metas part ≡ min 1024 (datagrams_in (chunk_room publisher part) metas part.writer)
need-dynamic publisher metas part dynamic =
    ap (λ (b : Bool). if b then 1 else min 1024 (datagrams_in (chunk_room publisher part) metas part.writer)) dynamic

pub need-one : (publisher : Publisher) (metas : List MetaData) (part : GroupPart) → is_fixed part.layout ≡ true → 1 ≤ datagrams_need publisher metas part
need-one publisher metas part fixed = omega (arith, need-fixed publisher metas part fixed)

pub need-some : (publisher : Publisher) (metas : List MetaData) (part : GroupPart) (count : ℕ) → is_fixed part.layout ≡ false → count ≤ 1024
    → count ≤ datagrams_in (chunk_room publisher part) metas part.writer → count ≤ datagrams_need publisher metas part
need-some publisher metas part count dynamic few fewer =
    omega (
      arith,
      need-dynamic publisher metas part dynamic,
      min-most 1024 (datagrams_in (chunk_room publisher part) metas part.writer) count few fewer,
    )

pub need-few : (publisher : Publisher) (metas : List MetaData) (part : GroupPart) → datagrams_need publisher metas part ≤ 1024
need-few publisher metas part = by_layout (is_fixed part.layout)
  where
    by_layout : (b : Bool) → (if b then 1 else min 1024 (datagrams_in (chunk_room publisher part) metas part.writer)) ≤ 1024
    by_layout true = omega arith
    by_layout false = min-left 1024 (datagrams_in (chunk_room publisher part) metas part.writer)

-- ---- and their bytes

times-more : (most count need : ℕ) → count ≤ need → most * count ≤ need * most
times-more most count need fewer = grind (arith, fewer)

joined-most : (most : ℕ) (datagrams : List (List ℕ)) → All (λ (d : List ℕ). length d ≤ most) datagrams → length (joined datagrams) ≤ most * length datagrams
joined-most most [] short = omega arith
joined-most most (datagram ∷ datagrams) short =
    let first : length datagram ≤ most = All-head (λ (d : List ℕ). length d ≤ most) datagram datagrams short in
    let rest = joined-most most datagrams (All-tail (λ (d : List ℕ). length d ≤ most) datagram datagrams short) in
    omega (arith, length-append datagram (joined datagrams), first, rest)

-- datagrams that are short and few have room
pub joined-within : (publisher : Publisher) (metas : List MetaData) (part : GroupPart) (datagrams : List (List ℕ))
    → All (λ (d : List ℕ). length d ≤ part.max_size) datagrams → length datagrams ≤ datagrams_need publisher metas part
    → length (joined datagrams) ≤ 229376 → length (joined datagrams) ≤ bytes_need publisher metas part
joined-within publisher metas part datagrams short few most =
    let need = datagrams_need publisher metas part in
    min-most 229376 (need * part.max_size) (length (joined datagrams)) most
    (omega (arith, joined-most part.max_size datagrams short, times-more part.max_size (length datagrams) need few))

-- ---- room

-- memory with room for all groups has room for each
pub room-at : (config : Config) (metas : List MetaData) (index : ℕ) (part : GroupPart) (out : Datagrams) → index < length config.group
    → part ≡ get_or config.group index part → HasRoomFor config metas out → HasRoomOf (group_need config.publisher.id metas part) out
room-at config metas index part out within is has =
    let publisher = config.publisher.id in
    let here = get_or config.group index part in
    let frames : frames_need part ≤ most_of frames_need config.group =
    omega (arith, ap frames_need is, most-at frames_need config.group index part within) in
    let bytes : bytes_need publisher metas part ≤ most_of (bytes_need publisher metas) config.group =
    omega (arith, ap (bytes_need publisher metas) is, most-at (bytes_need publisher metas) config.group index part within) in
    let datagrams : datagrams_need publisher metas part ≤ most_of (datagrams_need publisher metas) config.group =
    omega (arith, ap (datagrams_need publisher metas) is, most-at (datagrams_need publisher metas) config.group index part within) in
    record {
      within = has.within;
      frames = omega (arith, frames, has.frames);
      bytes = omega (arith, bytes, has.bytes);
      loads = omega (arith, datagrams, has.loads);
      ranges = omega (arith, datagrams, has.ranges);
    }

pub frames-most : (parts : List GroupPart) → most_of frames_need parts ≤ 32768
frames-most parts = most-within frames_need 32768 parts (λ part. min-left 32768 (2048 * length part.writer))

pub bytes-most : (publisher : Publisher) (metas : List MetaData) (parts : List GroupPart) → most_of (bytes_need publisher metas) parts ≤ 229376
bytes-most publisher metas parts =
    most-within (bytes_need publisher metas) 229376 parts (λ part. min-left 229376 (datagrams_need publisher metas part * part.max_size))

datagrams-most : (publisher : Publisher) (metas : List MetaData) (parts : List GroupPart) → most_of (datagrams_need publisher metas) parts ≤ 1024
datagrams-most publisher metas parts = most-within (datagrams_need publisher metas) 1024 parts (need-few publisher metas)

-- memory for the largest turn has room for the groups of each configuration
pub room-largest : (config : Config) (metas : List MetaData) (out : Datagrams) → IsReserved out → HasRoomFor config metas out
room-largest config metas out has =
    let publisher = config.publisher.id in
    let frames = frames-most config.group in
    let bytes = bytes-most publisher metas config.group in
    let datagrams = datagrams-most publisher metas config.group in
    record {
      within = has.within;
      frames = omega (arith, frames, has.frames);
      bytes = omega (arith, bytes, has.bytes);
      loads = omega (arith, datagrams, has.loads);
      ranges = omega (arith, datagrams, has.ranges);
    }

-- so many bytes has a frame of each writer
pub frames-room : (config : Config) (metas : List MetaData) (part : GroupPart) (out : Datagrams) → length part.writer ≤ 16
    → HasRoomOf (group_need config.publisher.id metas part) out → 2048 * length part.writer ≤ vec_len out.spelled
frames-room config metas part out few has =
    omega (arith, min-within 32768 (2048 * length part.writer) (omega (arith, few)), has.frames)

-- ---- a configuration of which a writer begins at another number needs as much

most-changed : (number : GroupPart → ℕ) (change : GroupPart → GroupPart) (place : ℕ) (parts : List GroupPart)
    → ((part : GroupPart) → number (change part) ≡ number part) → most_of number (changed_at place change parts) ≡ most_of number parts
most-changed number change place [] same = refl
most-changed number change zero (part ∷ parts) same = ap (λ (n : ℕ). max n (most_of number parts)) (same part)
most-changed number change (suc place) (part ∷ parts) same = ap (max (number part)) (most-changed number change place parts same)

length-changed : (place : ℕ) (change : WriterPart → WriterPart) (writers : List WriterPart) → length (changed_at place change writers) ≡ length writers
length-changed place change [] = refl
length-changed zero change (writer ∷ writers) = refl
length-changed (suc place) change (writer ∷ writers) = ap suc (length-changed place change writers)

sum-changed : (room : ℕ) (metas : List MetaData) (place first : ℕ) (writers : List WriterPart)
    → datagrams_in room metas (changed_at place (writer_beginning first) writers) ≡ datagrams_in room metas writers
sum-changed room metas place first [] = refl
sum-changed room metas zero first (writer ∷ writers) =
    sum_by-cons (datagrams_of room metas) (writer_beginning first writer) writers ∙ sym (sum_by-cons (datagrams_of room metas) writer writers)
sum-changed room metas (suc place) first (writer ∷ writers) =
    sum_by-cons (datagrams_of room metas) writer (changed_at place (writer_beginning first) writers)
    ∙ ap (λ (n : ℕ). datagrams_of room metas writer + n) (sum-changed room metas place first writers)
    ∙ sym (sum_by-cons (datagrams_of room metas) writer writers)

frames-begun : (writer first : ℕ) (part : GroupPart) → frames_need (group_beginning writer first part) ≡ frames_need part
frames-begun writer first part = ap (λ (n : ℕ). min 32768 (2048 * n)) (length-changed writer (writer_beginning first) part.writer)

datagrams-begun : (publisher : Publisher) (metas : List MetaData) (writer first : ℕ) (part : GroupPart)
    → datagrams_need publisher metas (group_beginning writer first part) ≡ datagrams_need publisher metas part
datagrams-begun publisher metas writer first part =
    ap (λ (n : ℕ). if is_fixed part.layout then 1 else min 1024 n) (sum-changed (chunk_room publisher part) metas writer first part.writer)

bytes-begun : (publisher : Publisher) (metas : List MetaData) (writer first : ℕ) (part : GroupPart)
    → bytes_need publisher metas (group_beginning writer first part) ≡ bytes_need publisher metas part
bytes-begun publisher metas writer first part =
    ap (λ (n : ℕ). min 229376 (n * part.max_size)) (datagrams-begun publisher metas writer first part)

pub room-begun : (config : Config) (group writer first : ℕ) (out : Datagrams) → HasRoom config out → HasRoom (config_beginning group writer first config) out
room-begun config group writer first out has =
    let publisher = config.publisher.id in
    let metas = config.dataset in
    let change = group_beginning writer first in
    let frames = most-changed frames_need change group config.group (frames-begun writer first) in
    let bytes = most-changed (bytes_need publisher metas) change group config.group (bytes-begun publisher metas writer first) in
    let datagrams = most-changed (datagrams_need publisher metas) change group config.group (datagrams-begun publisher metas writer first) in
    record {
      within = has.within;
      frames = omega (arith, frames, has.frames);
      bytes = omega (arith, bytes, has.bytes);
      loads = omega (arith, datagrams, has.loads);
      ranges = omega (arith, datagrams, has.ranges);
    }
