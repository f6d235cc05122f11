-- The faults of slots (OPC 10000-14 7.2.4.4, fixed layouts): FixedOnlyKeys, SlotClash, SlotSmall, SlotPast.
use Rattle.std.specs.Prelude.{ℕ, ◌+◌, ◌==◌, Bool, false, ◌&&◌, ◌||◌, not, nat_lt, List, if◌then◌else◌}
use Rattle.std.specs.Option.{option_map_or}
use Rattle.std.specs.List.{list_any}
use Rattle.toml.specs.Data.{Members}
use Rattle.uadp_header.specs.Spelling.{header_len}
use Rattle.config_tables.specs.declared.key.Key.TheVariants as key
use Rattle.config_tables.specs.declared.place.Part.TheVariants.{Group, ReadGroup}
use Rattle.config_tables.specs.Places.{is_inner, shares_outer}
use Rattle.config_tables.specs.Tables.{Located}
use Rattle.config_tables.specs.Values.{number_at, truth_at}
use Rattle.ps_config.specs.Fields.{publisher_members, set_named, width_named}
use Rattle.ps_config.specs.Headers.{ids_of, header_of, signature_len}
use Rattle.ps_config.specs.Rooms.{is_fixed}
use Rattle.ps_config.specs.Settings.{layout_at, security_at, publisher_at, settings_at}

-- a writer or a reader of a fixed group
abbrev pub is_slot : Located → Bool
is_slot t = (is_inner Group t.place || is_inner ReadGroup t.place) && is_fixed (layout_at t.outer)

abbrev pub offset_of : Located → ℕ
offset_of t = number_at key.Offset 65000 0 t.members

abbrev pub size_of : Located → ℕ
size_of t = number_at key.Size 65000 0 t.members

-- the two have a byte in common
abbrev pub overlaps : Located → Located → Bool
overlaps s t =
    nat_lt 0 (size_of s) && (nat_lt 0 (size_of t)
    && (nat_lt (offset_of s) (offset_of t + size_of t) && nat_lt (offset_of t) (offset_of s + size_of s)))

-- the length of the header of a fixed group's datagram, which has no payload header
abbrev pub header_of_fixed : List Located → Members → ℕ
header_of_fixed ts group =
    header_len (header_of (publisher_at key.Id (publisher_members ts)) (settings_at group) (ids_of false))

-- a writer's slot begins within the header
abbrev pub overlaps_header : List Located → Located → Bool
overlaps_header ts t =
    is_inner Group t.place && (nat_lt 0 (size_of t) && nat_lt (offset_of t) (header_of_fixed ts t.outer))

-- a slot has a byte in common with an earlier one of its group, or a writer's slot with the header
abbrev pub has_slot_clash : List Located → List Located → Located → Bool
has_slot_clash ts before t =
    is_slot t && (list_any (λ s. shares_outer t.place s.place && overlaps t s) before || overlaps_header ts t)

-- the front of a slot's message: flags and number, and the version's two parts for a writer that sends them
abbrev pub front_length : Located → ℕ
front_length t = if is_inner Group t.place && truth_at key.Versions false t.members then 11 else 3

-- a slot is smaller than its message
abbrev pub is_slot_small : List Located → Located → Bool
is_slot_small ts t = is_slot t && nat_lt (size_of t) (front_length t + width_named ts t)

abbrev pub slot_limit : Located → ℕ
slot_limit t = if is_inner Group t.place then number_at key.MaxSize 65000 1400 t.outer else 65000

-- a slot, and the signature after it, go past the datagram's end
abbrev pub is_slot_past : Located → Bool
is_slot_past t = is_slot t && nat_lt (slot_limit t) (offset_of t + size_of t + signature_len (security_at t.outer))

-- the data set that a writer names has quality
abbrev pub has_quality : List Located → Located → Bool
has_quality ts t = option_map_or (λ s. truth_at key.Quality false s.members) (set_named ts t) false

-- in a fixed group a writer with a key frame count other than 1, a keep-alive time, or a data set with quality
abbrev pub is_not_for_fixed : List Located → Located → Bool
is_not_for_fixed ts t =
    is_inner Group t.place
    && (is_fixed (layout_at t.outer)
    && (not (number_at key.KeyFrameCount 65535 1 t.members == 1)
    || nat_lt 0 (number_at key.KeepAlive 3600000 0 t.members)
    || has_quality ts t))
