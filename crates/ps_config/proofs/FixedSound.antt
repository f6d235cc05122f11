-- The fixed groups and read groups of accepted tables.
use Rattle.std.proofs.Common.{◌≡◌, ℕ, zero, suc, ◌+◌, ◌-◌, ◌<◌, ◌≤◌, Bool, true, false, ◌&&◌, ◌||◌, ◌==◌, not, cond, nat_lt, nat_le, List, [], ◌∷◌, length, get_or, map, filter, find, slice_get, All, Option, Some, None, is_none, option_map, option_and_then, unwrap_or, refl, sym, ap, ◌∙◌, subst, arith}
use Rattle.std.specs.List.{position_or_len}
use Rattle.std.specs.Option.{option_map_or}
use Rattle.std.specs.Str.{bytes_eq}
use Rattle.std.proofs.lemmas.Bool.{false≢true, or_parts, eqb-true}
use Rattle.std.proofs.lemmas.Bool.Decides.{nat_tests}
use Rattle.std.proofs.lemmas.List.Elements.{All-map}
use Rattle.std.proofs.lemmas.List.Folds.{find_at}
use Rattle.toml.specs.Data.{Data, string, integer, float, boolean, datetime, array, table, Members, as_str}
use Rattle.dataset_meta.specs.Metas.{MetaData}
use Rattle.fixed_layout.specs.declared.slot.Slot.{Slot}
use Rattle.fixed_layout.specs.Slots.{AreSlots}
use Rattle.fixed_layout.specs.Spelling.{raw_size}
use Rattle.uadp_header.specs.Spelling.{header_len}
use Rattle.config_tables.specs.declared.fault.Fault.TheVariants.{WrongType}
use Rattle.config_tables.specs.declared.grammar.Form.TheVariants.{Text}
use Rattle.config_tables.specs.declared.grammar.Spelling.TheVariants.{Reference}
use Rattle.config_tables.specs.declared.key.Key.TheVariants as key
use Rattle.config_tables.specs.declared.place.Part.{Part}
use Rattle.config_tables.specs.declared.place.Part.TheVariants.{DataSet, Group, ReadGroup}
use Rattle.config_tables.specs.declared.place.Place.{Place}
use Rattle.config_tables.specs.Grammar.{rows_of, required}
use Rattle.config_tables.specs.Places.{is_outer, is_inner, index_of}
use Rattle.config_tables.specs.Tables.{Located, tables}
use Rattle.config_tables.specs.Values.{value_at, number_at, truth_at, at_most, value_fault}
use Rattle.ps_config.specs.Configs.{config_of, data_set_of, group_of, writer_of, read_group_of, reader_of, publisher_part, index_at}
use Rattle.ps_config.specs.Faults.{is_fault, index_named, names_nothing}
use Rattle.ps_config.specs.Fields.{name_of, outer_tables, elements_of, fields_of, publisher_members, set_named, width_named}
use Rattle.ps_config.specs.FixedSound.{front_size, raw_size_of, writer_slot, reader_slot, IsFixedWriter, IsFixedGroup, IsFixedReadGroup, IsFixedSound}
use Rattle.ps_config.specs.Headers.{ids_of, header_of, signature_len}
use Rattle.ps_config.specs.Layouts.{slot_of, LackSlotFaults}
use Rattle.ps_config.specs.Meaning.{PassTables}
use Rattle.ps_config.specs.Rooms.{is_fixed, header_settings}
use Rattle.ps_config.specs.Settings.{layout_at, security_at, publisher_at, settings_at}
use Rattle.ps_config.specs.Slots.{offset_of, size_of, header_of_fixed, front_length, has_quality}
use Rattle.ps_config.proofs.Rising.{map_twice}
use Rattle.ps_config.proofs.Clean.{clean}
use Rattle.ps_config.specs.declared.parts.GroupPart.{GroupPart}
use Rattle.ps_config.specs.declared.parts.ReadGroupPart.{ReadGroupPart}
use Rattle.ps_config.proofs.Elements.{IsOuterOf, IsInnerOf, IsOwn, outer_elements, inner_elements, own_elements}
use Rattle.ps_config.proofs.References.{short}
use Rattle.ps_config.proofs.SlotFaults.{group_judged, read_group_judged}
use Rattle.ps_config.proofs.Sound.{and_right, fault_at, there_at, unknown_at, few_data_sets}

-- ---- the data set that is named stands at its index

find_filter : {X : Type 0} (p q : X → Bool) (xs : List X) → find (λ x. p x && q x) xs ≡ find q (filter p xs)
find_filter p q [] = refl
find_filter p q (x ∷ xs) = go (p x) (find_filter p q xs)
  where
    go : (b : Bool) → find (λ y. p y && q y) xs ≡ find q (filter p xs) → cond (b && q x) (Some x) (find (λ y. p y && q y) xs) ≡ find q (cond b (x ∷ filter p xs) (filter p xs))
    go true same = ap (cond (q x) (Some x)) same
    go false same = same

at_index : (n most : ℕ) (b : Bool) → nat_lt n most ≡ b → is_none (cond b (Some n) None) ≡ false → most ≤ 255 → unwrap_or (option_and_then (at_most 255) (cond b (Some n) None)) 0 ≡ n
at_index n most true e h le =
    let lt : n < most = grind (arith, nat_tests) in
    ap (λ o. unwrap_or o 0) (short n most (nat_le n 255) refl lt le)
at_index n most false e h le = absurd (false≢true (sym h))

-- of a text that names a data set
text_named : (ts : List Located) (s : List ℕ) → length (outer_tables DataSet ts) ≤ 255 → is_none (index_named DataSet s ts) ≡ false
    → find (λ u. is_outer DataSet u.place && bytes_eq s (name_of u)) ts ≡ slice_get (outer_tables DataSet ts) (unwrap_or (option_and_then (at_most 255) (index_named DataSet s ts)) 0)
text_named ts s le h =
    let q = λ (u : Located). bytes_eq s (name_of u) in
    let xs = outer_tables DataSet ts in
    let index = at_index (position_or_len q xs) (length xs) (nat_lt (position_or_len q xs) (length xs)) refl h le in
    find_filter (λ (u : Located). is_outer DataSet u.place) q ts ∙ find_at q xs ∙ ap (slice_get xs) (sym index)

named : (ts : List Located) (outer : Members) (o : Option Data) → length (outer_tables DataSet ts) ≤ 255 → is_none o ≡ false
    → is_fault WrongType (option_and_then (value_fault outer (Text (Reference DataSet))) o) ≡ false → names_nothing ts (Some DataSet) (option_and_then as_str o) ≡ false
    → find (λ u. is_outer DataSet u.place && bytes_eq (unwrap_or (option_and_then as_str o) []) (name_of u)) ts
    ≡ slice_get (outer_tables DataSet ts) (unwrap_or (option_and_then (at_most 255) (option_and_then (λ name. index_named DataSet name ts) (option_and_then as_str o))) 0)
named ts outer None le a b c = absurd (false≢true (sym a))
named ts outer (Some (string s)) le a b c = text_named ts s le c
named ts outer (Some (integer z)) le a b c = absurd (false≢true (sym b))
named ts outer (Some (float x)) le a b c = absurd (false≢true (sym b))
named ts outer (Some (boolean x)) le a b c = absurd (false≢true (sym b))
named ts outer (Some (datetime x)) le a b c = absurd (false≢true (sym b))
named ts outer (Some (array x)) le a b c = absurd (false≢true (sym b))
named ts outer (Some (table x)) le a b c = absurd (false≢true (sym b))

set_index : List Located → Located → ℕ
set_index ts s = unwrap_or (index_at DataSet key.DataSet ts s.members) 0

set_is : (ts : List Located) → PassTables ts → (part : Part) (index : ℕ) (s : Located) → IsInnerOf part index ts s → slice_get (rows_of s.place) 2 ≡ Some (required key.DataSet (Text (Reference DataSet)))
    → set_named ts s ≡ slice_get (outer_tables DataSet ts) (unwrap_or (index_at DataSet key.DataSet ts s.members) 0)
set_is ts h part index s o at =
    let row = required key.DataSet (Text (Reference DataSet)) in
    named ts s.outer (value_at key.DataSet s.members) (few_data_sets ts h) (there_at s 2 key.DataSet (Text (Reference DataSet)) at o.is_clean.missing)
    (fault_at WrongType s 2 row at o.is_clean.wrong) (unknown_at ts s 2 row at o.is_clean.unknown_ref)

get_map : {X Y : Type 0} (f : X → Y) (xs : List X) (k : ℕ) → slice_get (map f xs) k ≡ option_map f (slice_get xs k)
get_map f [] k = refl
get_map f (x ∷ xs) zero = refl
get_map f (x ∷ xs) (suc k) = get_map f xs k

through : {X Y Z : Type 0} (f : X → Y) (g : Y → Z) (d : Z) (o : Option X) → option_map_or g (option_map f o) d ≡ option_map_or (λ x. g (f x)) o d
through f g d None = refl
through f g d (Some x) = refl

size_is : (ts : List Located) (s : Located) (k : ℕ) → set_named ts s ≡ slice_get (outer_tables DataSet ts) k
    → option_map_or (λ (meta : MetaData). raw_size meta.fields) (slice_get (map (data_set_of ts) (outer_tables DataSet ts)) k) 0 ≡ width_named ts s
unfolding data_set_of
size_is ts s k is =
    ap (λ o. option_map_or (λ (meta : MetaData). raw_size meta.fields) o 0) (get_map (data_set_of ts) (outer_tables DataSet ts) k)
    ∙ through (data_set_of ts) (λ (meta : MetaData). raw_size meta.fields) 0 (slice_get (outer_tables DataSet ts) k)
    ∙ ap (λ o. option_map_or (λ (u : Located). raw_size (fields_of ts (index_of u.place))) o 0) (sym is)

quality_is : (ts : List Located) (s : Located) (k : ℕ) → set_named ts s ≡ slice_get (outer_tables DataSet ts) k
    → option_map_or (λ (meta : MetaData). meta.quality) (slice_get (map (data_set_of ts) (outer_tables DataSet ts)) k) false ≡ has_quality ts s
unfolding data_set_of
quality_is ts s k is =
    ap (λ o. option_map_or (λ (meta : MetaData). meta.quality) o false) (get_map (data_set_of ts) (outer_tables DataSet ts) k)
    ∙ through (data_set_of ts) (λ (meta : MetaData). meta.quality) false (slice_get (outer_tables DataSet ts) k)
    ∙ ap (λ o. option_map_or (λ (u : Located). truth_at key.Quality false u.members) o false) (sym is)

-- ---- fixed groups

zero_not : (n : ℕ) → nat_lt 0 n ≡ false → n ≡ 0
zero_not n h = grind (arith, nat_tests)

is_not : (b : Bool) → not b ≡ false → b ≡ true
is_not true h = refl
is_not false h = sym h

-- each message of a fixed group's writer is a whole row without statuses
fixed_writer : (ts : List Located) → PassTables ts → (t s : Located) → is_fixed (layout_at t.members) ≡ true → IsOwn Group (index_of t.place) t.members ts s → IsFixedWriter (config_of ts) (writer_of ts s)
unfolding config_of writer_of
fixed_writer ts h t s fixed o =
    let is = set_is ts h Group (index_of t.place) s o.inner (ap (λ (q : Place). slice_get (rows_of q) 2) o.inner.place) in
    let count = number_at key.KeyFrameCount 65535 1 s.members == 1 in
    let alive = nat_lt 0 (number_at key.KeepAlive 3600000 0 s.members) in
    let here = and_right (is_inner Group s.place) _ (ap (is_inner Group) o.inner.place) o.inner.is_clean.fixed_only in
    let none : (not count || alive || has_quality ts s) ≡ false =
    and_right (is_fixed (layout_at s.outer)) _ (subst (λ (ms : Members). is_fixed (layout_at ms) ≡ true) (sym o.outer) fixed) here in
    let first = or_parts (not count || alive) (has_quality ts s) none in
    let second = or_parts (not count) alive first.0 in
    record {
      whole = eqb-true (number_at key.KeyFrameCount 65535 1 s.members) 1 (is_not count second.0);
      no_keep_alive = zero_not (number_at key.KeepAlive 3600000 0 s.members) second.1;
      no_quality = quality_is ts s _ is ∙ first.1;
    }

settings_are : (ts : List Located) (t : Located) → header_settings (group_of ts t) ≡ settings_at t.members
unfolding group_of settings_at
settings_are ts t = refl

header_is : (ts : List Located) (t : Located) → header_len (header_of (config_of ts).publisher.id (header_settings (group_of ts t)) (ids_of false)) ≡ header_of_fixed ts t.members
unfolding config_of publisher_part
header_is ts t = ap (λ settings. header_len (header_of (publisher_at key.Id (publisher_members ts)) settings (ids_of false))) (settings_are ts t)

-- ---- the slots of tables are those of the configuration

map_same : {X Y : Type 0} (f g : X → Y) (xs : List X) → All (λ x. f x ≡ g x) xs → map f xs ≡ map g xs
map_same f g [] all = refl
map_same f g (x ∷ xs) all = ap (λ y. y ∷ map f xs) (all zero x (omega arith)) ∙ ap (λ l. g x ∷ l) (map_same f g xs (λ k d within. all (suc k) d (omega (arith, within))))

abbrev slot_for : Located → ℕ → Slot
slot_for s need = record { offset = offset_of s; size = size_of s; need = need }

lacks_faults : (part : Part) (ts : List Located) → PassTables ts → (index : ℕ) → LackSlotFaults part ts index
lacks_faults part ts h index before s after split is =
    let c = clean ts h before s after split in
    record { clash = c.slot_clash; small = c.slot_small; past = c.slot_past }

writer_slot_is : (ts : List Located) → PassTables ts → (t s : Located) → IsOwn Group (index_of t.place) t.members ts s → writer_slot (config_of ts) (writer_of ts s) ≡ slot_of ts s
unfolding config_of writer_of set_index
writer_slot_is ts h t s o =
    let is = set_is ts h Group (index_of t.place) s o.inner (ap (λ (q : Place). slice_get (rows_of q) 2) o.inner.place) in
    let width : raw_size_of (config_of ts) (set_index ts s) ≡ width_named ts s = size_is ts s _ is in
    let front : front_length s ≡ front_size (truth_at key.Versions false s.members) = ap (λ b. cond (b && truth_at key.Versions false s.members) 11 3) (ap (is_inner Group) o.inner.place) in
    let need : front_size (truth_at key.Versions false s.members) + raw_size_of (config_of ts) (set_index ts s) ≡ front_length s + width_named ts s = omega (arith, width, front) in
    ap (slot_for s) need

fixed_slots : (document : Members) → PassTables (tables document) → (t : Located) → IsOuterOf Group (tables document) t → is_fixed (layout_at t.members) ≡ true
    → AreSlots (header_len (header_of (config_of (tables document)).publisher.id (header_settings (group_of (tables document) t)) (ids_of false)))
    ((group_of (tables document) t).max_size - signature_len (group_of (tables document) t).security) (map (writer_slot (config_of (tables document))) (group_of (tables document) t).writer)
unfolding group_of
fixed_slots document h t o fixed =
    let ts = tables document in
    let xs = elements_of Group (index_of t.place) ts in
    let limit = number_at key.MaxSize 65000 1400 t.members - signature_len (security_at t.members) in
    let made : AreSlots (header_of_fixed ts t.members) limit (map (slot_of ts) xs) = (group_judged document o.front t o.back o.split o.passes fixed).0 (lacks_faults Group ts h (index_of t.place)) in
    let same : map (writer_slot (config_of ts)) (map (writer_of ts) xs) ≡ map (slot_of ts) xs =
    map_twice (writer_of ts) (writer_slot (config_of ts)) xs
    ∙ map_same (λ s. writer_slot (config_of ts) (writer_of ts s)) (slot_of ts) xs (λ k d within. writer_slot_is ts h t _ (own_elements Group document h t o k d within)) in
    subst (λ l. AreSlots (header_len (header_of (config_of ts).publisher.id (header_settings (group_of ts t)) (ids_of false))) limit l) (sym same)
    (subst (λ n. AreSlots n limit (map (slot_of ts) xs)) (sym (header_is ts t)) made)

fixed_writers : (document : Members) → PassTables (tables document) → (t : Located) → IsOuterOf Group (tables document) t → is_fixed (layout_at t.members) ≡ true
    → All (IsFixedWriter (config_of (tables document))) (group_of (tables document) t).writer
unfolding group_of
fixed_writers document h t o fixed =
    let ts = tables document in
    All-map (IsFixedWriter (config_of ts)) (writer_of ts) (elements_of Group (index_of t.place) ts) (λ k d within. fixed_writer ts h t _ fixed (own_elements Group document h t o k d within))

fixed_group : (document : Members) → PassTables (tables document) → (t : Located) → IsOuterOf Group (tables document) t → is_fixed (layout_at t.members) ≡ true
    → IsFixedGroup (config_of (tables document)) (group_of (tables document) t)
fixed_group document h t o fixed = record { writers = fixed_writers document h t o fixed; slots = fixed_slots document h t o fixed }

-- ---- fixed read groups

reader_slot_is : (ts : List Located) → PassTables ts → (index : ℕ) (s : Located) → IsInnerOf ReadGroup index ts s → reader_slot (config_of ts) (reader_of ts s) ≡ slot_of ts s
unfolding config_of reader_of set_index
reader_slot_is ts h index s o =
    let is = set_is ts h ReadGroup index s o (ap (λ (q : Place). slice_get (rows_of q) 2) o.place) in
    let width : raw_size_of (config_of ts) (set_index ts s) ≡ width_named ts s = size_is ts s _ is in
    let front : front_length s ≡ 3 = ap (λ b. cond (b && truth_at key.Versions false s.members) 11 3) (ap (is_inner Group) o.place) in
    let need : 3 + raw_size_of (config_of ts) (set_index ts s) ≡ front_length s + width_named ts s = omega (arith, width, front) in
    ap (slot_for s) need

fixed_read_group : (document : Members) → PassTables (tables document) → (t : Located) → IsOuterOf ReadGroup (tables document) t → is_fixed (layout_at t.members) ≡ true
    → IsFixedReadGroup (config_of (tables document)) (read_group_of (tables document) t)
unfolding read_group_of
fixed_read_group document h t o fixed =
    let ts = tables document in
    let xs = elements_of ReadGroup (index_of t.place) ts in
    let limit = 65000 - signature_len (security_at t.members) in
    let made : AreSlots 0 limit (map (slot_of ts) xs) = (read_group_judged document o.front t o.back o.split o.passes fixed).0 (lacks_faults ReadGroup ts h (index_of t.place)) in
    let same : map (reader_slot (config_of ts)) (map (reader_of ts) xs) ≡ map (slot_of ts) xs =
    map_twice (reader_of ts) (reader_slot (config_of ts)) xs
    ∙ map_same (λ s. reader_slot (config_of ts) (reader_of ts s)) (slot_of ts) xs (λ k d within. reader_slot_is ts h (index_of t.place) _ (inner_elements ReadGroup (index_of t.place) ts h k d within)) in
    record { slots = subst (AreSlots 0 limit) (sym same) made }

group_layout : (ts : List Located) (t : Located) → (group_of ts t).layout ≡ layout_at t.members
unfolding group_of
group_layout ts t = refl

read_group_layout : (ts : List Located) (t : Located) → (read_group_of ts t).layout ≡ layout_at t.members
unfolding read_group_of
read_group_layout ts t = refl

pub fixed_sound : (document : Members) → PassTables (tables document) → IsFixedSound (config_of (tables document))
unfolding config_of
fixed_sound document h =
    let ts = tables document in
    record {
      groups = All-map (λ (group : GroupPart). is_fixed group.layout ≡ true → IsFixedGroup (config_of ts) group) (group_of ts) (outer_tables Group ts)
          (λ k d within fixed. fixed_group document h _ (outer_elements Group ts h k d within) (ap is_fixed (sym (group_layout ts (get_or (outer_tables Group ts) k d))) ∙ fixed));
      readgroups = All-map (λ (group : ReadGroupPart). is_fixed group.layout ≡ true → IsFixedReadGroup (config_of ts) group) (read_group_of ts) (outer_tables ReadGroup ts)
          (λ k d within fixed. fixed_read_group document h _ (outer_elements ReadGroup ts h k d within) (ap is_fixed (sym (read_group_layout ts (get_or (outer_tables ReadGroup ts) k d))) ∙ fixed));
    }
