-- What holds of accepted tables' configuration.
use Rattle.std.proofs.Common.{◌≡◌, ◌⊎◌, inl, inr, ℕ, ◌^◌, ◌<◌, ◌≤◌, Bool, true, false, ◌&&◌, ◌||◌, not, cond, nat_lt, List, length, map, slice_get, slice_index, All, IfSome, Option, Some, is_none, is_some, unwrap_or, option_and_then, refl, sym, ap, ◌∙◌, subst, arith}
use Rattle.std.specs.Bool.{beq}
use Rattle.std.specs.List.Sorted.{IsStrictlyIncreasing}
use Rattle.std.proofs.lemmas.Bool.{false≢true, and_parts}
use Rattle.std.proofs.lemmas.Bool.Decides.{nat_tests}
use Rattle.std.proofs.lemmas.List.{length-map}
use Rattle.std.proofs.lemmas.List.Elements.{All-map}
use Rattle.toml.specs.Data.{Members, as_str}
use Rattle.group_keys.specs.KeySets.{encrypting_length}
use Rattle.dataset_meta.specs.Metas.{IsMeta}
use Rattle.config_tables.specs.declared.fault.Fault.{Fault}
use Rattle.config_tables.specs.declared.fault.Fault.TheVariants.{WrongType, BadNumber, FrameLarge}
use Rattle.config_tables.specs.declared.grammar.Form.{Form}
use Rattle.config_tables.specs.declared.grammar.Row.{Row}
use Rattle.config_tables.specs.declared.grammar.Form.TheVariants.{Text}
use Rattle.config_tables.specs.declared.grammar.Spelling.TheVariants.{Reference}
use Rattle.config_tables.specs.declared.key.Key.{Key}
use Rattle.config_tables.specs.declared.key.Key.TheVariants as key
use Rattle.config_tables.specs.declared.place.Part.TheVariants.{DataSet, KeyGroup, Group, ReadGroup}
use Rattle.config_tables.specs.declared.place.Place.{Place}
use Rattle.config_tables.specs.Grammar.{rows_of, number, required, optional}
use Rattle.config_tables.specs.Places.{is_outer, is_inner, index_of}
use Rattle.config_tables.specs.Tables.{Located, tables}
use Rattle.config_tables.specs.Texts.{hex_bytes}
use Rattle.config_tables.specs.Values.{value_at, text_at, number_at, row_fault}
use Rattle.ps_config.specs.declared.parts.KeyPart.{KeyPart}
use Rattle.ps_config.specs.Configs.{config_of, data_set_of, key_group_of, key_of, group_of, writer_of, read_group_of, reader_of, publisher_part, is_long, index_at}
use Rattle.ps_config.specs.Faults.{lacks, has_missing_key, is_fault, has_value_fault, referred, names_nothing, has_unknown_ref, starts_at_zero, rises as rise}
use Rattle.ps_config.specs.Fields.{outer_tables, elements_of}
use Rattle.ps_config.specs.Headers.{is_secured}
use Rattle.ps_config.specs.Meaning.{StandsNowhere, PassTables}
use Rattle.ps_config.specs.Refusals.{stands}
use Rattle.ps_config.specs.Rooms.{lacks_room}
use Rattle.ps_config.specs.Settings.{policy_at, security_at}
use Rattle.ps_config.specs.Sound.{IsWithin, IsKeyGroup, IsKeyed, IsWriter, IsGroup, IsReader, IsReadGroup}
use Rattle.ps_config.proofs.Clean.{IsClean}
use Rattle.ps_config.proofs.Distinct.{read_ids_distinct}
use Rattle.ps_config.proofs.Elements.{IsOuterOf, IsInnerOf, IsOwn, outer_elements, inner_elements, own_elements, few_elements, few_keys}
use Rattle.ps_config.proofs.Hexes.{hex_length}
use Rattle.ps_config.proofs.MetaFacts.{accepted_meta}
use Rattle.ps_config.proofs.Passing.{none_at, number_within}
use Rattle.ps_config.proofs.Publishers.{short_at}
use Rattle.ps_config.proofs.References.{IsThere, named_there, index_there}
use Rattle.ps_config.proofs.Rising.{rising, some_first, map_twice}

-- ---- data sets

pub metas_are : (ts : List Located) → PassTables ts → All (λ meta. IsMeta meta.fields) (map (data_set_of ts) (outer_tables DataSet ts))
unfolding data_set_of
metas_are ts h =
    All-map (λ meta. IsMeta meta.fields) (data_set_of ts) (outer_tables DataSet ts)
    (λ k d within. let o = outer_elements DataSet ts h k d within in accepted_meta ts h o.front _ o.back o.split _ o.place)

-- ---- key groups

pub not_no : (b : Bool) → not b ≡ false → b ≡ true
not_no true h = refl
not_no false h = sym h

pub lengths : (ts : List Located) (t s : Located) → s.outer ≡ t.members → length (key_of s).encrypting ≡ encrypting_length (is_long (policy_at t.members))
unfolding key_of
lengths ts t s e =
    go (is_long (policy_at s.outer)) refl ∙ ap (λ ms. encrypting_length (is_long (policy_at ms))) e
  where
    go : (b : Bool) → is_long (policy_at s.outer) ≡ b → length (cond b (hex_bytes 32 (text_at key.Encrypting s.members)) (hex_bytes 16 (text_at key.Encrypting s.members))) ≡ encrypting_length b
    go true is = hex_length 32 (text_at key.Encrypting s.members)
    go false is = hex_length 16 (text_at key.Encrypting s.members)

pub moments_are : (keys : List Located) → map (λ (part : KeyPart). part.from) (map key_of keys) ≡ map (λ k. number_at key.From (2 ^ 40) 0 k.members) keys
unfolding key_of
moments_are keys = map_twice key_of (λ (part : KeyPart). part.from) keys

pub tokens_are : (keys : List Located) → map (λ (part : KeyPart). part.token) (map key_of keys) ≡ map (λ k. number_at key.Token 4294967295 0 k.members) keys
unfolding key_of
tokens_are keys = map_twice key_of (λ (part : KeyPart). part.token) keys

pub and_right : (a b : Bool) → a ≡ true → (a && b) ≡ false → b ≡ false
and_right true b is h = h
and_right false b is h = absurd (false≢true is)

key_group_is : (document : Members) → PassTables (tables document) → (t : Located) → IsOuterOf KeyGroup (tables document) t → IsKeyGroup (key_group_of (tables document) t)
unfolding key_group_of
key_group_is document h t o =
    let ts = tables document in
    let keys = elements_of KeyGroup (index_of t.place) ts in
    let starts = starts_at_zero (map (λ k. number_at key.From (2 ^ 40) 0 k.members) keys) in
    let later = rise (map (λ k. number_at key.From (2 ^ 40) 0 k.members) keys) in
    let higher = rise (map (λ k. number_at key.Token 4294967295 0 k.members) keys) in
    let order : (starts && (later && higher)) ≡ true = not_no (starts && (later && higher)) (and_right (is_outer KeyGroup t.place) (not (starts && (later && higher))) o.passes o.is_clean.key_order) in
    let first = some_first (map (λ k. number_at key.From (2 ^ 40) 0 k.members) keys) (and_parts starts (later && higher) order).0 in
    let both = and_parts later higher (and_parts starts (later && higher) order).1 in
    record {
      has_key = omega (arith, first.0, length-map keys (λ (k : Located). number_at key.From (2 ^ 40) 0 k.members), length-map keys key_of);
      few = omega (arith, few_keys ts h (index_of t.place), length-map keys key_of);
      first_at_zero = ap (λ (l : List ℕ). slice_index l 0) (moments_are keys) ∙ first.1;
      tokens_rise = subst IsStrictlyIncreasing (sym (tokens_are keys)) (rising (map (λ k. number_at key.Token 4294967295 0 k.members) keys) both.1);
      moments_rise = subst IsStrictlyIncreasing (sym (moments_are keys)) (rising (map (λ k. number_at key.From (2 ^ 40) 0 k.members) keys) both.0);
      lengths_fit = All-map (λ (part : KeyPart). length part.encrypting ≡ encrypting_length (is_long (policy_at t.members))) key_of keys
          (λ k d within. lengths ts t _ (own_elements KeyGroup document h t o k d within).outer);
    }

pub key_groups_are : (document : Members) → PassTables (tables document) → All IsKeyGroup (map (key_group_of (tables document)) (outer_tables KeyGroup (tables document)))
key_groups_are document h =
    All-map IsKeyGroup (key_group_of (tables document)) (outer_tables KeyGroup (tables document))
    (λ k d within. key_group_is document h _ (outer_elements KeyGroup (tables document) h k d within))

-- ---- what the rows of a table say

pub fault_at : (fault : Fault) (t : Located) (k : ℕ) (row : Row) → slice_get (rows_of t.place) k ≡ Some row → has_value_fault fault t ≡ false → is_fault fault (row_fault t row) ≡ false
fault_at fault t k row at none = none_at (λ row. is_fault fault (row_fault t row)) (rows_of t.place) k row none at

pub there_at : (t : Located) (k : ℕ) (ky : Key) (form : Form) → slice_get (rows_of t.place) k ≡ Some (required ky form) → has_missing_key t ≡ false → is_none (value_at ky t.members) ≡ false
there_at t k ky form at none = none_at (lacks t) (rows_of t.place) k (required ky form) none at

pub unknown_at : (ts : List Located) (t : Located) (k : ℕ) (row : Row) → slice_get (rows_of t.place) k ≡ Some row → has_unknown_ref ts t ≡ false
    → names_nothing ts (referred row.form) (option_and_then as_str (value_at row.key t.members)) ≡ false
unknown_at ts t k row at none = none_at (λ row. names_nothing ts (referred row.form) (option_and_then as_str (value_at row.key t.members))) (rows_of t.place) k row none at

needed : (t : Located) (k : ℕ) (ky : Key) (least most default : ℕ) → slice_get (rows_of t.place) k ≡ Some (required ky (number least most))
    → has_missing_key t ≡ false → has_value_fault WrongType t ≡ false → has_value_fault BadNumber t ≡ false → IsWithin least most (number_at ky most default t.members)
needed t k ky least most default at missing wrong bad =
    number_within t.outer (value_at ky t.members) least most default (inl (there_at t k ky (number least most) at missing))
    (fault_at WrongType t k (required ky (number least most)) at wrong) (fault_at BadNumber t k (required ky (number least most)) at bad)

given : (t : Located) (k : ℕ) (ky : Key) (least most default : ℕ) → slice_get (rows_of t.place) k ≡ Some (optional ky (number least most)) → IsWithin least most default
    → has_value_fault WrongType t ≡ false → has_value_fault BadNumber t ≡ false → IsWithin least most (number_at ky most default t.members)
given t k ky least most default at within wrong bad =
    number_within t.outer (value_at ky t.members) least most default (inr within)
    (fault_at WrongType t k (optional ky (number least most)) at wrong) (fault_at BadNumber t k (optional ky (number least most)) at bad)

-- ---- keys and data sets that are named

few_key_groups : (ts : List Located) → PassTables ts → length (outer_tables KeyGroup ts) ≤ 255
few_key_groups ts h = let few = few_elements KeyGroup 4 ts (λ i. refl) h in omega (arith, few)

pub few_data_sets : (ts : List Located) → PassTables ts → length (outer_tables DataSet ts) ≤ 255
few_data_sets ts h = let few = few_elements DataSet 8 ts (λ i. refl) h in omega (arith, few)

same_bool : (a b : Bool) → not (beq a b) ≡ false → a ≡ b
same_bool true true h = refl
same_bool false false h = refl
same_bool true false h = absurd (false≢true (sym h))
same_bool false true h = absurd (false≢true (sym h))

below : (n m : ℕ) (o : Option ℕ) → n ≡ m → IfSome o (λ k. k < n) → IfSome o (λ k. k < m)
below n m o same h = subst (λ (l : ℕ). IfSome o (λ k. k < l)) same h

keyed : (ts : List Located) → PassTables ts → (before : List Located) (t : Located) (k : ℕ) → IsClean ts before t → (is_outer Group t.place || is_outer ReadGroup t.place) ≡ true
    → slice_get (rows_of t.place) k ≡ Some (optional key.KeyGroup (Text (Reference KeyGroup)))
    → IsKeyed (config_of ts) (is_secured (security_at t.members)) (index_at KeyGroup key.KeyGroup ts t.members)
unfolding config_of
keyed ts h before t k c passes at =
    let row = optional key.KeyGroup (Text (Reference KeyGroup)) in
    let found : IsThere (length (outer_tables KeyGroup ts)) (value_at key.KeyGroup t.members) (index_at KeyGroup key.KeyGroup ts t.members) =
    named_there ts KeyGroup t.outer (value_at key.KeyGroup t.members) (few_key_groups ts h) (fault_at WrongType t k row at c.wrong) (unknown_at ts t k row at c.unknown_ref) in
    let same = same_bool (is_secured (security_at t.members)) (is_some (value_at key.KeyGroup t.members))
    (and_right (is_outer Group t.place || is_outer ReadGroup t.place) (not (beq (is_secured (security_at t.members)) (is_some (value_at key.KeyGroup t.members)))) passes c.key_needed) in
    record { keyed = same ∙ found.same; there = below _ _ (index_at KeyGroup key.KeyGroup ts t.members) (sym (length-map (outer_tables KeyGroup ts) (key_group_of ts))) found.below }

data_set_there : (ts : List Located) → PassTables ts → (before : List Located) (t : Located) (k : ℕ) → IsClean ts before t
    → slice_get (rows_of t.place) k ≡ Some (required key.DataSet (Text (Reference DataSet))) → unwrap_or (index_at DataSet key.DataSet ts t.members) 0 < length (map (data_set_of ts) (outer_tables DataSet ts))
data_set_there ts h before t k c at =
    let row = required key.DataSet (Text (Reference DataSet)) in
    let there = there_at t k key.DataSet (Text (Reference DataSet)) at c.missing in
    let found : IsThere (length (outer_tables DataSet ts)) (value_at key.DataSet t.members) (index_at DataSet key.DataSet ts t.members) =
    named_there ts DataSet t.outer (value_at key.DataSet t.members) (few_data_sets ts h) (fault_at WrongType t k row at c.wrong) (unknown_at ts t k row at c.unknown_ref) in
    subst (λ n. unwrap_or (index_at DataSet key.DataSet ts t.members) 0 < n) (sym (length-map (outer_tables DataSet ts) (data_set_of ts)))
    (index_there (length (outer_tables DataSet ts)) (value_at key.DataSet t.members) (index_at DataSet key.DataSet ts t.members) there found)

-- ---- groups and writers

not_short : (alive interval : ℕ) (b c : Bool) → nat_lt 0 alive ≡ b → nat_lt alive interval ≡ c → (b && c) ≡ false → (alive ≡ 0) ⊎ (interval ≤ alive)
not_short alive interval false c e f h = let none : alive ≡ 0 = grind (arith, nat_tests) in inl none
not_short alive interval true true e f h = absurd (false≢true (sym h))
not_short alive interval true false e f h = let long : interval ≤ alive = grind (arith, nat_tests) in inr long

writer_is : (ts : List Located) → PassTables ts → (t s : Located) → IsOwn Group (index_of t.place) t.members ts s → IsWriter (config_of ts) (group_of ts t) (writer_of ts s)
unfolding config_of group_of writer_of
writer_is ts h t s o =
    let c = o.inner.is_clean in
    let alive = number_at key.KeepAlive 3600000 0 s.members in
    let short : (nat_lt 0 alive && nat_lt alive (number_at key.Interval 3600000 0 s.outer)) ≡ false = and_right (is_inner Group s.place) _ (ap (is_inner Group) o.inner.place) c.keep_alive in
    record {
      id = needed s 1 key.Id 1 65535 0 (ap (λ (q : Place). slice_get (rows_of q) 1) o.inner.place) c.missing c.wrong c.bad_number;
      dataset = data_set_there ts h o.inner.before s 2 c (ap (λ (q : Place). slice_get (rows_of q) 2) o.inner.place);
      key_frame_count = given s 3 key.KeyFrameCount 1 65535 1 (ap (λ (q : Place). slice_get (rows_of q) 3) o.inner.place) (omega arith, omega arith) c.wrong c.bad_number;
      keep_alive = not_short alive (number_at key.Interval 3600000 0 t.members) _ _ refl refl
          (subst (λ (ms : Members). (nat_lt 0 alive && nat_lt alive (number_at key.Interval 3600000 0 ms)) ≡ false) o.outer short);
      keep_alive_most = (given s 4 key.KeepAlive 0 3600000 0 (ap (λ (q : Place). slice_get (rows_of q) 4) o.inner.place) (omega arith, omega arith) c.wrong c.bad_number).1;
      offset = (given s 7 key.Offset 0 65000 0 (ap (λ (q : Place). slice_get (rows_of q) 7) o.inner.place) (omega arith, omega arith) c.wrong c.bad_number).1;
      size = (given s 8 key.Size 0 65000 0 (ap (λ (q : Place). slice_get (rows_of q) 8) o.inner.place) (omega arith, omega arith) c.wrong c.bad_number).1;
    }

has_room : (ts : List Located) → StandsNowhere ts FrameLarge → (t : Located) → IsOuterOf Group ts t → lacks_room (config_of ts).publisher.id (config_of ts).dataset (group_of ts t) ≡ false
unfolding config_of publisher_part stands
has_room ts large t o = and_right (is_outer Group t.place) _ o.passes (large o.front t o.back o.split)

group_is : (document : Members) → PassTables (tables document) → StandsNowhere (tables document) FrameLarge → (t : Located) → IsOuterOf Group (tables document) t
    → IsGroup (config_of (tables document)) (group_of (tables document) t)
unfolding group_of
group_is document h large t o =
    let ts = tables document in
    let c = o.is_clean in
    record {
      id = needed t 1 key.Id 1 65535 0 (ap (λ (q : Place). slice_get (rows_of q) 1) o.place) c.missing c.wrong c.bad_number;
      interval = needed t 2 key.Interval 1 3600000 0 (ap (λ (q : Place). slice_get (rows_of q) 2) o.place) c.missing c.wrong c.bad_number;
      max_size = given t 3 key.MaxSize 128 65000 1400 (ap (λ (q : Place). slice_get (rows_of q) 3) o.place) (omega arith, omega arith) c.wrong c.bad_number;
      keys = keyed ts h o.front t 6 c (ap (λ b. b || is_outer ReadGroup t.place) o.passes) (ap (λ (q : Place). slice_get (rows_of q) 6) o.place);
      room = has_room ts large t o;
      writers = All-map (IsWriter (config_of ts) (group_of ts t)) (writer_of ts) (elements_of Group (index_of t.place) ts)
          (λ k d within. writer_is ts h t _ (own_elements Group document h t o k d within));
    }

pub groups_are : (document : Members) → PassTables (tables document) → StandsNowhere (tables document) FrameLarge
    → All (IsGroup (config_of (tables document))) (map (group_of (tables document)) (outer_tables Group (tables document)))
groups_are document h large =
    All-map (IsGroup (config_of (tables document))) (group_of (tables document)) (outer_tables Group (tables document))
    (λ k d within. group_is document h large _ (outer_elements Group (tables document) h k d within))

-- ---- read groups and readers

reader_is : (ts : List Located) → PassTables ts → (index : ℕ) (s : Located) → IsInnerOf ReadGroup index ts s → IsReader (config_of ts) (reader_of ts s)
unfolding config_of reader_of
reader_is ts h index s o =
    let c = o.is_clean in
    record {
      writer = needed s 1 key.Writer 1 65535 0 (ap (λ (q : Place). slice_get (rows_of q) 1) o.place) c.missing c.wrong c.bad_number;
      dataset = data_set_there ts h o.before s 2 c (ap (λ (q : Place). slice_get (rows_of q) 2) o.place);
      timeout = (given s 3 key.Timeout 0 3600000 0 (ap (λ (q : Place). slice_get (rows_of q) 3) o.place) (omega arith, omega arith) c.wrong c.bad_number).1;
      offset = (given s 5 key.Offset 0 65000 0 (ap (λ (q : Place). slice_get (rows_of q) 5) o.place) (omega arith, omega arith) c.wrong c.bad_number).1;
      size = (given s 6 key.Size 0 65000 0 (ap (λ (q : Place). slice_get (rows_of q) 6) o.place) (omega arith, omega arith) c.wrong c.bad_number).1;
    }

or_second : (a b : Bool) → b ≡ true → (a || b) ≡ true
or_second true b h = refl
or_second false b h = h

read_group_is : (ts : List Located) → PassTables ts → (t : Located) → IsOuterOf ReadGroup ts t → IsReadGroup (config_of ts) (read_group_of ts t)
unfolding read_group_of
read_group_is ts h t o = record {
  publisher = short_at key.Publisher t.members;
  keys = keyed ts h o.front t 7 o.is_clean (or_second (is_outer Group t.place) (is_outer ReadGroup t.place) o.passes) (ap (λ (q : Place). slice_get (rows_of q) 7) o.place);
  readers = All-map (IsReader (config_of ts)) (reader_of ts) (elements_of ReadGroup (index_of t.place) ts)
      (λ k d within. reader_is ts h (index_of t.place) _ (inner_elements ReadGroup (index_of t.place) ts h k d within));
  one_reader = read_ids_distinct ts h (index_of t.place);
}

pub read_groups_are : (ts : List Located) → PassTables ts → All (IsReadGroup (config_of ts)) (map (read_group_of ts) (outer_tables ReadGroup ts))
read_groups_are ts h =
    All-map (IsReadGroup (config_of ts)) (read_group_of ts) (outer_tables ReadGroup ts)
    (λ k d within. read_group_is ts h _ (outer_elements ReadGroup ts h k d within))
