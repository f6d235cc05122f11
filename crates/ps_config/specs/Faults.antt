-- The faults of a table, each by itself.
-- `ts` are all tables of the document, `before` those that stand before this one.
use Rattle.std.specs.Prelude.{ℕ, ◌==◌, ◌^◌, Bool, true, false, ◌&&◌, ◌||◌, not, nat_lt, nat_le, List, [], ◌∷◌, map, codes, count_by, position, Option, Some, None, is_some, is_none, option_and_then, if◌then◌else◌}
use Rattle.std.specs.Bool.{beq}
use Rattle.std.specs.List.{list_any}
use Rattle.std.specs.Str.{bytes_eq}
use Rattle.toml.specs.Data.{Members, no_members, member, as_str}
use Rattle.dataset_meta.specs.Fields.{is_sized}
use Rattle.dataset_meta.specs.Metas.{words_of}
use Rattle.config_tables.specs.declared.place.Part.{Part}
use Rattle.config_tables.specs.declared.place.Part.TheVariants.{DataSet, KeyGroup, Group, ReadGroup}
use Rattle.config_tables.specs.declared.place.Place.{Place}
use Rattle.config_tables.specs.declared.fault.Fault.{Fault}
use Rattle.config_tables.specs.declared.grammar.Form.{Form}
use Rattle.config_tables.specs.declared.grammar.Form.TheVariants.{Text}
use Rattle.config_tables.specs.declared.grammar.Spelling.TheVariants.{Reference}
use Rattle.config_tables.specs.declared.grammar.Row.{Row}
use Rattle.config_tables.specs.declared.key.Key.{Key}
use Rattle.config_tables.specs.declared.key.Key.TheVariants as key
use Rattle.config_tables.specs.FaultNumbers.{is_same}
use Rattle.ps_config.specs.Headers.{is_secured}
use Rattle.ps_config.specs.Settings.{security_at}
use Rattle.ps_config.specs.Fields.{name_of, kind_of, outer_tables, elements_of, fields_of}
use Rattle.config_tables.specs.Grammar.{rows_of}
use Rattle.config_tables.specs.Keys.{key_text}
use Rattle.config_tables.specs.Places.{is_outer, is_inner, is_inner_of, index_of, is_component, shares_names, shares_ids, counts_with, limit_of}
use Rattle.config_tables.specs.Tables.{Located}
use Rattle.config_tables.specs.Values.{value_at, number_at, row_fault}

-- some key of the table passes the test
abbrev pub any_key : (List ℕ → Bool) → Members → Bool
any_key test no_members = false
any_key test (member key value members) = test key || any_key test members

abbrev pub is_listed : List Row → List ℕ → Bool
is_listed rows key = list_any (λ row. bytes_eq key (key_text row.key)) rows

-- a key that isn't listed
abbrev pub has_unknown_key : Located → Bool
has_unknown_key t = any_key (λ key. not (is_listed (rows_of t.place) key)) t.members

-- a listed key that has to be there and isn't
abbrev pub lacks : Located → Row → Bool
lacks t row = row.is_required && is_none (value_at row.key t.members)

abbrev pub has_missing_key : Located → Bool
has_missing_key t = list_any (lacks t) (rows_of t.place)

abbrev pub is_fault : Fault → Option Fault → Bool
is_fault fault None = false
is_fault fault (Some found) = is_same fault found

-- the value at some key has this fault
abbrev pub has_value_fault : Fault → Located → Bool
has_value_fault fault t = list_any (λ row. is_fault fault (row_fault t row)) (rows_of t.place)

-- one more than may be counted together
abbrev pub is_past_limit : List Located → Located → Bool
is_past_limit before t = nat_le (limit_of t.place) (count_by (λ s. counts_with t.place s.place) before)

-- names of components that aren't in the document
abbrev pub is_reserved : List ℕ → Bool
is_reserved name = bytes_eq name (codes "root") || bytes_eq name (codes "connection")

abbrev pub has_double_name : List Located → Located → Bool
has_double_name before t =
    list_any (λ s. shares_names t.place s.place && bytes_eq (name_of t) (name_of s)) before
    || (is_component t.place && is_reserved (name_of t))

-- a text or a byte string without a cap, or another field with one
abbrev pub is_bad_field : Located → Bool
is_bad_field t = is_inner DataSet t.place && not (beq (is_sized (kind_of t)) (is_some (value_at key.Cap t.members)))

abbrev pub index_named : Part → List ℕ → List Located → Option ℕ
index_named part name ts = position (λ t. bytes_eq name (name_of t)) (outer_tables part ts)

abbrev pub referred : Form → Option Part
referred (Text (Reference part)) = Some part
referred _ = None

abbrev pub names_nothing : List Located → Option Part → Option (List ℕ) → Bool
names_nothing ts (Some part) (Some name) = is_none (index_named part name ts)
names_nothing ts _ _ = false

-- a reference that names no element
abbrev pub has_unknown_ref : List Located → Located → Bool
has_unknown_ref ts t =
    list_any (λ row. names_nothing ts (referred row.form) (option_and_then as_str (value_at row.key t.members)))
    (rows_of t.place)

-- the key of the id that may not come twice
abbrev pub id_key : Place → Key
id_key place = if is_inner ReadGroup place then key.Writer else key.Id

abbrev pub id_of : Located → ℕ
id_of t = number_at (id_key t.place) 65535 0 t.members

abbrev pub has_double_id : List Located → Located → Bool
has_double_id before t = list_any (λ s. shares_ids t.place s.place && id_of t == id_of s) before

-- a data set without fields
abbrev pub has_no_fields : List Located → Located → Bool
has_no_fields ts t = is_outer DataSet t.place && not (list_any (λ s. is_inner_of DataSet (index_of t.place) s.place) ts)

-- a data set whose rows take more than 125 words
abbrev pub is_too_wide : List Located → Located → Bool
is_too_wide ts t = is_outer DataSet t.place && nat_lt 125 (words_of (fields_of ts (index_of t.place)))

abbrev pub is_above : Option ℕ → ℕ → Bool
is_above None n = true
is_above (Some last) n = nat_lt last n

-- each number is above the one before it, and the first above this one
abbrev pub rises_from : Option ℕ → List ℕ → Bool
rises_from last [] = true
rises_from last (n ∷ ns) = is_above last n && rises_from (Some n) ns

abbrev pub rises : List ℕ → Bool
rises ns = rises_from None ns

abbrev pub starts_at_zero : List ℕ → Bool
starts_at_zero [] = false
starts_at_zero (n ∷ ns) = n == 0

-- the numbers at a key of the keys of the key group with this index
abbrev pub numbers_in : Key → ℕ → ℕ → List Located → List ℕ
numbers_in key most index ts = map (λ k. number_at key most 0 k.members) (elements_of KeyGroup index ts)

abbrev pub moments_in : ℕ → List Located → List ℕ
moments_in index ts = numbers_in key.From (2 ^ 40) index ts

abbrev pub tokens_in : ℕ → List Located → List ℕ
tokens_in index ts = numbers_in key.Token 4294967295 index ts

-- the first moment is 0, moments and tokens rise
abbrev pub are_in_order : ℕ → List Located → Bool
are_in_order index ts =
    starts_at_zero (moments_in index ts) && (rises (moments_in index ts) && rises (tokens_in index ts))

-- a key group without key, whose tokens or moments don't rise, or whose first moment isn't 0
abbrev pub has_no_order : List Located → Located → Bool
has_no_order ts t = is_outer KeyGroup t.place && not (are_in_order (index_of t.place) ts)

-- security without a key group, or a key group without security
abbrev pub has_key_fault : Located → Bool
has_key_fault t =
    (is_outer Group t.place || is_outer ReadGroup t.place)
    && not (beq (is_secured (security_at t.members)) (is_some (value_at key.KeyGroup t.members)))

-- a keep-alive time that isn't 0 and is below the group's interval
abbrev pub is_keep_alive_short : Located → Bool
is_keep_alive_short t =
    is_inner Group t.place
    && (nat_lt 0 (number_at key.KeepAlive 3600000 0 t.members)
    && nat_lt (number_at key.KeepAlive 3600000 0 t.members) (number_at key.Interval 3600000 0 t.outer))
