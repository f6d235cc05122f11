-- The fields of data sets, and the tables of an array.
use Rattle.std.specs.Prelude.{ℕ, List, [], ◌∷◌, map, filter, codes, find, unwrap_or, Bool, true, false, Option, if◌then◌else◌, ◌&&◌}
use Rattle.std.specs.Option.{option_map_or}
use Rattle.std.specs.Str.{bytes_eq}
use Rattle.toml.specs.Data.{Members, no_members}
use Rattle.ua_values.specs.declared.kind.Kind.{Kind}
use Rattle.ua_values.specs.declared.kind.Kind.TheVariants as kind
use Rattle.dataset_meta.specs.Names.{is_name}
use Rattle.dataset_meta.specs.declared.field.Field.{Field}
use Rattle.config_tables.specs.declared.key.Key.TheVariants as key
use Rattle.config_tables.specs.declared.place.Part.{Part}
use Rattle.config_tables.specs.declared.place.Part.TheVariants.{DataSet}
use Rattle.config_tables.specs.declared.place.Place.{Place}
use Rattle.config_tables.specs.declared.place.Place.TheVariants as place
use Rattle.config_tables.specs.Places.{is_outer, is_inner_of, index_of}
use Rattle.config_tables.specs.Tables.{Located}
use Rattle.config_tables.specs.Values.{text_at, number_at}
use Rattle.config_tables.specs.Words.{kind_named}
use Rattle.fixed_layout.specs.Spelling.{raw_size}

abbrev pub name_of : Located → List ℕ
name_of t = text_at key.Name t.members

-- the elements of an array of the document
abbrev pub outer_tables : Part → List Located → List Located
outer_tables part ts = filter (λ t. is_outer part t.place) ts

-- the elements of the element of this array that has this index
abbrev pub elements_of : Part → ℕ → List Located → List Located
elements_of part index ts = filter (λ t. is_inner_of part index t.place) ts

abbrev pub is_publisher : Place → Bool
is_publisher place.Publisher = true
is_publisher _ = false

-- the members of the table `publisher`
abbrev pub publisher_members : List Located → Members
publisher_members [] = no_members
publisher_members (t ∷ ts) = if is_publisher t.place then t.members else publisher_members ts

-- the name; an accepted table has one
abbrev pub name_at : Members → List ℕ
name_at members = if is_name (text_at key.Name members) then text_at key.Name members else codes "none"

abbrev pub kind_of : Located → Kind
kind_of t = unwrap_or (kind_named (text_at key.Kind t.members)) kind.Boolean

abbrev pub field_of : Located → Field
field_of t = record { name = name_at t.members; kind = kind_of t; cap = number_at key.Cap 256 0 t.members }

-- the fields of the data set with this index
abbrev pub fields_of : List Located → ℕ → List Field
fields_of ts index = map field_of (elements_of DataSet index ts)

-- the data set that a writer or a reader names
abbrev pub set_named : List Located → Located → Option Located
set_named ts t = find (λ s. is_outer DataSet s.place && bytes_eq (text_at key.DataSet t.members) (name_of s)) ts

-- the bytes, as RawData, of a row of the data set that a writer or a reader names
abbrev pub width_named : List Located → Located → ℕ
width_named ts t = option_map_or (λ s. raw_size (fields_of ts (index_of s.place))) (set_named ts t) 0
