-- Where a table stands, and which tables are judged together.
use Rattle.std.specs.Prelude.{ℕ, ◌==◌, Bool, true, false, ◌&&◌, ◌||◌, List, codes}
use Rattle.config_tables.specs.declared.place.Part.{Part}
use Rattle.config_tables.specs.declared.place.Part.TheVariants.{DataSet, KeyGroup, Group, ReadGroup}
use Rattle.config_tables.specs.declared.place.Place.{Place}
use Rattle.config_tables.specs.declared.place.Place.TheVariants.{Root, Publisher, Outer, Inner}

abbrev pub outer_key : Part → List ℕ
outer_key DataSet = codes "dataset"
outer_key KeyGroup = codes "keygroup"
outer_key Group = codes "group"
outer_key ReadGroup = codes "readgroup"

abbrev pub inner_key : Part → List ℕ
inner_key DataSet = codes "field"
inner_key KeyGroup = codes "key"
inner_key Group = codes "writer"
inner_key ReadGroup = codes "reader"

abbrev pub is_part : Part → Part → Bool
is_part DataSet DataSet = true
is_part KeyGroup KeyGroup = true
is_part Group Group = true
is_part ReadGroup ReadGroup = true
is_part _ _ = false

-- an element of this array of the document
abbrev pub is_outer : Part → Place → Bool
is_outer part (Outer own _) = is_part part own
is_outer part _ = false

-- an element of an element of this array
abbrev pub is_inner : Part → Place → Bool
is_inner part (Inner own _ _) = is_part part own
is_inner part _ = false

-- an element of the element of this array that has this index
abbrev pub is_inner_of : Part → ℕ → Place → Bool
is_inner_of part index (Inner own outer _) = is_part part own && index == outer
is_inner_of part index _ = false

-- the index of the element of an array of the document, 0 for other tables
abbrev pub index_of : Place → ℕ
index_of (Outer _ index) = index
index_of _ = 0

-- a group, a writer, a read group or a reader
abbrev pub is_component : Place → Bool
is_component place = is_outer Group place || is_inner Group place || is_outer ReadGroup place || is_inner ReadGroup place

-- no two of these may have one name
abbrev pub shares_names : Place → Place → Bool
shares_names (Outer DataSet _) other = is_outer DataSet other
shares_names (Outer KeyGroup _) other = is_outer KeyGroup other
shares_names (Inner DataSet index _) other = is_inner_of DataSet index other
shares_names place other = is_component place && is_component other

-- no two of these may have one id
abbrev pub shares_ids : Place → Place → Bool
shares_ids (Outer Group _) other = is_outer Group other
shares_ids (Inner Group _ _) other = is_inner Group other
shares_ids (Inner ReadGroup index _) other = is_inner_of ReadGroup index other
shares_ids _ other = false

-- counted together: fields and keys in their own array, writers and readers in all
abbrev pub counts_with : Place → Place → Bool
counts_with Root other = false
counts_with Publisher other = false
counts_with (Outer part _) other = is_outer part other
counts_with (Inner DataSet index _) other = is_inner_of DataSet index other
counts_with (Inner KeyGroup index _) other = is_inner_of KeyGroup index other
counts_with (Inner Group _ _) other = is_inner Group other
counts_with (Inner ReadGroup _ _) other = is_inner ReadGroup other

-- how many that are counted together there may be
abbrev pub limit_of : Place → ℕ
limit_of Root = 1
limit_of Publisher = 1
limit_of (Outer DataSet _) = 8
limit_of (Inner DataSet _ _) = 64
limit_of (Outer KeyGroup _) = 4
limit_of (Inner KeyGroup _ _) = 16
limit_of (Outer Group _) = 4
limit_of (Inner Group _ _) = 16
limit_of (Outer ReadGroup _) = 4
limit_of (Inner ReadGroup _ _) = 16

-- of the element of one array that the two are elements of
abbrev pub shares_outer : Place → Place → Bool
shares_outer (Inner part index _) other = is_inner_of part index other
shares_outer _ other = false
