-- The tables of a document, in the order in which a fault is looked for.
use Rattle.std.specs.Prelude.{ℕ, ◌+◌, List, [], ◌∷◌, ◌++◌, codes, map, Option, Some}
use Rattle.std.specs.List.{flat_map}
use Rattle.toml.specs.Data.{Data, array, table, Items, no_items, item, Members, get_member}
use Rattle.config_tables.specs.declared.place.Part.{Part}
use Rattle.config_tables.specs.declared.place.Part.TheVariants.{DataSet, KeyGroup, Group, ReadGroup}
use Rattle.config_tables.specs.declared.place.Place.{Place}
use Rattle.config_tables.specs.declared.place.Place.TheVariants.{Root, Publisher, Outer, Inner}
use Rattle.config_tables.specs.Places.{outer_key, inner_key}

-- a table, where it stands, and the table that has it or its array
pub record Located : Type 0 where
  pub place : Place
  pub outer : Members
  pub members : Members

abbrev pub located : Place → Members → Members → Located
located place outer members = record { place = place; outer = outer; members = members }

-- the items of the array at a key, none where there is no array
abbrev pub items_of : Option Data → Items
items_of (Some (array items)) = items
items_of _ = no_items

abbrev pub items_at : List ℕ → Members → Items
items_at key members = items_of (get_member key members)

-- the tables among the items, each with its index
abbrev pub tables_from : ℕ → Items → List (ℕ × Members)
tables_from index no_items = []
tables_from index (item (table members) items) = (index, members) ∷ tables_from (index + 1) items
tables_from index (item _ items) = tables_from (index + 1) items

abbrev pub tables_at : List ℕ → Members → List (ℕ × Members)
tables_at key members = tables_from 0 (items_at key members)

abbrev pub inner_tables : Part → ℕ → Members → List Located
inner_tables part index members =
    map (λ inner. located (Inner part index inner.0) members inner.1) (tables_at (inner_key part) members)

abbrev pub tables_with : Part → Members → List (ℕ × Members) → List Located
tables_with part document elements =
    flat_map (λ element. located (Outer part element.0) document element.1 ∷ inner_tables part element.0 element.1)
    elements

-- each element of the array, followed by its own inner tables
abbrev pub tables_of : Part → Members → List Located
tables_of part document = tables_with part document (tables_at (outer_key part) document)

abbrev pub publisher_in : Members → Option Data → List Located
publisher_in document (Some (table members)) = located Publisher document members ∷ []
publisher_in document _ = []

abbrev pub publisher_of : Members → List Located
publisher_of document = publisher_in document (get_member (codes "publisher") document)

abbrev pub tables : Members → List Located
tables document =
    located Root document document ∷ publisher_of document ++ tables_of DataSet document ++ tables_of KeyGroup document
    ++ tables_of Group document ++ tables_of ReadGroup document
