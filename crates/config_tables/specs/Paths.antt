-- Where a fault stands, as it is told.
use Rattle.std.specs.Prelude.{ℕ, List, ◌++◌, codes}
use Rattle.std.specs.Fmt.{decimal}
use Rattle.config_tables.specs.declared.place.Place.{Place}
use Rattle.config_tables.specs.declared.place.Place.TheVariants.{Root, Publisher, Outer, Inner}
use Rattle.config_tables.specs.Places.{outer_key, inner_key}

abbrev pub element_text : List ℕ → ℕ → List ℕ
element_text key index = key ++ codes "[" ++ decimal index ++ codes "]"

abbrev pub path_text : Place → List ℕ
path_text Root = codes "."
path_text Publisher = codes "publisher"
path_text (Outer part index) = element_text (outer_key part) index
path_text (Inner part outer inner) = element_text (outer_key part) outer ++ codes "." ++ element_text (inner_key part) inner
