-- The metas of data sets.
use Rattle.std.specs.Prelude.{◌≡◌, ℕ, List, ◌∷◌, ◌++◌}
use Rattle.dataset_meta.specs.Metas.{IsMeta}
use Rattle.config_tables.specs.declared.place.Part.TheVariants.{DataSet}
use Rattle.config_tables.specs.declared.place.Place.TheVariants.{Outer}
use Rattle.ps_config.specs.Fields.{fields_of}
use Rattle.config_tables.specs.Tables.{Located}

-- the fields of each data set make a meta
abbrev pub HaveMetas : List Located → Type 0
HaveMetas ts =
    (before : List Located) (t : Located) (after : List Located) → ts ≡ before ++ t ∷ after
    → (index : ℕ) → t.place ≡ Outer DataSet index → IsMeta (fields_of ts index)
