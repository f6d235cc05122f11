-- What a refusal says: the least fault that stands anywhere, and the first table at which it stands.
use Rattle.std.specs.Prelude.{◌≡◌, true, false, List, ◌∷◌, ◌++◌}
use Rattle.std.specs.List.{AllByRecursion}
use Rattle.config_tables.specs.declared.fault.Fault.{Fault}
use Rattle.config_tables.specs.declared.place.Place.{Place}
use Rattle.ps_config.specs.Refusals.{stands, table_faults, faults}
use Rattle.config_tables.specs.Tables.{Located}

-- the fault stands at no table
abbrev pub StandsNowhere : List Located → Fault → Type 0
StandsNowhere ts fault =
    (before : List Located) (t : Located) (after : List Located)
    → ts ≡ before ++ t ∷ after → stands fault ts before t ≡ false

-- the fault stands at the table of this place, and at none before it
pub record StandsFirst (ts : List Located) (fault : Fault) (place : Place) : Type 0 where
  pub before : List Located
  pub table : Located
  pub after : List Located
  pub whole : ts ≡ before ++ table ∷ after
  pub place_is : table.place ≡ place
  pub here : stands fault ts before table ≡ true
  pub none_before : (front : List Located) (t : Located) (back : List Located)
      → before ≡ front ++ t ∷ back → stands fault ts front t ≡ false

-- it is the first of the faults that stands anywhere
pub record IsRefusedBy (ts : List Located) (fault : Fault) (place : Place) : Type 0 where
  pub front : List Fault
  pub back : List Fault
  pub order : faults ≡ front ++ fault ∷ back
  pub none_before : AllByRecursion (StandsNowhere ts) front
  pub first : StandsFirst ts fault place

-- no fault stands anywhere
abbrev pub IsAccepted : List Located → Type 0
IsAccepted ts = AllByRecursion (StandsNowhere ts) faults

-- none stands anywhere but for the last
abbrev pub PassTables : List Located → Type 0
PassTables ts = AllByRecursion (StandsNowhere ts) table_faults
