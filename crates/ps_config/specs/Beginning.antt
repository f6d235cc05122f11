-- Configurations of which a writer begins at another number (FirstNumber).
use Rattle.std.specs.Prelude.{◌≡◌, ℕ, zero, suc, ◌<◌, List, [], ◌∷◌, length}
use Rattle.std.specs.List.{HoldsAt}
use Rattle.ps_config.specs.declared.parts.Config.{Config}
use Rattle.ps_config.specs.declared.parts.GroupPart.{GroupPart}
use Rattle.ps_config.specs.declared.parts.WriterPart.{WriterPart}

-- the list with this change of the element at the place, if there is one
abbrev pub changed_at : {X : Type 0} → ℕ → (X → X) → List X → List X
changed_at place change [] = []
changed_at zero change (x ∷ xs) = change x ∷ xs
changed_at (suc place) change (x ∷ xs) = x ∷ changed_at place change xs

-- the writer with this number as that of its first data frame
abbrev pub writer_beginning : ℕ → WriterPart → WriterPart
writer_beginning first writer = record writer { first_number = first }

-- the group whose writer with this index has it
abbrev pub group_beginning : ℕ → ℕ → GroupPart → GroupPart
group_beginning writer first part = record part { writer = changed_at writer (writer_beginning first) part.writer }

-- the configuration whose group with this index is that one
abbrev pub config_beginning : ℕ → ℕ → ℕ → Config → Config
config_beginning group writer first config = record config { group = changed_at group (group_beginning writer first) config.group }

-- the group with this index has a writer with this index
pub record HasWriterAt (group writer : ℕ) (config : Config) : Type 0 where
  pub group_there : group < length config.group
  pub writer_there : HoldsAt (λ part. writer < length part.writer) config.group group
