-- Which closed sessions are those of a configuration.
use Rattle.std.specs.Prelude.{◌≡◌, ℕ, ◌<◌, List, length, Option, Some, None, flat_map, slice_get, All, IfSome}
use Rattle.std.specs.List.{AllZip}
use Rattle.dataset_meta.specs.Metas.{MetaData}
use Rattle.row_words.specs.Belonging.{Belongs}
use Rattle.ps_config.specs.declared.parts.Config.{Config}
use Rattle.ps_config.specs.declared.parts.GroupPart.{GroupPart}
use Rattle.ps_config.specs.declared.parts.ReadGroupPart.{ReadGroupPart}
use Rattle.ps_config.specs.declared.parts.ReaderPart.{ReaderPart}
use Rattle.ps_config.specs.declared.parts.WriterPart.{WriterPart}
use Rattle.ps_report.specs.declared.closed.Closed.{Closed}
use Rattle.ps_report.specs.declared.closed.ReaderEnd.{ReaderEnd}

-- over all groups, in order
abbrev pub writers_of : List GroupPart → List WriterPart
writers_of groups = flat_map (λ group. group.writer) groups

abbrev pub readers_of : List ReadGroupPart → List ReaderPart
readers_of groups = flat_map (λ group. group.reader) groups

-- the words are those of a row of the data set, which is there
abbrev pub BelongsTo : Option MetaData → List ℕ → Type 0
BelongsTo None words = ⊥
BelongsTo (Some meta) words = Belongs meta words

-- what each reader holds is a row of its data set
abbrev pub HoldsRow : List MetaData → ReaderPart → ReaderEnd → Type 0
HoldsRow sets part end = IfSome end.held (λ held. BelongsTo (slice_get sets part.dataset) held.row.words)

abbrev pub HoldRows : List MetaData → List ReaderPart → List ReaderEnd → Type 0
HoldRows sets parts ends = AllZip (HoldsRow sets) parts ends

-- an entry for each part, rows of the readers' data sets, and watches of readers
pub record IsClosedOf (config : Config) (closed : Closed) : Type 0 where
  pub histories : length closed.histories ≡ length config.dataset
  pub groups : length closed.groups ≡ length config.group
  pub writers : length closed.writers ≡ length (writers_of config.group)
  pub read_groups : length closed.read_groups ≡ length config.readgroup
  pub rows : HoldRows config.dataset (readers_of config.readgroup) closed.readers
  pub watches : All (λ end. end.reader < length (readers_of config.readgroup)) closed.watches
