-- The rows of a publisher's data sets, from its opening on. Each data set has one history, in which each call that sets a field of it stands for one version.
use Rattle.std.specs.Prelude.{ℕ, List, [], ◌∷◌, ◌++◌, Bool, false, ◌==◌, Option, Some, None, if◌then◌else◌, slice_index_or}
use Rattle.std.specs.Option.{option_map_or}
use Rattle.dataset_meta.specs.DataValues.{DataValue}
use Rattle.dataset_meta.specs.Metas.{no_meta}
use Rattle.row_words.specs.Belonging.{row_in}
use Rattle.ps_config.specs.declared.parts.Config.{Config}
use Rattle.writer_group.specs.Turns.{no_sample}
use Rattle.writer_group.specs.declared.sampled.Sampled.{Sampled}
use Rattle.device.specs.declared.publisher.Publisher.{Publisher}
use Rattle.device_laws.specs.Publishing.{PublisherCall, PublisherLife, PublisherStep, SetField, SetWord, SetStatus, Waited, CameTo, HandedOver, Switched, Renewed, Resumed, Aside}

-- what the publisher has for the data set with this index
abbrev pub sampled_at : Publisher → ℕ → Sampled
sampled_at publisher set = slice_index_or publisher.rows.items set no_sample

-- the data set's row, field by field
abbrev pub row_at : Config → Publisher → ℕ → List DataValue
row_at config publisher set = row_in (slice_index_or config.dataset set no_meta).fields (sampled_at publisher set).row.words

-- the data set that the call sets a field of, if it sets one
abbrev pub set_by : PublisherCall → Option ℕ
set_by (SetField set field value status) = Some set
set_by (SetWord set field kind word) = Some set
set_by (SetStatus set field status) = Some set
set_by (Waited now) = None
set_by (CameTo now next did) = None
set_by HandedOver = None
set_by (Switched group writer on) = None
set_by (Renewed keygroup sets) = None
set_by (Resumed keygroup now used sets) = None
set_by Aside = None

-- it sets a field of this one
abbrev pub sets : ℕ → PublisherCall → Bool
sets set call = option_map_or (λ other. other == set) (set_by call) false

-- The rows that the data set had, the first first: the opening row, and one for each call that set a field of it. A row's version is its place in the list.
abbrev pub history : Publisher → List PublisherStep → ℕ → List (List DataValue)
history first [] set = row_at first.config first set ∷ []
history first (step ∷ before) set =
    let earlier = history first before set in if sets set step.call then earlier ++ row_at first.config step.after set ∷ [] else earlier

abbrev pub history_in : PublisherLife → ℕ → List (List DataValue)
history_in life set = history life.first life.steps set
