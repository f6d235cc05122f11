-- The data sets of a moment, and the sampled rows cut to their fields.
use Rattle.std.specs.Prelude.{◌≡◌, ℕ, ◌<◌, ◌^◌, false, List, [], ◌∷◌, length, map, slice_get, slice_index_or, All}
use Rattle.std.specs.List.{range_with_len, AllZip}
use Rattle.dataset_meta.specs.Metas.{MetaData, IsMeta, HasGrown}
use Rattle.row_words.specs.Belonging.{Belongs, cut_words}
use Rattle.ps_config.specs.declared.parts.Config.{Config}
use Rattle.ps_config.specs.Rooms.{lacks_room}
use Rattle.ps_script.specs.Past.{grown_at}
use Rattle.ps_script.specs.Faults.{CanTellOf}
use Rattle.writer_group.specs.declared.sampled.Sampled.{Sampled}
use Rattle.dataset_meta.specs.Metas.{no_meta}
use Rattle.writer_group.specs.Turns.{no_sample}
use Rattle.session_model.specs.Steps.{Plan, Step, Enable, Disable, Append, Tick, Pump}

-- the configured data sets with the fields that were appended since; each raises the minor version by one
abbrev pub metas_at : Config → List Step → List MetaData
metas_at config [] = config.dataset
metas_at config (Enable id ∷ before) = metas_at config before
metas_at config (Disable id ∷ before) = metas_at config before
metas_at config (Append set field ∷ before) =
    let metas = metas_at config before in grown_at metas set field (slice_get metas set)
metas_at config (Tick ms closing samples done ∷ before) = metas_at config before
metas_at config (Pump entries ∷ before) = metas_at config before

abbrev pub meta_in : List MetaData → ℕ → MetaData
meta_in metas set = slice_index_or metas set no_meta

-- a sampled row, which has all fields, cut to those of a moment
abbrev pub cut_sample : MetaData → MetaData → Sampled → Sampled
cut_sample now full sampled = record { row = record { words = cut_words now full sampled.row.words }; version = sampled.version }

abbrev pub rows_cut : List MetaData → List MetaData → List Sampled → List Sampled
rows_cut metas full samples =
    map (λ set. cut_sample (meta_in metas set) (meta_in full set) (slice_index_or samples set no_sample)) (range_with_len 0 (length metas))

-- the rows that a tick's writers are given, after these steps
abbrev pub rows_at : Plan → List Step → List Sampled → List Sampled
rows_at p before samples = rows_cut (metas_at p.config before) p.full samples

-- ---- what a configuration and an accepted script promise of them

-- data sets that a session may have at some moment: each makes a meta, and no group lacks room for its frames
pub record AreFit (config : Config) (metas : List MetaData) : Type 0 where
  pub each : All (λ meta. IsMeta meta.fields) metas
  pub room : All (λ group. lacks_room config.publisher.id metas group ≡ false) config.group

-- the field may be appended: the data set is there, each of its writers can tell of it, and what it grows to is fit
pub record MayAppend (config : Config) (metas : List MetaData) (set : ℕ) (grown : List MetaData) : Type 0 where
  pub there : set < length metas
  pub told : All (CanTellOf set) config.group
  pub minor : (meta_in grown set).minor < 2 ^ 32
  pub fit : AreFit config grown

-- all data sets grow to the full ones
abbrev pub GrowTo : List MetaData → List MetaData → Type 0
GrowTo metas full = AllZip HasGrown metas full

-- a row of each data set with all its fields
abbrev pub AreRowsOf : List MetaData → List Sampled → Type 0
AreRowsOf full samples = AllZip (λ meta sampled. Belongs meta sampled.row.words) full samples
