-- Where the data sets of a second configuration come from: readers of the first one.
use Rattle.std.specs.Prelude.{◌≡◌, ℕ, ◌<◌, List, length, slice_index_or}
use Rattle.dataset_meta.specs.Metas.{MetaData}
use Rattle.config_tables.specs.declared.words.NumberingWord.TheVariants as words
use Rattle.ps_config.specs.declared.parts.Config.{Config}
use Rattle.reader_group.specs.Members.{Seat, seat_at}
use Rattle.reader_group.specs.Settings.{setting_of}
use Rattle.session_model.specs.Sets.{meta_in}
use Rattle.session_laws.specs.Reading.{IsMatchedIn}

-- a reader of the first configuration, by its read group and its index in this, and the writer that it is matched to
pub record Source : Type 0 where
  pub read_group : ℕ
  pub reader : ℕ
  pub group : ℕ
  pub writer : ℕ

abbrev pub no_source : Source
no_source = record { read_group = 0; reader = 0; group = 0; writer = 0 }

abbrev pub source_at : List Source → ℕ → Source
source_at sources set = slice_index_or sources set no_source

abbrev pub seat_of : Config → Source → Seat
seat_of first source = seat_at (setting_of first source.read_group).seats source.reader

-- The reader has the data set's name, is matched, goes by the numbers of messages, and its own data set has the same fields, major version and
-- quality.
pub record IsSourceOf (first : Config) (meta : MetaData) (source : Source) : Type 0 where
  pub group_there : source.group < length first.group
  pub matched : IsMatchedIn first source.read_group source.reader source.group source.writer
  pub name : (seat_of first source).part.name ≡ meta.name
  pub numbering : (seat_of first source).part.numbering ≡ words.Message
  pub fields : (seat_of first source).meta.fields ≡ meta.fields
  pub major : (seat_of first source).meta.major ≡ meta.major
  pub quality : (seat_of first source).meta.quality ≡ meta.quality

-- each data set of the second configuration has a source
pub record HaveSources (first second : Config) (sources : List Source) : Type 0 where
  pub count : length sources ≡ length second.dataset
  pub each : (set : ℕ) → set < length second.dataset → IsSourceOf first (meta_in second.dataset set) (source_at sources set)
