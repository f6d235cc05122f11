-- Where the data sets of a second configuration come from: readers of the first one.
use Rattle.std.specs.Prelude.{◌≡◌, ℕ, ◌<◌, List, length, All, Some, slice_get, slice_index_or}
use Rattle.dataset_meta.specs.Metas.{MetaData}
use Rattle.config_tables.specs.declared.words.NumberingWord.TheVariants as words
use Rattle.ps_config.specs.declared.parts.Config.{Config}
use Rattle.group_laws.specs.Matching.{IsMatchedTo}
use Rattle.reader_group.specs.Members.{Seat, seat_at}
use Rattle.reader_group.specs.Settings.{setting_of, group_at as read_group_at}
use Rattle.target_cells.specs.declared.origin.Origin.{Origin}
use Rattle.version_cell.specs.Known.{Known}
use Rattle.writer_group.specs.Parts.{group_at}
use Rattle.session_model.specs.Sets.{AreRowsOf, meta_in}
use Rattle.session_model.specs.Closing.{MemberPlace, reader_places}
use Rattle.gateway_core.specs.Lived.{collected}

-- the reader with this place, with its data set's meta
abbrev pub seat_in : Config → MemberPlace → Seat
seat_in config place = seat_at (setting_of config place.0).seats place.1

-- The reader with this index among all readers has the data set's name, is matched to some writer, goes by the numbers of messages, and its own data set has the
-- same fields, major version and quality.
pub record IsSourceOf (first : Config) (meta : MetaData) (source : ℕ) : Type 0 where
  pub place : MemberPlace
  pub group : ℕ
  pub writer : ℕ
  pub place_is : slice_get (reader_places first) source ≡ Some place
  pub group_there : group < length first.group
  pub matched : IsMatchedTo first (read_group_at first place.0) place.1 (group_at first group) writer
  pub name : (seat_in first place).part.name ≡ meta.name
  pub numbering : (seat_in first place).part.numbering ≡ words.Message
  pub fields : (seat_in first place).meta.fields ≡ meta.fields
  pub major : (seat_in first place).meta.major ≡ meta.major
  pub quality : (seat_in first place).meta.quality ≡ meta.quality

-- each data set of the second configuration has a source
pub record HaveSources (first second : Config) (sources : List ℕ) : Type 0 where
  pub count : length sources ≡ length second.dataset
  pub each : (set : ℕ) → set < length second.dataset → IsSourceOf first (meta_in second.dataset set) (slice_index_or sources set 0)

-- ---- what may be collected

-- each source has a pass and an origin, and the passes show rows of the data sets
pub record MayCollect (metas : List MetaData) (sources : List ℕ) (passes : List Known) (origins : List Origin) : Type 0 where
  pub passes_there : All (λ source. source < length passes) sources
  pub origins_there : All (λ source. source < length origins) sources
  pub rows : AreRowsOf metas (collected sources passes)
