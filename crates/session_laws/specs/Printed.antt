-- What a closed session tells of a matched reader: the published version that it holds, or why it waits.
use Rattle.std.specs.Prelude.{◌≡◌, ℕ, ◌-◌, ◌^◌, ◌%◌, min, List, [], length, reverse, take, Contains, Option, Some, None, option_map, slice_get}
use Rattle.std.specs.List.Sorted.{IsNonDecreasingBy}
use Rattle.seq_number.specs.Numbers.{number_of_place}
use Rattle.dataset_meta.specs.DataValues.{DataValue}
use Rattle.dataset_meta.specs.Rows.{row_cut}
use Rattle.row_words.specs.Belonging.{row_in}
use Rattle.pubsub_model.specs.Answers.{IsRowSent}
use Rattle.pubsub_model.specs.declared.reading.Break.{Break}
use Rattle.pubsub_model.specs.declared.reading.Why.{Why}
use Rattle.pubsub_model.specs.Records.{Arrival, held, why, breaks, cut_reason, unnumbered_row}
use Rattle.config_tables.specs.declared.words.NumberingWord.{NumberingWord}
use Rattle.config_tables.specs.declared.words.NumberingWord.TheVariants as words
use Rattle.ps_config.specs.declared.parts.Config.{Config}
use Rattle.ps_report.specs.declared.closed.Closed.{Closed}
use Rattle.ps_report.specs.declared.closed.HeldEnd.{HeldEnd}
use Rattle.ps_report.specs.declared.closed.ReaderEnd.{ReaderEnd}
use Rattle.ps_report.specs.declared.closed.WriterEnd.{WriterEnd}
use Rattle.reader_group.specs.Members.{seat_at}
use Rattle.reader_group.specs.Settings.{setting_of}
use Rattle.writer_group.specs.Payloads.{writer_at}
use Rattle.session_model.specs.Steps.{Plan, Step}
use Rattle.session_model.specs.Deeds.{answered_at, log_at}
use Rattle.writer_group.specs.Parts.{group_at}
use Rattle.session_model.specs.Closing.{reader_places, writer_places}
use Rattle.session_laws.specs.Reading.{arrivals_at, first_number_of}
use Rattle.session_laws.specs.Headline.{meta_of}

-- the end that a closed session has for a reader of a read group, by their indexes
pub record EndsReader (config : Config) (closed : Closed) (r i : ℕ) (end : ReaderEnd) : Type 0 where
  pub index : ℕ
  pub place : slice_get (reader_places config) index ≡ Some (r, i)
  pub end_is : slice_get closed.readers index ≡ Some end

-- that for a writer of a group
pub record EndsWriter (config : Config) (closed : Closed) (g w : ℕ) (end : WriterEnd) : Type 0 where
  pub index : ℕ
  pub place : slice_get (writer_places config) index ≡ Some (g, w)
  pub end_is : slice_get closed.writers index ≡ Some end

-- ---- what *Records* has of a reader's arrivals; with numbering `none` the last key frame since a cut is held

abbrev pub row_by : NumberingWord → List Arrival → Option (List DataValue)
row_by words.Message arrivals = option_map (λ h. h.row) (held arrivals)
row_by words.None arrivals = unnumbered_row arrivals

-- the number of the record that is held
abbrev pub number_by : NumberingWord → List Arrival → Option ℕ
number_by words.Message arrivals = option_map (λ h. number_of_place h.place) (held arrivals)
number_by words.None arrivals = None

abbrev pub why_by : NumberingWord → List Arrival → Why
why_by words.Message arrivals = why arrivals
why_by words.None arrivals = cut_reason arrivals

abbrev pub breaks_by : NumberingWord → List Arrival → List Break
breaks_by words.Message arrivals = breaks arrivals
breaks_by words.None arrivals = []

-- ---- what is told of it

-- the number is that of the place, and the version is told; with numbering `none` neither is
abbrev pub TellsVersion : NumberingWord → HeldEnd → ℕ → ℕ → Type 0
TellsVersion words.Message told place version = (told.number ≡ Some (place % 65536)) × (told.version ≡ Some version)
TellsVersion words.None told place version = (told.number ≡ None) × (told.version ≡ None)

-- A row that the reader holds is told as that of a version in the log, which is told by the writer's end. The version is told that stands
-- at the told number, and the row is the version's, cut to the reader's fields. `rows` are those of the versions of each data set.
pub record TellsPublished (p : Plan) (r i g w : ℕ) (rows : ℕ → ℕ → List DataValue) (log : List (ℕ × ℕ)) (told : HeldEnd) : Type 0 where
  pub place : ℕ
  pub version : ℕ
  pub logged : Contains log (place, version)
  pub tells : TellsVersion (seat_at (setting_of p.config r).seats i).part.numbering told place version
  pub row : row_in (meta_of p r i).fields told.row.words ≡ row_cut (meta_of p r i) (rows (writer_at (group_at p.config g) w).dataset version)

-- the row that is told is that of the writer's turn whose data frame has this place, of this version, cut to the reader's fields
pub record TellsSent (p : Plan) (r i g w : ℕ) (steps : List Step) (told : HeldEnd) (place version : ℕ) : Type 0 where
  pub row : IsRowSent (meta_of p r i) (answered_at p g w steps) (record { place = place; row = row_in (meta_of p r i).fields told.row.words })
  pub its_version : row.turn.turn.version ≡ version

-- What the reader holds by *Records*, and nothing else, is told, with the number of the record that is held. It is of a published version,
-- and is the row of the writer's turn whose data frame has its place, cut to the reader's fields. Else its reason is told. Always its
-- breaks are, the last eight in order.
pub record TellsReader (p : Plan) (r i g w : ℕ) (steps : List Step) (rows : ℕ → ℕ → List DataValue) (log : List (ℕ × ℕ)) (end : ReaderEnd) : Type 0 where
  pub held : let numbering = (seat_at (setting_of p.config r).seats i).part.numbering in
      option_map (λ told. row_in (meta_of p r i).fields told.row.words) end.held
      ≡ row_by numbering (arrivals_at p.config r i (first_number_of p.config g w) steps)
  pub number : let numbering = (seat_at (setting_of p.config r).seats i).part.numbering in
      (told : HeldEnd) → end.held ≡ Some told → told.number ≡ number_by numbering (arrivals_at p.config r i (first_number_of p.config g w) steps)
  pub holds : (told : HeldEnd) → end.held ≡ Some told → TellsPublished p r i g w rows log told
  pub sent : (told : HeldEnd) (is : end.held ≡ Some told) → let of = holds told is in TellsSent p r i g w steps told of.place of.version
  pub waits : let numbering = (seat_at (setting_of p.config r).seats i).part.numbering in
      end.held ≡ None → end.why ≡ why_by numbering (arrivals_at p.config r i (first_number_of p.config g w) steps)
  pub breaks : let numbering = (seat_at (setting_of p.config r).seats i).part.numbering in
      end.breaks ≡ min (length (breaks_by numbering (arrivals_at p.config r i (first_number_of p.config g w) steps))) (2 ^ 64 - 1)
  pub recent : let numbering = (seat_at (setting_of p.config r).seats i).part.numbering in
      end.recent.items ≡ reverse (take 8 (breaks_by numbering (arrivals_at p.config r i (first_number_of p.config g w) steps)))

-- the log that is told of a writer is that of its deeds, and its versions never fall
pub record TellsWriter (p : Plan) (g w : ℕ) (steps : List Step) (end : WriterEnd) : Type 0 where
  pub log : end.log ≡ log_at p g w steps
  pub never : IsNonDecreasingBy (λ entry. entry.1) end.log
