-- The report of a closed session, and the summary of generated work: the text as a function of what the session was when it
-- closed. A configuration's parts and their ends go together in order; writers and readers are counted over all groups.
use Rattle.std.specs.Prelude.{ℕ, List, [], ◌∷◌, ◌++◌, length, take, drop, Option, Some, None, codes, flat_map, slice_get, zip}
use Rattle.std.specs.Option.{option_map_or}
use Rattle.std.specs.Fmt.{decimal}
use Rattle.dataset_meta.specs.Metas.{MetaData}
use Rattle.row_words.specs.Belonging.{row_in}
use Rattle.pubsub_model.specs.declared.reading.Why.{Why}
use Rattle.ps_config.specs.declared.parts.Config.{Config}
use Rattle.ps_config.specs.declared.parts.GroupPart.{GroupPart}
use Rattle.ps_config.specs.declared.parts.ReadGroupPart.{ReadGroupPart}
use Rattle.ps_config.specs.declared.parts.ReaderPart.{ReaderPart}
use Rattle.ps_config.specs.declared.parts.WriterPart.{WriterPart}
use Rattle.ps_report.specs.declared.closed.Closed.{Closed}
use Rattle.ps_report.specs.declared.closed.GroupEnd.{GroupEnd}
use Rattle.ps_report.specs.declared.closed.HeldEnd.{HeldEnd}
use Rattle.ps_report.specs.declared.closed.History.{History}
use Rattle.ps_report.specs.declared.closed.ReadGroupEnd.{ReadGroupEnd}
use Rattle.ps_report.specs.declared.closed.ReaderEnd.{ReaderEnd}
use Rattle.ps_report.specs.declared.closed.WatchEnd.{WatchEnd}
use Rattle.ps_report.specs.declared.closed.WriterEnd.{WriterEnd}
use Rattle.ps_report.specs.Conditions.{readers_of}
use Rattle.ps_report.specs.Lines.{feed, component_text, history_line, group_line, writer_line, read_group_line, fields_text, numbered_text, waits_text, gaps_line, watch_line, link_line}

-- for each data set
abbrev pub history_lines : List MetaData → List History → List ℕ
history_lines sets histories = flat_map (λ at. history_line at.0.name at.1.threads) (zip sets histories)

abbrev pub writer_lines : List WriterPart → List WriterEnd → List ℕ
writer_lines parts ends = flat_map (λ at. writer_line at.0.name at.1) (zip parts ends)

-- for each group, and after it for each of its writers
abbrev pub group_lines : List GroupPart → List GroupEnd → List WriterEnd → List ℕ
group_lines [] ends writers = []
group_lines (part ∷ parts) [] writers = []
group_lines (part ∷ parts) (end ∷ ends) writers =
    group_line part.name end
    ++ writer_lines part.writer (take (length part.writer) writers)
    ++ group_lines parts ends (drop (length part.writer) writers)

-- the fields of a row of a data set, where there is one
unfoldable pub row_text : Option MetaData → List ℕ → List ℕ
row_text None words = []
row_text (Some meta) words = fields_text meta.fields (row_in meta.fields words)

-- what a reader holds, or why it waits
unfoldable pub held_as : List MetaData → ReaderPart → Why → Option HeldEnd → List ℕ
held_as sets part why None = waits_text why
held_as sets part why (Some held) =
    numbered_text held.number held.version ++ row_text (slice_get sets part.dataset) held.row.words

abbrev pub held_text : List MetaData → ReaderPart → ReaderEnd → List ℕ
held_text sets part end = held_as sets part end.why end.held

-- `reader NAME STATE ..`
unfoldable pub reader_line : List MetaData → ReaderPart → ReaderEnd → List ℕ
reader_line sets part end =
    component_text (codes "reader") part.name end.state ++ held_text sets part end ++ feed

-- two lines for each reader
abbrev pub reader_lines : List MetaData → List ReaderPart → List ReaderEnd → List ℕ
reader_lines sets parts ends =
    flat_map (λ at. reader_line sets at.0 at.1 ++ gaps_line at.0.name at.1.breaks at.1.recent.items) (zip parts ends)

-- for each read group, and after it for each of its readers
abbrev pub read_group_lines : List MetaData → List ReadGroupPart → List ReadGroupEnd → List ReaderEnd → List ℕ
read_group_lines sets [] ends readers = []
read_group_lines sets (part ∷ parts) [] readers = []
read_group_lines sets (part ∷ parts) (end ∷ ends) readers =
    read_group_line part.name end
    ++ reader_lines sets part.reader (take (length part.reader) readers)
    ++ read_group_lines sets parts ends (drop (length part.reader) readers)

-- the name of the reader at an index, where there is one
unfoldable pub reader_name : Config → ℕ → List ℕ
reader_name config index =
    option_map_or (λ (part : ReaderPart). part.name) (slice_get (readers_of config.readgroup) index) []

-- for each watch line
abbrev pub watch_lines : Config → List WatchEnd → List ℕ
watch_lines config watches = flat_map (λ end. watch_line end.thread (reader_name config end.reader) end.counts) watches

unfoldable pub end_line : List ℕ
end_line = codes "end" ++ feed

unfoldable pub report_text : Config → Closed → List ℕ
report_text config closed =
    history_lines config.dataset closed.histories
    ++ group_lines config.group closed.groups closed.writers
    ++ read_group_lines config.dataset config.readgroup closed.read_groups closed.readers
    ++ watch_lines config closed.watches
    ++ link_line closed.link
    ++ end_line

-- the row that a reader holds, or why it waits
unfoldable pub load_held_as : List MetaData → ReaderPart → Why → Option HeldEnd → List ℕ
load_held_as sets part why None = waits_text why
load_held_as sets part why (Some held) = row_text (slice_get sets part.dataset) held.row.words

abbrev pub load_held_text : List MetaData → ReaderPart → ReaderEnd → List ℕ
load_held_text sets part end = load_held_as sets part end.why end.held

-- the first reader, where there is one
unfoldable pub load_reader_line : List MetaData → List ReaderPart → List ReaderEnd → List ℕ
load_reader_line sets [] ends = []
load_reader_line sets (part ∷ parts) [] = []
load_reader_line sets (part ∷ parts) (end ∷ ends) =
    codes "reader " ++ part.name ++ load_held_text sets part end ++ feed

-- how long the first history is
abbrev pub load_versions : List History → ℕ
load_versions [] = 0
load_versions (history ∷ histories) = length history.threads

-- `load N history H ticks T`, the first reader's row, and the end
unfoldable pub load_text : Config → Closed → ℕ → ℕ → List ℕ
load_text config closed n ticks =
    codes "load " ++ decimal n ++ codes " history " ++ decimal (load_versions closed.histories)
    ++ codes " ticks " ++ decimal ticks ++ feed
    ++ load_reader_line config.dataset (readers_of config.readgroup) closed.readers
    ++ end_line
