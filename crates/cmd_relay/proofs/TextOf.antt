-- The seat of a reader whose line is written, and the whole text.
use Rattle.std.proofs.Common.{◌≡◌, refl, ap, ◌∙◌, ℕ, ◌<◌, List, [], ◌∷◌, ◌++◌, length, get_or}
use Rattle.std.specs.Prelude.{count_by, slice_index_or}
use Rattle.std.proofs.lemmas.List.{get_or-map}
use Rattle.dataset_meta.specs.Metas.{MetaData, no_meta}
use Rattle.ps_config.specs.declared.parts.Config.{Config}
use Rattle.ps_config.specs.declared.parts.ReaderPart.{ReaderPart}
use Rattle.ps_config.specs.Sound.{IsReadGroup, IsReader}
use Rattle.ps_report.specs.declared.closed.Closed.{Closed}
use Rattle.ps_report.specs.Reports.{end_line}
use Rattle.reader_group.specs.Members.{no_seat, seat_at, seat_of}
use Rattle.reader_group.specs.Settings.{group_at as read_group_at, no_group as no_read_group, seat_in, setting_of}
use Rattle.writer_group.specs.Standing.{IsGood}
use Rattle.session_model.specs.Answers.{counted}
use Rattle.session_model.specs.Closing.{is_got, is_send_failed, is_sent, reader_places, writer_places}
use Rattle.session_model.specs.Sends.{journal}
use Rattle.session_model.specs.Steps.{Step}
use Rattle.session_laws.specs.Reading.{IsMatchedIn}
use Rattle.gateway_core.specs.declared.collected.StoreVersion.{StoreVersion}
use Rattle.gateway_core.specs.Lived.{plan_again}
use Rattle.cmd_relay.specs.Texts.{IsReaderText, IsReportBegun, IsTextOf, IsWriterText, Wrote, link_line}

-- ---- a reader that was read

-- its data set is there
pub set-there : (config : Config) (r i : ℕ) → IsGood config → r < length config.readgroup → i < length (read_group_at config r).reader
    → (get_or (read_group_at config r).reader i no_seat.part).dataset < length config.dataset
set-there config r i good low there = of (good.sound.readgroups r no_read_group low)
  where
    has : IsReader config (get_or (read_group_at config r).reader i no_seat.part) → (get_or (read_group_at config r).reader i no_seat.part).dataset < length config.dataset
    has is = is.dataset

    of : IsReadGroup config (read_group_at config r) → (get_or (read_group_at config r).reader i no_seat.part).dataset < length config.dataset
    of is = has (is.readers i no_seat.part there)

-- its seat, with the meta of its data set that was read
pub seat-read : (config : Config) (r i : ℕ) (part : ReaderPart) (meta : MetaData) → i < length (read_group_at config r).reader
    → get_or (read_group_at config r).reader i no_seat.part ≡ part → slice_index_or config.dataset part.dataset no_meta ≡ meta
    → seat_at (setting_of config r).seats i ≡ seat_of part meta
seat-read config r i part meta there is own =
    get_or-map (seat_in config) (read_group_at config r).reader i no_seat.part no_seat there ∙ ap (seat_in config) is ∙ ap (seat_of part) own

-- ---- no line where a reader is matched to none

pub unmatched-text : (second : Config) (steps : List Step) (kept : ℕ → List StoreVersion) (r i : ℕ) → ((g w : ℕ) → g < length second.group → IsMatchedIn second r i g w → ⊥)
    → IsReaderText second steps kept (r, i) []
unmatched-text second steps kept r i none = record { matched = λ g w low matched. absurd (none g w low matched); unmatched = λ _. refl }

-- ---- the whole

abbrev IsCounted : Config → List Step → List ℕ → Type 0
IsCounted second steps counts =
    counts ≡ counted (count_by is_sent (journal (plan_again second) steps)) ∷ counted (count_by is_send_failed (journal (plan_again second) steps))
    ∷ counted (count_by is_got (journal (plan_again second) steps)) ∷ []

-- the report, the writers' lines, the readers', the link's and the end, one written behind the other
pub text-is : (first : Config) (closed : Closed) (second : Config) (steps : List Step) (kept : ℕ → List StoreVersion) (report written read linked text counts : List ℕ)
    → IsReportBegun first closed report → Wrote (IsWriterText second steps) (writer_places second) report written
    → Wrote (IsReaderText second steps kept) (reader_places second) written read → IsCounted second steps counts
    → linked ≡ read ++ link_line (slice_index_or counts 0 0) (slice_index_or counts 1 0) (slice_index_or counts 2 0) → text ≡ linked ++ end_line
    → IsTextOf first closed second steps kept text
text-is first closed second steps kept report written read linked text counts begun writers readers counts_are link_is is = record {
  report = report;
  report_is = begun;
  writers = writers.text;
  writers_are = writers.texts;
  readers = readers.text;
  readers_are = readers.texts;
  text_is =
      let line : List ℕ → List ℕ = λ cs. link_line (slice_index_or cs 0 0) (slice_index_or cs 1 0) (slice_index_or cs 2 0) in
      is
      ∙ ap (λ (l : List ℕ). l ++ end_line)
      (link_is ∙ ap (λ (l : List ℕ). l ++ line counts) (readers.whole_is ∙ ap (λ (l : List ℕ). l ++ readers.text) writers.whole_is)
      ∙ ap (λ (cs : List ℕ). report ++ writers.text ++ readers.text ++ line cs) counts_are);
}
