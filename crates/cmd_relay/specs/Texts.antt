-- The text of the command: the lines of the gateway after those of the first session.
use Rattle.std.specs.Prelude.{◌≡◌, ℕ, ◌<◌, List, [], ◌∷◌, ◌++◌, length, map, codes, count_by, Option, Some, None, option_and_then, slice_index_or}
use Rattle.std.specs.Fmt.{decimal}
use Rattle.dataset_meta.specs.declared.field.Field.{Field}
use Rattle.dataset_meta.specs.DataValues.{DataValue}
use Rattle.dataset_reader.specs.Kept.{Kept}
use Rattle.pubsub_model.specs.Answers.{version_of}
use Rattle.ua_base.specs.Journal.{Entry}
use Rattle.ps_config.specs.declared.parts.Config.{Config}
use Rattle.ps_report.specs.declared.closed.Closed.{Closed}
use Rattle.ps_report.specs.Lines.{count_text, feed, fields_text, log_text, number_or_dash, waits_text}
use Rattle.ps_report.specs.Reports.{end_line, report_text}
use Rattle.reader_group.specs.Members.{seat_at}
use Rattle.reader_group.specs.Settings.{setting_of}
use Rattle.writer_group.specs.Parts.{group_at}
use Rattle.writer_group.specs.Payloads.{writer_at}
use Rattle.writer_group.specs.Standing.{IsGood}
use Rattle.session_model.specs.Answers.{counted}
use Rattle.session_model.specs.Closing.{MemberPlace, is_got, is_send_failed, is_sent, reader_places, writer_places}
use Rattle.session_model.specs.Deeds.{log_at, writer_indexes}
use Rattle.session_model.specs.Events.{reader_at, reader_indexes}
use Rattle.session_model.specs.Sends.{journal}
use Rattle.session_model.specs.Steps.{Plan, Step}
use Rattle.session_laws.specs.Reading.{IsMatchedIn}
use Rattle.gateway_core.specs.declared.collected.StoreVersion.{StoreVersion}
use Rattle.gateway_core.specs.declared.gateway.Gateway.{Gateway}
use Rattle.gateway_core.specs.Holding.{IsGateway, KeepsAll, plan_of, sources_of}
use Rattle.gateway_core.specs.Lived.{GatewayStep, plan_again, session_steps, version_in, versions_kept as kept_at}
use Rattle.gateway_laws.specs.Relays.{RelayStep}
use Rattle.gateway_laws.specs.Sources.{Source, source_at}
use Rattle.gateway_laws.specs.Versions.{versions_kept}

-- ---- lines

-- `gateway NAME N: P=S ..`: place and store of each data frame
unfoldable pub gateway_line : List ℕ → List (ℕ × ℕ) → List ℕ
gateway_line name log = codes "gateway " ++ name ++ count_text (length log) ++ log_text log ++ feed

-- ` number N store S version V:`
unfoldable pub stored_text : Option ℕ → Option ℕ → Option ℕ → List ℕ
stored_text number store version =
    codes " number " ++ number_or_dash number ++ codes " store " ++ number_or_dash store ++ codes " version " ++ number_or_dash version ++ codes ":"

-- what a reader holds, or why it waits
abbrev pub held_as : List Field → Kept → Option ℕ → Option ℕ → Option (List DataValue) → List ℕ
held_as fields kept store version None = waits_text kept.why
held_as fields kept store version (Some row) = stored_text kept.number store version ++ fields_text fields row

abbrev pub relayed_as : List Field → Kept → Option ℕ → Option ℕ → List ℕ
relayed_as fields kept store version = held_as fields kept store version kept.row

-- `relayed NAME number N store S version V: F=X ..`, or `relayed NAME waits WHY`
unfoldable pub relayed_line : List ℕ → List Field → Kept → Option ℕ → Option ℕ → List ℕ
relayed_line name fields kept store version = codes "relayed " ++ name ++ relayed_as fields kept store version ++ feed

-- `link sent A failed B received C`
unfoldable pub counts_text : ℕ → ℕ → ℕ → List ℕ
counts_text sent failed received = codes "link sent " ++ decimal sent ++ codes " failed " ++ decimal failed ++ codes " received " ++ decimal received

-- `gateway link sent A failed B received C`
unfoldable pub link_line : ℕ → ℕ → ℕ → List ℕ
link_line sent failed received = codes "gateway " ++ counts_text sent failed received ++ feed

-- ---- one text for each place, in order

abbrev pub TextsOf : (MemberPlace → List ℕ → Type 0) → List MemberPlace → List ℕ → Type 0
TextsOf IsText [] text = text ≡ []
TextsOf IsText (place ∷ places) text =
    (one rest : List ℕ) × IsText place one × TextsOf IsText places rest × (text ≡ one ++ rest)

-- after other text
pub record Wrote (IsText : MemberPlace → List ℕ → Type 0) (places : List MemberPlace) (front whole : List ℕ) : Type 0 where
  pub text : List ℕ
  pub texts : TextsOf IsText places text
  pub whole_is : whole ≡ front ++ text

-- the places of the writers of a group, and of the readers of a read group
abbrev pub places_in_group : Config → ℕ → List MemberPlace
places_in_group config g = map (λ w. (g, w)) (writer_indexes (group_at config g))

abbrev pub places_in_read_group : Config → ℕ → List MemberPlace
places_in_read_group config r = map (λ i. (r, i)) (reader_indexes config r)

-- ---- the lines of a gateway

abbrev pub config_of : Gateway → Config
config_of gateway = (plan_of gateway).config

-- the gateway is one of this configuration, whose logs keep each data frame
pub record IsGatewayOf (second : Config) (g : Gateway) : Type 0 where
  pub gateway : IsGateway g
  pub keeps : KeepsAll g
  pub config : config_of g ≡ second
  pub good : IsGood second

-- those of the gateway of gateway_core, whose sources are named by their indexes
abbrev pub kept_by_index : List ℕ → List GatewayStep → ℕ → List StoreVersion
kept_by_index places lived set = kept_at (slice_index_or places set 0) lived

-- the versions that a gateway keeps of the stores of each data set's source
abbrev pub versions_of : Plan → List Source → List RelayStep → ℕ → List StoreVersion
versions_of p sources relay set = versions_kept p (source_at sources set) relay

-- the line of a writer
abbrev pub IsWriterText : Config → List Step → MemberPlace → List ℕ → Type 0
IsWriterText second steps place text =
    text ≡ gateway_line (writer_at (group_at second place.0) place.1).name (log_at (plan_again second) place.0 place.1 steps)

-- the number of the store that a writer logged for what a reader holds
abbrev pub store_held : Config → List Step → ℕ → ℕ → ℕ → ℕ → Option ℕ
store_held second steps r i g w =
    option_and_then (version_of (log_at (plan_again second) g w steps)) (reader_at second r i steps).kept.number

-- the version that this store came with; `kept` has for each data set those of its source
abbrev pub version_held : Config → List Step → (ℕ → List StoreVersion) → ℕ → ℕ → ℕ → ℕ → Option ℕ
version_held second steps kept r i g w =
    option_and_then (version_in (kept (writer_at (group_at second g) w).dataset)) (store_held second steps r i g w)

-- the line of a reader that is matched to this writer
abbrev pub reader_line : Config → List Step → (ℕ → List StoreVersion) → ℕ → ℕ → ℕ → ℕ → List ℕ
reader_line second steps kept r i g w =
    let seat = seat_at (setting_of second r).seats i in
    relayed_line seat.part.name seat.meta.fields (reader_at second r i steps).kept
    (store_held second steps r i g w) (version_held second steps kept r i g w)

-- a reader has a line where it is matched
pub record IsReaderText (second : Config) (steps : List Step) (kept : ℕ → List StoreVersion) (place : MemberPlace) (text : List ℕ) : Type 0 where
  pub matched : (g w : ℕ) → g < length second.group → IsMatchedIn second place.0 place.1 g w
      → text ≡ reader_line second steps kept place.0 place.1 g w
  pub unmatched : ((g w : ℕ) → g < length second.group → IsMatchedIn second place.0 place.1 g w → ⊥) → text ≡ []

-- the same of this gateway, which has done these steps
abbrev pub steps_of : Gateway → List GatewayStep → List Step
steps_of gateway lived = session_steps (sources_of gateway) lived

abbrev pub kept_of : Gateway → List GatewayStep → ℕ → List StoreVersion
kept_of gateway lived = kept_by_index (sources_of gateway) lived

abbrev pub IsWriterTextOf : Config → Gateway → List GatewayStep → MemberPlace → List ℕ → Type 0
IsWriterTextOf second gateway lived = IsWriterText second (steps_of gateway lived)

abbrev pub IsReaderTextOf : Config → Gateway → List GatewayStep → MemberPlace → List ℕ → Type 0
IsReaderTextOf second gateway lived = IsReaderText second (steps_of gateway lived) (kept_of gateway lived)

-- the counts of the gateway's link are those of its journal
abbrev pub link_text : List Entry → List ℕ
link_text entries = link_line (counted (count_by is_sent entries)) (counted (count_by is_send_failed entries)) (counted (count_by is_got entries))

-- ---- the whole

-- the report without its last line
abbrev pub IsReportBegun : Config → Closed → List ℕ → Type 0
IsReportBegun first closed text = text ++ end_line ≡ report_text first closed

-- the first session's report without its end, the gateway's lines, and the end; `steps` are those of the gateway as a session
pub record IsTextOf (first : Config) (closed : Closed) (second : Config) (steps : List Step) (kept : ℕ → List StoreVersion) (text : List ℕ) : Type 0 where
  pub report : List ℕ
  pub report_is : IsReportBegun first closed report
  pub writers : List ℕ
  pub writers_are : TextsOf (IsWriterText second steps) (writer_places second) writers
  pub readers : List ℕ
  pub readers_are : TextsOf (IsReaderText second steps kept) (reader_places second) readers
  pub text_is : text ≡ report ++ writers ++ readers ++ link_text (journal (plan_again second) steps) ++ end_line
