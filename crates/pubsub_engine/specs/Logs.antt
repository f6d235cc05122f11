-- The logs of this program's writers, and which of them a reader names.
use Rattle.std.specs.Prelude.{◌≡◌, ◌≢◌, ℕ, ◌%◌, ◌==◌, Bool, true, false, List, [], map, take, zip, find, slice_get, Option, Some, option_map}
use Rattle.std.specs.Option.{option_map_or}
use Rattle.dataset_meta.specs.Metas.{MetaData}
use Rattle.pubsub_model.specs.Cadence.{log_of}
use Rattle.dataset_writer.specs.Turns.{model_settings}
use Rattle.ps_config.specs.declared.parts.Config.{Config}
use Rattle.ps_config.specs.declared.parts.GroupPart.{GroupPart}
use Rattle.ps_config.specs.declared.parts.WriterPart.{WriterPart}
use Rattle.ps_config.specs.declared.parts.ReadGroupPart.{ReadGroupPart}
use Rattle.ps_config.specs.declared.parts.ReaderPart.{ReaderPart}
use Rattle.ps_report.specs.Conditions.{writers_of}
use Rattle.writer_group.specs.Parts.{group_at}
use Rattle.writer_group.specs.Payloads.{writer_at}
use Rattle.writer_group.specs.Turns.{settings_of, writer_past}
use Rattle.session_model.specs.Deeds.{Deed, group_past, writer_indexes}
use Rattle.session_model.specs.Closing.{MemberPlace, writer_places}
use Rattle.session_parts.specs.Holding.{AreAllLogged}
use Rattle.session_parts.specs.Standing.{HavePast}
use Rattle.session_parts.specs.declared.publisher.Publisher.{Publisher}

-- of the log that these deeds leave the writer with index w of group g, the first data frames
abbrev pub log_after : ℕ → Config → List Deed → ℕ → ℕ → List (ℕ × ℕ)
log_after most config deeds g w =
    take most (log_of (model_settings (settings_of (writer_at (group_at config g) w))) (writer_past w (group_past config g deeds)))

-- where each writer of each group has this log, that of the writer with an id, empty where there is no such writer
abbrev pub log_by : (ℕ → ℕ → List (ℕ × ℕ)) → Config → ℕ → List (ℕ × ℕ)
log_by logs config id =
    option_map_or (λ at. logs at.1.0 at.1.1) (find (λ at. at.0.id == id) (zip (writers_of config.group) (writer_places config))) []

-- the logs that versions are told of: none where no versions are told
abbrev pub logs_told : Bool → (ℕ → ℕ → List (ℕ × ℕ)) → (ℕ → ℕ → List (ℕ × ℕ))
logs_told true logs = logs
logs_told false logs = λ g w. []

-- no two data frames of a log have the same number of 16 bits
abbrev pub HasOwnNumbers : List (ℕ × ℕ) → Type 0
HasOwnNumbers log =
    (j k : ℕ) (one other : ℕ × ℕ) → slice_get log j ≡ Some one → slice_get log k ≡ Some other → one.0 % 65536 ≡ other.0 % 65536 → j ≡ k

-- whichever deeds left the publisher's groups as they are, these are the data frames that the log of the writer with an id keeps, if versions are told of it
abbrev pub IsLogNamed : Bool → Config → Publisher → ℕ → List (ℕ × ℕ) → Type 0
IsLogNamed versions config publisher id log =
    (most : ℕ) (metas : List MetaData) (deeds : List Deed) → AreAllLogged most publisher.groups.items → HavePast config metas deeds publisher.groups.items
    → log ≡ log_by (logs_told versions (log_after most config deeds)) config id

-- the log that a reader, after its read group, names: where the read group's publisher is this program that of the writer with the id, else none
pub record IsLogRead (versions : Bool) (config : Config) (publisher : Publisher) (at : ReadGroupPart × ReaderPart) (log : List (ℕ × ℕ)) : Type 0 where
  pub own : at.0.publisher ≡ config.publisher.id → IsLogNamed versions config publisher at.1.writer log
  pub other : at.0.publisher ≢ config.publisher.id → log ≡ []

-- ---- where a writer with an id stands

-- the place of the first of these writers with the id
abbrev pub place_in : List WriterPart → List MemberPlace → ℕ → Option MemberPlace
place_in parts places id = option_map (λ at. at.1) (find (λ at. at.0.id == id) (zip parts places))

-- of the writers of the group with this index
abbrev pub place_within : GroupPart → ℕ → ℕ → Option MemberPlace
place_within group g id = place_in group.writer (map (λ w. (g, w)) (writer_indexes group)) id

-- of all writers
abbrev pub place_named : Config → ℕ → Option MemberPlace
place_named config id = place_in (writers_of config.group) (writer_places config) id
