-- What is seen of a gateway, put together.
use Rattle.std.proofs.Common.{◌≡◌, ℕ, ◌<◌, Bool, true, false, cond, List, [], ◌∷◌, length, All, Option, Some, None, subst}
use Rattle.std.specs.Prelude.{◌==◌, ◌%◌, find, reverse, IfSome, option_and_then, option_map}
use Rattle.std.specs.List.{AllByRecursion}
use Rattle.std.proofs.lemmas.List.Elements.{recursion_from_All}
use Rattle.dataset_meta.specs.declared.field.Field.{Field}
use Rattle.dataset_meta.specs.DataValues.{DataValue}
use Rattle.dataset_meta.specs.Metas.{MetaData}
use Rattle.dataset_meta.specs.Rows.{IsRow}
use Rattle.row_words.specs.Belonging.{Belongs, row_in}
use Rattle.dataset_reader.specs.Kept.{Kept}
use Rattle.dataset_reader.specs.Reader.{IsReaderOf, kept_by}
use Rattle.dataset_reader.specs.declared.reader.Reader.{Reader}
use Rattle.pubsub_model.specs.Answers.{version_of}
use Rattle.ps_config.specs.declared.parts.Config.{Config}
use Rattle.report_laws.specs.Numbers.{IsNumber}
use Rattle.reader_group.specs.Members.{seat_at}
use Rattle.reader_group.specs.Settings.{group_at as read_group_at, setting_of}
use Rattle.writer_group.specs.Parts.{group_at}
use Rattle.writer_group.specs.Payloads.{writer_at}
use Rattle.session_model.specs.Deeds.{log_at}
use Rattle.session_model.specs.Events.{reader_at}
use Rattle.session_model.specs.Steps.{Step}
use Rattle.session_laws.proofs.Versions.Telling.{writer-index}
use Rattle.gateway_core.specs.declared.collected.StoreVersion.{StoreVersion}
use Rattle.gateway_core.specs.Lived.{plan_again, version_in}
use Rattle.cmd_relay.specs.Numbers.{GatewayHasNumbers}
use Rattle.cmd_relay.specs.Seen.{HasVersion, LogIsSeen, ReaderIsSeen}
use Rattle.cmd_relay.proofs.Places.{all-back, read-group-there}

-- ---- a reader

pub row-fits : {A : Type 0} (meta : MetaData) (words : A → List ℕ) (o : Option A) (kept : Option (List DataValue)) → option_map (λ a. row_in meta.fields (words a)) o ≡ kept
    → IfSome o (λ a. Belongs meta (words a)) → IfSome kept (IsRow meta)
row-fits meta words None kept is of = subst (λ (k : Option (List DataValue)). IfSome k (IsRow meta)) is tt
row-fits meta words (Some a) kept is of = subst (λ (k : Option (List DataValue)). IfSome k (IsRow meta)) is of.row

pub reader-seen : (second config : Config) (steps : List Step) (r i : ℕ) (reader : Reader) → config ≡ second
    → kept_by (seat_at (setting_of second r).seats i).meta.fields reader ≡ (reader_at second r i steps).kept → IsReaderOf (seat_at (setting_of config r).seats i).meta reader
    → ((fields : List Field) → IfSome (kept_by fields reader).number IsNumber) → ((meta : MetaData) → IsReaderOf meta reader → IfSome (kept_by meta.fields reader).row (IsRow meta))
    → ReaderIsSeen second steps r i
reader-seen second config steps r i reader same kept made number row =
    let meta = (seat_at (setting_of second r).seats i).meta in
    let own : IsReaderOf meta reader = subst (λ (c : Config). IsReaderOf (seat_at (setting_of c r).seats i).meta reader) same made in
    record {
      number = subst (λ (k : Kept). IfSome k.number IsNumber) kept (number meta.fields);
      row = subst (λ (k : Kept). IfSome k.row (IsRow meta)) kept (row meta own);
    }

-- ---- the version of a store that a log has

either-version : (kept : List StoreVersion) (b : Bool) (entry : ℕ × ℕ) (rest : Option (ℕ × ℕ)) → HasVersion kept entry
    → IfSome (option_and_then (version_in kept) (option_map (λ (e : ℕ × ℕ). e.1) rest)) IsNumber
    → IfSome (option_and_then (version_in kept) (option_map (λ (e : ℕ × ℕ). e.1) (cond b (Some entry) rest))) IsNumber
either-version kept true entry rest here later = here
either-version kept false entry rest here later = later

found-version : (kept : List StoreVersion) (test : ℕ × ℕ → Bool) (log : List (ℕ × ℕ)) → AllByRecursion (HasVersion kept) log
    → IfSome (option_and_then (version_in kept) (option_map (λ (e : ℕ × ℕ). e.1) (find test log))) IsNumber
found-version kept test [] all = tt
found-version kept test (entry ∷ log) all = either-version kept (test entry) entry (find test log) all.0 (found-version kept test log all.1)

version-seen : (kept : List StoreVersion) (log : List (ℕ × ℕ)) (number : Option ℕ) → All (HasVersion kept) log
    → IfSome (option_and_then (version_in kept) (option_and_then (version_of log) number)) IsNumber
version-seen kept log None all = tt
version-seen kept log (Some n) all = found-version kept (λ entry. entry.0 % 65536 == n) (reverse log) (all-back (HasVersion kept) log (recursion_from_All (HasVersion kept) log all))

-- ---- all

pub gateway-seen : (second : Config) (steps : List Step) (kept : ℕ → List StoreVersion)
    → ((g w : ℕ) → g < length second.group → w < length (group_at second g).writer → LogIsSeen second steps (kept (writer_at (group_at second g) w).dataset) g w)
    → ((r i : ℕ) → r < length second.readgroup → i < length (read_group_at second r).reader → ReaderIsSeen second steps r i)
    → GatewayHasNumbers second steps kept
gateway-seen second steps kept logs readers = record {
  logs = λ g w within. (logs g w (writer-index second g w within) within).log;
  readers = λ r i g w low matched. (
      let seen = readers r i (read-group-there second r i matched.within) matched.within in
      record {
        number = seen.number;
        version = version-seen (kept (writer_at (group_at second g) w).dataset) (log_at (plan_again second) g w steps) (reader_at second r i steps).kept.number (logs g w low matched.reads.within).versions;
        row = seen.row;
      }
      );
}
