-- Legal histories of a script: what its threads make of its data sets, in whatever order their writes come.
use Rattle.std.specs.Prelude.{◌≡◌, ℕ, List, map}
use Rattle.std.specs.List.{range_with_len}
use Rattle.dataset_meta.specs.declared.field.Field.{Field}
use Rattle.dataset_meta.specs.DataValues.{DataValue}
use Rattle.pubsub_model.specs.History.{IsLegal, Written as WrittenRow, legal_history, row_of}
use Rattle.version_cell.specs.declared.rule.Entry.{Entry as Written}
use Rattle.version_cell.specs.Histories.{history_of}
use Rattle.app_threads.specs.Closing.{meanings, threads_of}
use Rattle.ps_script.specs.declared.script.Script.{Script}
use Rattle.ps_script.specs.Sessions.{patches_of}
use Rattle.session_model.specs.Sets.{meta_in}

-- the fields of a data set, with those that the script appends
abbrev pub fields_in : Script → ℕ → List Field
fields_in script set = (meta_in script.metas set).fields

-- what each of the eight threads writes to a data set, in the order of the lines
abbrev pub writes_to : Script → ℕ → List (List (List (ℕ × DataValue)))
writes_to script set = meanings (fields_in script set) (map (λ thread. patches_of thread set script.lines) (range_with_len 0 8))

-- the history that these threads make, the latest first, each with its writes in order
abbrev pub history_by : Script → ℕ → List ℕ → List WrittenRow
history_by script set threads = legal_history (fields_in script set) (writes_to script set) threads

-- *Legal history*: the threads of the entries are legal for the script's writes, and the entries are the history that these threads make
pub record IsLegalLog (script : Script) (set : ℕ) (log : List Written) : Type 0 where
  pub legal : IsLegal (threads_of log) (writes_to script set)
  pub history : history_of (fields_in script set) log ≡ history_by script set (threads_of log)

-- the row of each version of the data sets' histories; version 0 is the opening row
abbrev pub row_made : Script → (ℕ → List Written) → ℕ → ℕ → List DataValue
row_made script logs set version = row_of (fields_in script set) (history_by script set (threads_of (logs set))) version
