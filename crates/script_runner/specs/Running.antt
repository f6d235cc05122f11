-- What a session lives through while threads write and the other lines of a script are run beside them. Lists of lines and of steps have the latest first.
use Rattle.std.specs.Prelude.{◌≡◌, ℕ, ◌<◌, ◌≤◌, List, [], ◌∷◌, length, map, take, Bool, false}
use Rattle.std.specs.List.{range_with_len}
use Rattle.dataset_meta.specs.declared.field.Field.{Field}
use Rattle.ua_base.specs.Journal.{Entry}
use Rattle.version_cell.specs.declared.rule.Entry.{Entry as Written}
use Rattle.version_cell.specs.Histories.{row_after}
use Rattle.ps_script.specs.declared.script.Act.{Act}
use Rattle.ps_script.specs.declared.script.Act.TheVariants as act
use Rattle.ps_script.specs.declared.script.Line.{Line}
use Rattle.writer_group.specs.declared.sampled.Sampled.{Sampled}
use Rattle.session_model.specs.Steps.{Plan, Step, Enable, Disable, Append, Tick, Pump}

-- ---- samples

-- the entries of each data set's history, the first first
abbrev pub Logs : Type 0
Logs = ℕ → List Written

-- a version of each data set
abbrev pub Versions : Type 0
Versions = ℕ → ℕ

-- each of so many data sets has a version of its history
abbrev pub AreWithin : ℕ → Logs → Versions → Type 0
AreWithin sets logs versions = (set : ℕ) → set < sets → versions set ≤ length (logs set)

-- a version with its row: that of so many entries
abbrev pub sample_at : List Written → ℕ → Sampled
sample_at log version = record { row = record { words = row_after (take version log) }; version = version }

-- so many data sets, each at a version of its history
abbrev pub samples_at : ℕ → Logs → Versions → List Sampled
samples_at sets logs versions = map (λ set. sample_at (logs set) (versions set)) (range_with_len 0 sets)

-- ---- the steps

-- a tick with the samples of these versions, and its pump
abbrev pub IsTickedAt : Plan → Logs → Versions → ℕ → Bool → List Step → List Step → Type 0
IsTickedAt p logs versions ms closing earlier steps =
    (done : List Bool) × (entries : List Entry)
    × (steps ≡ Pump entries ∷ Tick ms closing (samples_at (length p.full) logs versions) done ∷ earlier)

-- what a line makes of the steps before it: a tick samples some version of each data set; writes and watches are the threads'
abbrev pub IsLineRun : Plan → Logs → Act → List Step → List Step → Type 0
IsLineRun p logs (act.Write thread set patch) earlier steps = steps ≡ earlier
IsLineRun p logs (act.Tick ms) earlier steps =
    (versions : Versions) × AreWithin (length p.full) logs versions × IsTickedAt p logs versions ms false earlier steps
IsLineRun p logs (act.Enable id) earlier steps = steps ≡ Enable id ∷ earlier
IsLineRun p logs (act.Disable id) earlier steps = steps ≡ Disable id ∷ earlier
IsLineRun p logs (act.Fated k fate) earlier steps = steps ≡ earlier
IsLineRun p logs (act.Watch thread reader times) earlier steps = steps ≡ earlier
IsLineRun p logs (act.Append set) earlier steps = (field : Field) × (steps ≡ Append set field ∷ earlier)

-- these lines were run: the steps are theirs
abbrev pub IsRunBy : Plan → Logs → List Line → List Step → Type 0
IsRunBy p logs [] steps = steps ≡ []
IsRunBy p logs (line ∷ before) steps = (earlier : List Step) × IsRunBy p logs before earlier × IsLineRun p logs line.act earlier steps
