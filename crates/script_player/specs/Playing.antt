-- What a session lives through while the lines of a script are played. Lists of lines and of steps have the latest first.
use Rattle.std.specs.Prelude.{◌≡◌, ℕ, ◌==◌, List, [], ◌∷◌, ◌++◌, length, map, replicate, Bool, false, slice_get, if◌then◌else◌}
use Rattle.std.specs.List.{range_with_len}
use Rattle.std.specs.Option.{option_map_or}
use Rattle.dataset_meta.specs.declared.field.Field.{Field}
use Rattle.dataset_meta.specs.Metas.{MetaData}
use Rattle.row_words.specs.Patches.{patched_words}
use Rattle.ua_base.specs.Journal.{Entry}
use Rattle.version_cell.specs.declared.rule.Entry.{Entry as Written}
use Rattle.version_cell.specs.Histories.{entry, row_after}
use Rattle.ps_report.specs.declared.closed.WatchEnd.{WatchEnd}
use Rattle.ps_script.specs.declared.script.Act.{Act}
use Rattle.ps_script.specs.declared.script.Act.TheVariants as act
use Rattle.ps_script.specs.declared.script.Line.{Line}
use Rattle.writer_group.specs.declared.sampled.Sampled.{Sampled}
use Rattle.session_model.specs.Steps.{Plan, Step, Enable, Disable, Append, Tick, Pump}
use Rattle.session_model.specs.Sets.{meta_in}
use Rattle.session_model.specs.Stores.{stores}
use Rattle.session_model.specs.Closing.{reader_places}

-- ---- the histories of the data sets

-- a write is an entry of its thread, whose row is the one before with the patch laid in
abbrev pub with_write : MetaData → ℕ → List Written → Act → List Written
with_write meta set log (act.Write thread other patch) =
    if other == set then log ++ entry thread (patched_words meta.fields patch (row_after log)) ∷ [] else log
with_write meta set log _ = log

-- what these lines write to a data set, the first write first
abbrev pub log_after : MetaData → ℕ → List Line → List Written
log_after meta set [] = []
log_after meta set (line ∷ before) = with_write meta set (log_after meta set before) line.act

-- the version and the row that these lines leave
abbrev pub sample_after : MetaData → ℕ → List Line → Sampled
sample_after meta set lines =
    let log = log_after meta set lines in record { row = record { words = row_after log }; version = length log }

abbrev pub samples_after : List MetaData → List Line → List Sampled
samples_after full lines = map (λ set. sample_after (meta_in full set) set lines) (range_with_len 0 (length full))

-- ---- the steps

-- a tick with the sample of the lines so far, and its pump
abbrev pub IsTickedBy : Plan → List Line → ℕ → Bool → List Step → List Step → Type 0
IsTickedBy p lines ms closing earlier steps =
    (done : List Bool) × (entries : List Entry)
    × (steps ≡ Pump entries ∷ Tick ms closing (samples_after p.full lines) done ∷ earlier)

-- how many stores the reader with this index over all read groups has
abbrev pub stores_at : Plan → List Step → ℕ → ℕ
stores_at p steps reader =
    option_map_or (λ place. length (stores p.config place.0 place.1 steps)) (slice_get (reader_places p.config) reader) 0

-- a thread's looks at a reader, so often at once
abbrev pub look_at : Plan → List Step → ℕ → ℕ → ℕ → WatchEnd
look_at p steps thread reader times = record { thread = thread; reader = reader; counts = replicate times (stores_at p steps reader) }

-- what a line after these makes of the steps and of the looks so far
abbrev pub IsLineBy : Plan → List Line → Act → List Step → List Step → List WatchEnd → List WatchEnd → Type 0
IsLineBy p before (act.Write thread set patch) earlier steps looked looks = (steps ≡ earlier) × (looks ≡ looked)
IsLineBy p before (act.Tick ms) earlier steps looked looks = IsTickedBy p before ms false earlier steps × (looks ≡ looked)
IsLineBy p before (act.Enable id) earlier steps looked looks = (steps ≡ Enable id ∷ earlier) × (looks ≡ looked)
IsLineBy p before (act.Disable id) earlier steps looked looks = (steps ≡ Disable id ∷ earlier) × (looks ≡ looked)
IsLineBy p before (act.Fated k fate) earlier steps looked looks = (steps ≡ earlier) × (looks ≡ looked)
IsLineBy p before (act.Watch thread reader times) earlier steps looked looks =
    (steps ≡ earlier) × (looks ≡ looked ++ look_at p earlier thread reader times ∷ [])
IsLineBy p before (act.Append set) earlier steps looked looks =
    ((field : Field) × (steps ≡ Append set field ∷ earlier)) × (looks ≡ looked)

-- these lines were played: the steps are theirs, and the looks those of their watches, in order
abbrev pub IsPlayed : Plan → List Line → List Step → List WatchEnd → Type 0
IsPlayed p [] steps looks = (steps ≡ []) × (looks ≡ [])
IsPlayed p (line ∷ before) steps looks =
    (earlier : List Step) × (looked : List WatchEnd)
    × IsPlayed p before earlier looked × IsLineBy p before line.act earlier steps looked looks
