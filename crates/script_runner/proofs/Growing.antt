-- Histories that grow: what was sampled of them, and the lines that were run, stay so.
use Rattle.std.proofs.Common.{◌≡◌, ℕ, ◌<◌, ◌≤◌, Bool, false, List, [], ◌∷◌, length, take, sym, ap, ◌∙◌, arith}
use Rattle.std.proofs.lemmas.List.{take-append-le}
use Rattle.std.proofs.lemmas.List.FromFn.{fill_by_all, get_or-map-range_with_len, length-map-range_with_len}
use Rattle.version_cell.proofs.Logs.{starts_length}
use Rattle.version_cell.specs.declared.rule.Entry.{Entry}
use Rattle.version_cell.specs.Histories.{StartsWith, row_after}
use Rattle.ps_script.specs.declared.script.Act.{Act}
use Rattle.ps_script.specs.declared.script.Act.TheVariants as act
use Rattle.ps_script.specs.declared.script.Line.{Line}
use Rattle.writer_group.specs.declared.sampled.Sampled.{Sampled}
use Rattle.session_model.specs.Steps.{Plan, Step, Tick, Pump}
use Rattle.script_runner.specs.Running.{AreWithin, IsLineRun, IsRunBy, IsTickedAt, Logs, Versions, sample_at, samples_at}

-- the history of each of so many data sets is a beginning of the later one
abbrev pub Grow : ℕ → Logs → Logs → Type 0
Grow sets logs more = (set : ℕ) → set < sets → StartsWith (more set) (logs set)

taken-same : (more log : List Entry) (version : ℕ) → StartsWith more log → version ≤ length log → take version more ≡ take version log
taken-same more log version (rest, whole) within = ap (λ (l : List Entry). take version l) whole ∙ take-append-le version log rest within

within-more : (sets : ℕ) (logs more : Logs) (versions : Versions) → Grow sets logs more → AreWithin sets logs versions → AreWithin sets more versions
within-more sets logs more versions grow within set lt =
    let few = within set lt in
    let long = starts_length (more set) (logs set) (grow set lt) in
    omega (arith, few, long)

samples-same : (sets : ℕ) (logs more : Logs) (versions : Versions) → Grow sets logs more → AreWithin sets logs versions
    → samples_at sets logs versions ≡ samples_at sets more versions
samples-same sets logs more versions grow within =
    fill_by_all (λ (set : ℕ). sample_at (more set) (versions set)) (samples_at sets logs versions) sets (sample_at [] 0)
    (length-map-range_with_len (λ (set : ℕ). sample_at (logs set) (versions set)) 0 sets)
    (λ set lt.
    let sampled : List Entry → Sampled = λ taken. record { row = record { words = row_after taken }; version = versions set } in
    get_or-map-range_with_len (λ (s : ℕ). sample_at (logs s) (versions s)) 0 sets set set (sample_at [] 0) lt (omega arith)
    ∙ ap sampled (sym (taken-same (more set) (logs set) (versions set) (grow set lt) (within set lt))))

ticked-more : (p : Plan) (logs more : Logs) (versions : Versions) (ms : ℕ) (closing : Bool) (earlier steps : List Step) → Grow (length p.full) logs more
    → AreWithin (length p.full) logs versions → IsTickedAt p logs versions ms closing earlier steps → IsTickedAt p more versions ms closing earlier steps
ticked-more p logs more versions ms closing earlier steps grow within (done, entries, same) =
    (done, entries, same ∙ ap (λ (samples : List Sampled). Pump entries ∷ Tick ms closing samples done ∷ earlier) (samples-same (length p.full) logs more versions grow within))

line-more : (p : Plan) (logs more : Logs) (a : Act) (earlier steps : List Step) → Grow (length p.full) logs more → IsLineRun p logs a earlier steps → IsLineRun p more a earlier steps
line-more p logs more (act.Write thread set patch) earlier steps grow by = by
line-more p logs more (act.Tick ms) earlier steps grow (versions, within, ticked) =
    (versions, within-more (length p.full) logs more versions grow within, ticked-more p logs more versions ms false earlier steps grow within ticked)
line-more p logs more (act.Enable id) earlier steps grow by = by
line-more p logs more (act.Disable id) earlier steps grow by = by
line-more p logs more (act.Fated k fate) earlier steps grow by = by
line-more p logs more (act.Watch thread reader times) earlier steps grow by = by
line-more p logs more (act.Append set) earlier steps grow by = by

pub run-more : (p : Plan) (logs more : Logs) (lines : List Line) (steps : List Step) → Grow (length p.full) logs more → IsRunBy p logs lines steps → IsRunBy p more lines steps
run-more p logs more [] steps grow ran = ran
run-more p logs more (line ∷ before) steps grow (earlier, ran, by) =
    (earlier, run-more p logs more before earlier grow ran, line-more p logs more line.act earlier steps grow by)
