-- Which scripts lanes take, and the ticks that they make of one. Lists of lines and of steps have the latest first.
use Rattle.std.specs.Prelude.{ℕ, List, [], ◌∷◌, Bool, true, false, not, Option, find, option_map, reverse}
use Rattle.dataset_meta.specs.Metas.{MetaData}
use Rattle.ps_script.specs.declared.script.Act.{Act}
use Rattle.ps_script.specs.declared.script.Act.TheVariants as act
use Rattle.ps_script.specs.declared.script.Line.{Line}
use Rattle.ps_script.specs.declared.script.Script.{Script}
use Rattle.session_model.specs.Steps.{Step, Tick}
use Rattle.script_player.specs.Playing.{samples_after}

-- lanes take writes, ticks and fates
abbrev pub is_taken : Act → Bool
is_taken (act.Write thread set patch) = true
is_taken (act.Tick ms) = true
is_taken (act.Enable id) = false
is_taken (act.Disable id) = false
is_taken (act.Fated number fate) = true
is_taken (act.Watch thread reader times) = false
is_taken (act.Append set) = false

-- the number of the first line that they don't take, from 1
abbrev pub refusal : Script → Option ℕ
refusal script = option_map (λ line. line.at) (find (λ line. not (is_taken line.act)) script.lines)

-- a tick has the sample of the lines before it; which of its sends are done doesn't matter to what is sent
abbrev pub with_tick : List MetaData → List Line → Act → List Step → List Step
with_tick metas before (act.Tick ms) steps = Tick ms false (samples_after metas before) [] ∷ steps
with_tick metas before (act.Write thread set patch) steps = steps
with_tick metas before (act.Enable id) steps = steps
with_tick metas before (act.Disable id) steps = steps
with_tick metas before (act.Fated number fate) steps = steps
with_tick metas before (act.Watch thread reader times) steps = steps
with_tick metas before (act.Append set) steps = steps

-- the ticks of these lines
abbrev pub ticks_by : List MetaData → List Line → List Step
ticks_by metas [] = []
ticks_by metas (line ∷ before) = with_tick metas before line.act (ticks_by metas before)

-- those of a script, and the closing one
abbrev pub ticks_of : Script → List Step
ticks_of script =
    let lines = reverse script.lines in Tick 0 true (samples_after script.metas lines) [] ∷ ticks_by script.metas lines
