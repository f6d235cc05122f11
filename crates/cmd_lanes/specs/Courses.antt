-- How far a script has come.
use Rattle.std.specs.Prelude.{◌≡◌, ⊤, ℕ, ◌+◌, ◌-◌, ◌<◌, ◌≤◌, ◌^◌, List, [], ◌∷◌, ◌++◌, length, All, Bool, slice_set}
use Rattle.std.specs.List.{HoldsAt}
use Rattle.dataset_meta.specs.Metas.{MetaData}
use Rattle.row_words.specs.declared.patch.Patch.{Patch}
use Rattle.row_words.specs.Patches.{IsPatchOf, patched_words}
use Rattle.ps_config.specs.declared.parts.Config.{Config}
use Rattle.ps_script.specs.declared.script.Act.{Act}
use Rattle.ps_script.specs.declared.script.Act.TheVariants as act
use Rattle.ps_script.specs.declared.script.Line.{Line}
use Rattle.ps_script.specs.declared.script.Script.{Script}
use Rattle.ps_script.specs.Sessions.{ticks_in}
use Rattle.writer_group.specs.declared.sampled.Sampled.{Sampled}
use Rattle.session_model.specs.Sets.{AreRowsOf, meta_in}
use Rattle.session_model.specs.Steps.{moment_of}
use Rattle.script_player.specs.Playing.{samples_after}
use Rattle.lane_groups.specs.declared.turn.TurnIn.{TurnIn}
use Rattle.lane_groups.specs.Turns.{AreTurns}
use Rattle.cmd_lanes.specs.declared.course.Course.{Course}
use Rattle.cmd_lanes.specs.Scripts.{ticks_by, ticks_of}

-- each turn has a row of each data set
abbrev pub HaveRows : List MetaData → List TurnIn → Type 0
HaveRows metas turns = All (λ turn. AreRowsOf metas turn.rows.items) turns

-- after these lines, the latest first: the exact sample of their writes, and the turns of their ticks
pub record IsCourse (metas : List MetaData) (lines : List Line) (course : Course) : Type 0 where
  pub moment : course.now ≡ moment_of (ticks_by metas lines)
  pub rows : course.rows.items ≡ samples_after metas lines
  pub belong : AreRowsOf metas course.rows.items
  pub turns : AreTurns (ticks_by metas lines) course.turns.items
  pub have : HaveRows metas course.turns.items
  pub count : length course.turns.items ≡ ticks_in lines

-- the turns of a script and its closing one
pub record AreTurnsOf (config : Config) (script : Script) (turns : List TurnIn) : Type 0 where
  pub are : AreTurns (ticks_of script) turns
  pub have : HaveRows config.dataset turns
  pub few : length turns ≤ 4097

-- ---- a line

-- the data set is there, the patch is one of its, and its versions can be counted on
pub record MayWrite (metas : List MetaData) (set : ℕ) (patch : Patch) (course : Course) : Type 0 where
  pub there : set < length metas
  pub rows : AreRowsOf metas course.rows.items
  pub patch_is : HoldsAt (λ meta. IsPatchOf meta patch) metas set
  pub counted : HoldsAt (λ sampled. sampled.version < 2 ^ 64 - 1) course.rows.items set

-- the patch is laid into the row of the data set, which has a version more
abbrev pub written : MetaData → Patch → Sampled → Sampled
written meta patch sampled =
    record { row = record { words = patched_words meta.fields patch sampled.row.words }; version = sampled.version + 1 }

pub record IsWritten (metas : List MetaData) (set : ℕ) (patch : Patch) (old new : Course) : Type 0 where
  pub rows : HoldsAt (λ sampled. new.rows.items ≡ slice_set old.rows.items set (written (meta_in metas set) patch sampled)) old.rows.items set
  pub belong : AreRowsOf metas new.rows.items
  pub rest : new ≡ record old { rows = new.rows }

-- the moment can be counted on
abbrev pub MayTick : ℕ → Course → Type 0
MayTick ms course = course.now + ms < 2 ^ 64

-- the milliseconds passed, and there is a turn more, with the rows as they are
pub record IsTicked (ms : ℕ) (closing : Bool) (old new : Course) : Type 0 where
  pub turn : TurnIn
  pub turns : new.turns.items ≡ old.turns.items ++ turn ∷ []
  pub now_is : turn.now ≡ old.now + ms
  pub rows_are : turn.rows.items ≡ old.rows.items
  pub closing_is : turn.closing ≡ closing
  pub moment : new.now ≡ old.now + ms
  pub rows : new.rows ≡ old.rows

-- lanes take the line, and what it does can be done
abbrev pub MayFollow : List MetaData → Act → Course → Type 0
MayFollow metas (act.Write thread set patch) course = MayWrite metas set patch course
MayFollow metas (act.Tick ms) course = MayTick ms course
MayFollow metas (act.Enable id) course = ⊥
MayFollow metas (act.Disable id) course = ⊥
MayFollow metas (act.Fated number fate) course = ⊤
MayFollow metas (act.Watch thread reader times) course = ⊥
MayFollow metas (act.Append set) course = ⊥
