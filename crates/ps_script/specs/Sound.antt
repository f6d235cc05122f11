-- What holds of every accepted script.
use Rattle.std.specs.Prelude.{◌≡◌, ⊤, ℕ, ◌+◌, ◌^◌, ◌<◌, ◌≤◌, Bool, true, false, List, [], ◌∷◌, length, take, slice_get, Some, All, count_by}
use Rattle.std.specs.List.{HoldsAt, list_any}
use Rattle.dataset_meta.specs.Metas.{IsMeta, MetaData, HasGrown}
use Rattle.row_words.specs.declared.patch.Patch.{Patch}
use Rattle.row_words.specs.Patches.{IsPatchOf}
use Rattle.ua_base.specs.declared.link.Fate.{Fate}
use Rattle.ua_base.specs.declared.link.Fate.TheVariants as fate
use Rattle.ua_base.specs.Fates.{IsFate, AreFates}
use Rattle.ps_config.specs.declared.parts.Config.{Config}
use Rattle.ps_config.specs.Sound.{IsWithin, component_names, readers}
use Rattle.ps_config.specs.Rooms.{lacks_room}
use Rattle.ps_script.specs.declared.script.Line.{Line}
use Rattle.ps_script.specs.declared.script.Act.{Act}
use Rattle.ps_script.specs.declared.script.Act.TheVariants as act
use Rattle.ps_script.specs.declared.script.Script.{Script}
use Rattle.ps_script.specs.Faults.{has_mute_writer}
use Rattle.ps_script.specs.Acts.{next_number}
use Rattle.ps_script.specs.Sessions.{ticks_in, appends_in, fates_of, metas_behind, is_enabled}

-- a data set with all its fields is the configured one with those that the lines append, and a minor version that is
-- one higher for each
pub record IsGrown (set : ℕ) (lines : List Line) (configured full : MetaData) : Type 0 where
  pub name : full.name ≡ configured.name
  pub major : full.major ≡ configured.major
  pub minor : full.minor ≡ configured.minor + appends_in set lines
  pub count : length full.fields ≡ length configured.fields + appends_in set lines
  pub grown : HasGrown configured full
  pub is_meta : IsMeta full.fields

-- a patch of the data set with all its fields, which marks some, and none but those that the data set has after these
-- lines
pub record IsWrite (config : Config) (full : List MetaData) (before : List Line) (thread set : ℕ) (patch : Patch) : Type 0 where
  pub bound : thread < 8
  pub there : set < length full
  pub of : HoldsAt (λ meta. IsPatchOf meta patch) full set
  pub some : 0 < patch.mask
  pub marks : HoldsAt (λ meta. patch.mask < 2 ^ length meta.fields) (metas_behind config.dataset full before) set

-- a component, which is enabled after these lines or isn't
pub record IsSwitch (config : Config) (before : List Line) (id : ℕ) (on : Bool) : Type 0 where
  pub there : id < length (component_names config)
  pub was : is_enabled id before ≡ on

-- the datagram until which one is held back, or after which one comes again
abbrev pub last_of : Fate → ℕ
last_of (fate.Hold after) = after
last_of (fate.Again after) = after
last_of _ = 0

pub record IsFated (number : ℕ) (fate : Fate) : Type 0 where
  pub bound : number ≤ 1000000
  pub last : last_of fate ≤ 1000000
  pub is_fate : IsFate number fate

pub record IsWatch (config : Config) (thread reader times : ℕ) : Type 0 where
  pub bound : thread < 8
  pub there : reader < length (readers config)
  pub looks : IsWithin 1 1000 times

-- each writer of the data set can tell of the new field
pub record IsAppend (config : Config) (full : List MetaData) (set : ℕ) : Type 0 where
  pub there : set < length full
  pub told : list_any (has_mute_writer set) config.group ≡ false

-- what a line names is there, and each number is in its range. The second are the data sets with all their fields, and
-- the lines are those before
abbrev pub IsAct : Config → List MetaData → List Line → Act → Type 0
IsAct config full before (act.Write thread set patch) = IsWrite config full before thread set patch
IsAct config full before (act.Tick ms) = IsWithin 1 3600000 ms
IsAct config full before (act.Enable id) = IsSwitch config before id false
IsAct config full before (act.Disable id) = IsSwitch config before id true
IsAct config full before (act.Fated number fate) = IsFated number fate
IsAct config full before (act.Watch thread reader times) = IsWatch config thread reader times
IsAct config full before (act.Append set) = IsAppend config full set

-- data sets that a session of the configuration may have: each makes a meta, and no group lacks room for its frames
pub record FitConfig (config : Config) (metas : List MetaData) : Type 0 where
  pub each : All (λ meta. IsMeta meta.fields) metas
  pub room : All (λ group. lacks_room config.publisher.id metas group ≡ false) config.group

abbrev pub is_some_write : Act → Bool
is_some_write (act.Write thread set patch) = true
is_some_write _ = false

abbrev pub is_watch : Act → Bool
is_watch (act.Watch thread reader times) = true
is_watch _ = false

abbrev pub is_some_append : Act → Bool
is_some_append (act.Append set) = true
is_some_append _ = false

-- no more lines of each kind than there may be
pub record AreFew (lines : List Line) : Type 0 where
  pub ticks : ticks_in lines ≤ 4096
  pub writes : count_by (λ line. is_some_write line.act) lines ≤ 32768
  pub fates : length (fates_of lines) ≤ 256
  pub watches : count_by (λ line. is_watch line.act) lines ≤ 64
  pub appends : count_by (λ line. is_some_append line.act) lines ≤ 16

-- each line has its number: the first at least this one, and each a greater one than the line before, up to where the
-- count of lines stands
abbrev pub AreNumbered : ℕ → List Line → Type 0
AreNumbered least [] = ⊤
AreNumbered least (line ∷ lines) = (least ≤ line.at) × AreNumbered (next_number line.at) lines

pub record IsScript (config : Config) (script : Script) : Type 0 where
  pub sets : length script.metas ≡ length config.dataset
  pub metas : (set : ℕ) (configured full : MetaData) → slice_get config.dataset set ≡ Some configured
      → slice_get script.metas set ≡ Some full → IsGrown set script.lines configured full
  pub acts : (k : ℕ) (line : Line) → slice_get script.lines k ≡ Some line
      → IsAct config script.metas (take k script.lines) line.act
  pub behind : (k : ℕ) → FitConfig config (metas_behind config.dataset script.metas (take k script.lines))
  pub few : AreFew script.lines
  pub numbers : AreNumbered 1 script.lines
  pub fates : AreFates (fates_of script.lines)

-- a data set of a script, as it is configured and with all its fields
pub record IsSetOf (config : Config) (script : Script) (set : ℕ) (configured full : MetaData) : Type 0 where
  pub is_script : IsScript config script
  pub first : slice_get config.dataset set ≡ Some configured
  pub last : slice_get script.metas set ≡ Some full
