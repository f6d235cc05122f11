-- How large a session the lines of a script ask for.
use Rattle.std.specs.Prelude.{◌≡◌, ℕ, ◌+◌, ◌^◌, ◌<◌, ◌==◌, List, [], ◌∷◌, length, map, count_by, slice_get, Some}
use Rattle.std.specs.List.{flat_map, range_with_len}
use Rattle.dataset_meta.specs.Metas.{MetaData}
use Rattle.ps_config.specs.declared.parts.Config.{Config}
use Rattle.ps_script.specs.declared.script.Act.{Act}
use Rattle.ps_script.specs.declared.script.Act.TheVariants as act
use Rattle.ps_script.specs.declared.script.Line.{Line}
use Rattle.ps_script.specs.declared.script.Script.{Script}
use Rattle.ps_script.specs.Sessions.{metas_behind, writes_in}
use Rattle.session_model.specs.Sets.{meta_in}
use Rattle.pubsub_engine.specs.declared.size.Append.{Append}
use Rattle.pubsub_engine.specs.Holding.{AreAppends, full_of}

-- for each of so many data sets the number of writes of each of the eight threads
abbrev pub quotas_by : ℕ → List Line → List (List ℕ)
quotas_by sets lines = map (λ set. map (λ thread. writes_in thread set lines) (range_with_len 0 8)) (range_with_len 0 sets)

abbrev pub appended_by : Act → List ℕ
appended_by (act.Append set) = set ∷ []
appended_by _ = []

-- the data sets of the appends, in order
abbrev pub appended_sets : List Line → List ℕ
appended_sets lines = flat_map (λ line. appended_by line.act) lines

-- ---- the appended fields

-- how many of these appends are of a data set
abbrev pub appends_to : ℕ → List Append → ℕ
appends_to set appends = count_by (λ append. append.set == set) appends

-- of all fields of a data set the first that it hasn't after these appends
abbrev pub next_field : List MetaData → ℕ → List Append → ℕ
next_field configured set appends = length (meta_in configured set).fields + appends_to set appends

-- the data set is there, and has a further field
pub record HasNext (configured full : List MetaData) (set : ℕ) (appends : List Append) : Type 0 where
  pub there : set < length configured
  pub whole : set < length full
  pub next : next_field configured set appends < length (meta_in full set).fields

-- this append gives the data set that field; the minor version with all fields is one of 32 bits
pub record IsNext (configured full : List MetaData) (set : ℕ) (appends : List Append) (append : Append) : Type 0 where
  pub of : append.set ≡ set
  pub field : slice_get (meta_in full set).fields (next_field configured set appends) ≡ Some append.field
  pub minor : (meta_in full set).minor < 2 ^ 32

-- what these lines of the script append: each append is allowed when it comes, and together they make of the configured data sets what these are after the lines
pub record AppendsBy (config : Config) (script : Script) (lines : List Line) (appends : List Append) : Type 0 where
  pub allowed : AreAppends config config.dataset appends
  pub sets : map (λ append. append.set) appends ≡ appended_sets lines
  pub full : full_of config.dataset appends ≡ metas_behind config.dataset script.metas lines
