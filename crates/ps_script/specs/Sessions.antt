-- What a session takes from the lines of a script.
use Rattle.std.specs.Prelude.{ℕ, ◌+◌, ◌==◌, Bool, true, false, ◌&&◌, ◌||◌, not, List, [], ◌∷◌, length, take, flat_map, count_by, sum, if◌then◌else◌}
use Rattle.std.specs.List.{fold}
use Rattle.dataset_meta.specs.Metas.{MetaData, meta_of}
use Rattle.row_words.specs.declared.patch.Patch.{Patch}
use Rattle.ua_base.specs.declared.link.Fate.{Fate}
use Rattle.ps_script.specs.declared.script.Line.{Line}
use Rattle.ps_script.specs.declared.script.Act.{Act}
use Rattle.ps_script.specs.declared.script.Act.TheVariants as act

abbrev pub is_write : ℕ → ℕ → Act → Bool
is_write thread set (act.Write writer other patch) = writer == thread && other == set
is_write thread set _ = false

abbrev pub is_tick : Act → Bool
is_tick (act.Tick ms) = true
is_tick _ = false

abbrev pub is_append : ℕ → Act → Bool
is_append set (act.Append other) = other == set
is_append set _ = false

-- how many writes of a thread to a data set there are, how many ticks, and how many fields a data set has more
abbrev pub writes_in : ℕ → ℕ → List Line → ℕ
writes_in thread set lines = count_by (λ line. is_write thread set line.act) lines

abbrev pub ticks_in : List Line → ℕ
ticks_in lines = count_by (λ line. is_tick line.act) lines

abbrev pub appends_in : ℕ → List Line → ℕ
appends_in set lines = count_by (λ line. is_append set line.act) lines

abbrev pub patches_by : ℕ → ℕ → Act → List Patch
patches_by thread set (act.Write writer other patch) = if writer == thread && other == set then patch ∷ [] else []
patches_by thread set _ = []

-- the patches that a thread writes to a data set, in the order of the lines
abbrev pub patches_of : ℕ → ℕ → List Line → List Patch
patches_of thread set lines = flat_map (λ line. patches_by thread set line.act) lines

abbrev pub gives_fate : Act → Bool
gives_fate (act.Fated number fate) = true
gives_fate _ = false

abbrev pub fates_by : Act → List (ℕ × Fate)
fates_by (act.Fated number fate) = (number, fate) ∷ []
fates_by _ = []

-- the fates of datagrams, in the order of the lines
abbrev pub fates_of : List Line → List (ℕ × Fate)
fates_of lines = flat_map (λ line. fates_by line.act) lines

abbrev pub spans_by : Act → List ℕ
spans_by (act.Tick ms) = ms ∷ []
spans_by _ = []

-- the moment of the last tick of these lines, 0 before the first: the milliseconds that have passed
abbrev pub moment_after : List Line → ℕ
moment_after lines = sum (flat_map (λ line. spans_by line.act) lines)

-- a data set after these lines: of all its fields those that the configuration gives it and those that the lines
-- append, and a minor version that is one higher for each of these
abbrev pub meta_behind : ℕ → MetaData → MetaData → List Line → MetaData
meta_behind set configured full lines =
    meta_of full.name (take (length configured.fields + appends_in set lines) full.fields) full.major
    (configured.minor + appends_in set lines) full.quality

-- the same of all data sets; the first of these has this number
abbrev pub metas_from : ℕ → List MetaData → List MetaData → List Line → List MetaData
metas_from set [] full lines = []
metas_from set (meta ∷ configured) [] lines = []
metas_from set (meta ∷ configured) (whole ∷ full) lines =
    meta_behind set meta whole lines ∷ metas_from (set + 1) configured full lines

-- the configured data sets after these lines; with all fields that the script appends they are the second
abbrev pub metas_behind : List MetaData → List MetaData → List Line → List MetaData
metas_behind configured full lines = metas_from 0 configured full lines

abbrev pub enabled_by : ℕ → Bool → Act → Bool
enabled_by id on (act.Enable other) = other == id || on
enabled_by id on (act.Disable other) = not (other == id) && on
enabled_by id on _ = on

-- whether a component is enabled after these lines (OPC 10000-14 6.2.1, PubSubState): each is at first
abbrev pub is_enabled : ℕ → List Line → Bool
is_enabled id lines = fold (λ on line. enabled_by id on line.act) true lines
