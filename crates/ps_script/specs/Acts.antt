-- What lines without a fault mean.
use Rattle.std.specs.Prelude.{ℕ, ◌+◌, min, List, [], ◌∷◌, Option, Some, None, option_and_then, slice_get, unwrap_or}
use Rattle.std.specs.Option.{option_map_or}
use Rattle.dataset_meta.specs.Metas.{MetaData}
use Rattle.row_words.specs.declared.patch.Patch.{Patch}
use Rattle.row_words.specs.Patches.{spelled_patch}
use Rattle.ua_base.specs.declared.link.Fate.{Fate}
use Rattle.ua_base.specs.declared.link.Fate.TheVariants as fate
use Rattle.ps_config.specs.declared.parts.Config.{Config}
use Rattle.ps_script.specs.declared.script.Line.{Line}
use Rattle.ps_script.specs.declared.script.Act.{Act}
use Rattle.ps_script.specs.declared.script.Act.TheVariants as act
use Rattle.ps_script.specs.declared.verbs.Verb.{Verb}
use Rattle.ps_script.specs.declared.verbs.Verb.TheVariants as verb
use Rattle.ps_script.specs.declared.verbs.FateWord.{FateWord}
use Rattle.ps_script.specs.declared.verbs.FateWord.TheVariants as fated
use Rattle.ps_script.specs.Texts.{word}
use Rattle.ps_script.specs.Verbs.{verb_of, fate_of}
use Rattle.ps_script.specs.Numbers.{number_at}
use Rattle.ps_script.specs.Names.{component_named, reader_named, set_named}
use Rattle.ps_script.specs.Values.{ValueReader}
use Rattle.ps_script.specs.Fields.{patch_with}
use Rattle.ps_script.specs.Faults.{field_words}

-- the patch of a line `write`, of a data set with all its fields
abbrev pub patch_of : ValueReader → List ℕ → MetaData → Patch
patch_of reader line meta = spelled_patch meta.fields (patch_with reader meta.quality meta.fields [] (field_words line))

abbrev pub write_at : ValueReader → List MetaData → List ℕ → ℕ → Option Act
write_at reader metas line set =
    option_map_or (λ meta. Some (act.Write (number_at 0 7 (word 1 line)) set (patch_of reader line meta))) (slice_get metas set) None

abbrev pub fate_by : List ℕ → FateWord → Fate
fate_by line fated.Drop = fate.Drop
fate_by line fated.Repeat = fate.Repeat (number_at 2 8 (word 3 line))
fate_by line fated.Hold = fate.Hold (number_at 0 1000000 (word 3 line))
fate_by line fated.Again = fate.Again (number_at 0 1000000 (word 3 line))

-- the metas are those with all fields that the script appends
abbrev pub act_by : ValueReader → Config → List MetaData → List ℕ → Option Verb → Option Act
act_by reader config metas line None = None
act_by reader config metas line (Some verb.Write) = option_and_then (write_at reader metas line) (set_named metas (word 2 line))
act_by reader config metas line (Some verb.Tick) = Some (act.Tick (number_at 1 3600000 (word 1 line)))
act_by reader config metas line (Some verb.Enable) = Some (act.Enable (unwrap_or (component_named config (word 1 line)) 0))
act_by reader config metas line (Some verb.Disable) = Some (act.Disable (unwrap_or (component_named config (word 1 line)) 0))
act_by reader config metas line (Some verb.Append) = Some (act.Append (unwrap_or (set_named metas (word 1 line)) 0))
act_by reader config metas line (Some verb.Fate) =
    Some (act.Fated (number_at 0 1000000 (word 1 line)) (fate_by line (unwrap_or (fate_of line) fated.Drop)))
act_by reader config metas line (Some verb.Watch) =
    Some (act.Watch (number_at 0 7 (word 1 line)) (unwrap_or (reader_named config (word 2 line)) 0) (number_at 1 1000 (word 3 line)))

-- what a line does; nothing where it is empty or a comment
unfoldable pub act_of : ValueReader → Config → List MetaData → List ℕ → Option Act
act_of reader config metas line = act_by reader config metas line (verb_of line)

-- the count of lines stands at its type's end
abbrev pub next_number : ℕ → ℕ
next_number number = min (number + 1) 4294967295

abbrev pub with_act : ℕ → Option Act → List Line → List Line
with_act number None lines = lines
with_act number (Some act) lines = record { at = number; act = act } ∷ lines

-- the lines that do something, each with its number; the first has this one
abbrev pub acts_from : ValueReader → Config → List MetaData → ℕ → List (List ℕ) → List Line
acts_from reader config metas number [] = []
acts_from reader config metas number (line ∷ lines) =
    with_act number (act_of reader config metas line) (acts_from reader config metas (next_number number) lines)
