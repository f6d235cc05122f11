-- The texts of scripts with a fate, and that these are scripts.
use Rattle.std.proofs.Common.{◌≡◌, ap, ◌∙◌, ℕ, true, false, ◌||◌, cond, List, [], ◌∷◌, Option, Some, None, Result, Ok}
use Rattle.std.specs.Prelude.{codes, is_none}
use Rattle.std.specs.Fmt.{digits}
use Rattle.ua_values.specs.declared.kind.Kind.TheVariants.{UInt32 as UInt32Kind}
use Rattle.ua_values.specs.declared.value.Value.{Value}
use Rattle.ua_values.specs.declared.value.Value.TheVariants.{UInt32}
use Rattle.dataset_meta.specs.DataValues.{DataValue}
use Rattle.row_words.specs.declared.patch.Patch.{Patch}
use Rattle.row_words.specs.Belonging.{spelled_row, spelled_statuses}
use Rattle.row_words.specs.Patches.{spelled_patch}
use Rattle.value_texts.specs.Texts.{value_text_of}
use Rattle.ua_base.specs.declared.link.Fate.{Fate}
use Rattle.ua_base.specs.declared.link.Fate.TheVariants as fates
use Rattle.ps_config.specs.BuiltIn.{built_in_config, demo}
use Rattle.ps_config.proofs.BuiltIn.{built_in_sound}
use Rattle.ps_script.specs.declared.fault.ScriptFault.{ScriptFault}
use Rattle.ps_script.specs.declared.fault.ScriptFault.TheVariants as fault
use Rattle.ps_script.specs.declared.script.Act.TheVariants as act
use Rattle.ps_script.specs.declared.script.Line.{Line}
use Rattle.ps_script.specs.declared.script.Script.{Script}
use Rattle.ps_script.specs.Acts.{act_of, acts_from, patch_of}
use Rattle.ps_script.specs.Fields.{change_of, with_change}
use Rattle.ps_script.specs.Numbers.{number_within}
use Rattle.ps_script.specs.Past.{Done, after, nothing_done}
use Rattle.ps_script.specs.Refusals.{early_faults, fault_of, stands}
use Rattle.ps_script.specs.Scripts.{judged, judged_from, refused_or, script_by, script_with}
use Rattle.ps_script.specs.Sound.{IsScript}
use Rattle.ps_script.specs.Texts.{pieces, words_of}
use Rattle.ps_script.specs.Values.{ValueReader}
use Rattle.ps_script.specs.Verbs.{fate_of, verb_of}
use Rattle.ps_script.proofs.Readers.{each_reader, the_reader}
use Rattle.ps_script.proofs.Sound.{sound_script}
use Rattle.play_laws.specs.Small.{IsReadAs, small_patch, small_script, write_line}

-- ---- a=7, which is what a reader of values is asked for

seven-is : (reader : ValueReader) → reader.read UInt32Kind 0 (codes "7") ≡ Some (UInt32 7)
unfolding digits value_text_of
seven-is reader = each_reader reader UInt32Kind 0 (codes "7")

abbrev first-field : ValueReader → Option (ℕ × DataValue)
first-field reader = change_of reader false demo.fields (codes "a=7")

changed : (reader : ValueReader) → first-field reader ≡ Some (0, record { value = UInt32 7; status = 0 })
unfolding change_of demo
changed reader = ap (λ (v : Option Value). field-of v) (seven-is reader)
  where
    field-of : Option Value → Option (ℕ × DataValue)
    field-of None = None
    field-of (Some value) = Some (0, record { value = value; status = 0 })

-- ---- the line that writes it

abbrev write-text : List ℕ
write-text = codes "write 0 demo a=7"

abbrev no-done : Done
no-done = nothing_done built_in_config

writes-well : (reader : ValueReader) → fault_of reader built_in_config true no-done write-text ≡ None
unfolding built_in_config demo digits early_faults stands pieces words_of verb_of number_within nothing_done
writes-well reader =
    ap (λ (c : Option (ℕ × DataValue)). cond (is_none c || false) (Some fault.BadValue) None) (changed reader)

patch-is : (reader : ValueReader) → patch_of reader write-text demo ≡ small_patch
unfolding demo pieces words_of spelled_patch spelled_row spelled_statuses
patch-is reader = ap (λ (c : Option (ℕ × DataValue)). spelled_patch demo.fields (with_change [] c)) (changed reader)

abbrev wrote : Done
wrote = after built_in_config no-done write-text

-- what the lines behind it are judged by and do
judged-is : (reader : ValueReader) (lines : List (List ℕ)) → judged_from reader built_in_config true no-done 1 (write-text ∷ lines) ≡ judged_from reader built_in_config true wrote 2 lines
judged-is reader lines =
    ap (λ (f : Option ScriptFault). refused_or 1 f (judged_from reader built_in_config true wrote 2 lines)) (writes-well reader)

written-is : (reader : ValueReader) (lines : List (List ℕ)) → acts_from reader built_in_config (demo ∷ []) 1 (write-text ∷ lines) ≡ write_line ∷ acts_from reader built_in_config (demo ∷ []) 2 lines
unfolding built_in_config demo digits pieces words_of verb_of number_within act_of
written-is reader lines =
    ap (λ (p : Patch). record { at = 1; act = act.Write 0 0 p } ∷ acts_from reader built_in_config (demo ∷ []) 2 lines) (patch-is reader)

-- ---- the texts

abbrev tick-text : List ℕ
tick-text = codes "tick 100"

abbrev first-lines : List (List ℕ)
first-lines = tick-text ∷ codes "fate 0 drop" ∷ []

abbrev last-lines : List (List ℕ)
last-lines = tick-text ∷ codes "fate 1 drop" ∷ []

abbrev both-lines : List (List ℕ)
both-lines = tick-text ∷ codes "fate 0 drop" ∷ codes "fate 1 drop" ∷ []

abbrev first-text : List ℕ
first-text = codes "write 0 demo a=7\ntick 100\nfate 0 drop\n"

abbrev last-text : List ℕ
last-text = codes "write 0 demo a=7\ntick 100\nfate 1 drop\n"

abbrev both-text : List ℕ
both-text = codes "write 0 demo a=7\ntick 100\nfate 0 drop\nfate 1 drop\n"

-- the script with these lines
abbrev with-lines : List Line → Result Script (ℕ × ScriptFault)
with-lines lines = Ok (record { lines = lines; metas = demo ∷ [] })

pub first-read : IsReadAs first-text ((0, fates.Drop) ∷ [])
unfolding built_in_config demo digits early_faults stands pieces words_of verb_of fate_of number_within nothing_done after judged script_with act_of
first-read reader =
    ap (λ (j : Result Done (ℕ × ScriptFault)). script_by reader built_in_config first-text j) (judged-is reader first-lines)
    ∙ ap with-lines (written-is reader first-lines)

pub last-read : IsReadAs last-text ((1, fates.Drop) ∷ [])
unfolding built_in_config demo digits early_faults stands pieces words_of verb_of fate_of number_within nothing_done after judged script_with act_of
last-read reader =
    ap (λ (j : Result Done (ℕ × ScriptFault)). script_by reader built_in_config last-text j) (judged-is reader last-lines)
    ∙ ap with-lines (written-is reader last-lines)

pub both-read : IsReadAs both-text ((0, fates.Drop) ∷ (1, fates.Drop) ∷ [])
unfolding built_in_config demo digits early_faults stands pieces words_of verb_of fate_of number_within nothing_done after judged script_with act_of
both-read reader =
    ap (λ (j : Result Done (ℕ × ScriptFault)). script_by reader built_in_config both-text j) (judged-is reader both-lines)
    ∙ ap with-lines (written-is reader both-lines)

-- ---- what is accepted is a script

is-script : (text : List ℕ) (fates : List (ℕ × Fate)) → IsReadAs text fates → IsScript built_in_config (small_script fates)
is-script text fates reads =
    sound_script the_reader built_in_config text true (small_script fates) built_in_sound (reads the_reader)

pub first-is : IsScript built_in_config (small_script ((0, fates.Drop) ∷ []))
first-is = is-script first-text ((0, fates.Drop) ∷ []) first-read

pub last-is : IsScript built_in_config (small_script ((1, fates.Drop) ∷ []))
last-is = is-script last-text ((1, fates.Drop) ∷ []) last-read

pub both-is : IsScript built_in_config (small_script ((0, fates.Drop) ∷ (1, fates.Drop) ∷ []))
both-is = is-script both-text ((0, fates.Drop) ∷ (1, fates.Drop) ∷ []) both-read
