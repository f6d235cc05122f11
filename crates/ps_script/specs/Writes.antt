-- Lines that are judged and read at once.
use Rattle.std.specs.Prelude.{◌≡◌, ℕ, ◌<◌, Bool, true, false, ◌&&◌, not, List, [], ◌++◌, length, Option, Some, None, is_none, ⊤}
use Rattle.std.specs.List.{list_any, list_all}
use Rattle.dataset_meta.specs.declared.field.Field.{Field}
use Rattle.dataset_meta.specs.Metas.{IsMeta, MetaData}
use Rattle.row_words.specs.declared.patch.Patch.{Patch}
use Rattle.row_words.specs.Patches.{IsPatchOf, patch_in, spelled_patch}
use Rattle.ps_config.specs.declared.parts.Config.{Config}
use Rattle.ps_script.specs.declared.fault.ScriptFault.{ScriptFault}
use Rattle.ps_script.specs.declared.script.Act.TheVariants as act
use Rattle.ps_script.specs.declared.script.Line.{Line}
use Rattle.ps_script.specs.declared.verbs.Verb.TheVariants as verb
use Rattle.ps_script.specs.Texts.{words_of, word}
use Rattle.ps_script.specs.Verbs.{is_idle, verb_of}
use Rattle.ps_script.specs.Numbers.{number_within}
use Rattle.ps_script.specs.Names.{set_named}
use Rattle.ps_script.specs.Values.{ValueReader}
use Rattle.ps_script.specs.Fields.{is_field_word, has_bad_field, change_of, patch_with}
use Rattle.ps_script.specs.Past.{Done}
use Rattle.ps_script.specs.Faults.{is_bad_text, is_long, field_words}
use Rattle.ps_script.specs.Refusals.{fault_of}
use Rattle.ps_script.specs.Acts.{with_act, act_of}

-- a line without a fault that does nothing
abbrev pub is_idle_line : List ℕ → Bool
is_idle_line line = is_idle (word 0 line) && (not (is_long line) && not (is_bad_text line))

-- a line `write` of this thread and this data set; its field words are those of these bytes
pub record BeginsWrite (metas : List MetaData) (line : List ℕ) (thread set : ℕ) (rest : List ℕ) : Type 0 where
  pub is_write : verb_of line ≡ Some verb.Write
  pub of_thread : number_within 0 7 (word 1 line) ≡ Some thread
  pub of_set : set_named metas (word 2 line) ≡ Some set
  pub there : set < length metas
  pub fields : words_of rest ≡ field_words line

-- there are field words, each gives a field of its own a value and a status, and the patch is what they give
pub record GivesPatch (reader : ValueReader) (meta : MetaData) (words : List (List ℕ)) (patch : Patch) : Type 0 where
  pub some : 0 < length words
  pub shaped : list_all is_field_word words ≡ true
  pub distinct : has_bad_field meta.fields [] words ≡ false
  pub valued : list_any (λ word. is_none (change_of reader meta.quality meta.fields word)) words ≡ false
  pub gives : patch ≡ spelled_patch meta.fields (patch_with reader meta.quality meta.fields [] words)

-- no change, whatever the meta
pub record IsEmptyPatch (patch : Patch) : Type 0 where
  pub of : (meta : MetaData) → IsMeta meta.fields → IsPatchOf meta patch
  pub empty : (fields : List Field) → patch_in fields patch ≡ []

-- a line `write` that has no fault: this thread writes this patch to this data set
pub record IsSoundWrite (reader : ValueReader) (config : Config) (takes_fates : Bool) (done : Done) (line : List ℕ) (thread set : ℕ) (patch : Patch) : Type 0 where
  pub is_write : verb_of line ≡ Some verb.Write
  pub faultless : fault_of reader config takes_fates done line ≡ None
  pub acts : act_of reader config done.metas line ≡ Some (act.Write thread set patch)

-- a line without a fault is read after those before it, by these data sets
abbrev pub Reads : ValueReader → Config → List MetaData → ℕ → List ℕ → List Line → List Line → Option ScriptFault → Type 0
Reads reader config metas number line old new (Some fault) = ⊤
Reads reader config metas number line old new None = new ≡ old ++ with_act number (act_of reader config metas line) []
