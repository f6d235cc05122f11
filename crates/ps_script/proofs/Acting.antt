-- What a line means, by its verb.
use Rattle.std.proofs.Common.{◌≡◌, ℕ, Bool, List, Option, Some, None, slice_get, option_and_then, false, sym, ap, ◌∙◌}
use Rattle.std.specs.Option.{option_map_or}
use Rattle.dataset_meta.specs.Metas.{MetaData}
use Rattle.row_words.specs.declared.patch.Patch.{Patch}
use Rattle.ps_config.specs.declared.parts.Config.{Config}
use Rattle.ps_script.specs.declared.script.Act.{Act}
use Rattle.ps_script.specs.declared.script.Act.TheVariants as act
use Rattle.ps_script.specs.declared.verbs.Verb.TheVariants as verb
use Rattle.ps_script.specs.Texts.{word}
use Rattle.ps_script.specs.Verbs.{verb_of}
use Rattle.ps_script.specs.Numbers.{number_at}
use Rattle.ps_script.specs.Names.{set_named}
use Rattle.ps_script.specs.Values.{ValueReader}
use Rattle.ps_script.specs.Faults.{meta_named, has_bad_value_in}
use Rattle.ps_script.specs.Acts.{patch_of, write_at, act_by, act_of}

write_some : (reader : ValueReader) (metas : List MetaData) (line : List ℕ) (set : ℕ) (meta : MetaData) → slice_get metas set ≡ Some meta → write_at reader metas line set ≡ Some (act.Write (number_at 0 7 (word 1 line)) set (patch_of reader line meta))
write_some reader metas line set meta found = ap (λ (o : Option MetaData). option_map_or (λ m. Some (act.Write (number_at 0 7 (word 1 line)) set (patch_of reader line m))) o None) found

pub wrote : (reader : ValueReader) (metas : List MetaData) (line : List ℕ) (set : ℕ) (meta : MetaData) (thread : ℕ) (patch : Patch) → set_named metas (word 2 line) ≡ Some set → slice_get metas set ≡ Some meta → thread ≡ number_at 0 7 (word 1 line) → patch ≡ patch_of reader line meta → Some (act.Write thread set patch) ≡ option_and_then (write_at reader metas line) (set_named metas (word 2 line))
wrote reader metas line set meta thread patch named found is_thread is_patch =
    ap (λ (t : ℕ). Some (act.Write t set patch)) is_thread ∙ ap (λ (p : Patch). Some (act.Write (number_at 0 7 (word 1 line)) set p)) is_patch
    ∙ sym (write_some reader metas line set meta found) ∙ sym (ap (option_and_then (write_at reader metas line)) named)

pub act_write : (reader : ValueReader) (config : Config) (metas : List MetaData) (line : List ℕ) (found : Option Act) → verb_of line ≡ Some verb.Write → found ≡ option_and_then (write_at reader metas line) (set_named metas (word 2 line)) → found ≡ act_of reader config metas line
unfolding act_of
act_write reader config metas line found is same = same ∙ sym (ap (act_by reader config metas line) is)

pub bad_value_in : (reader : ValueReader) (metas : List MetaData) (line : List ℕ) (meta : MetaData) (bad : Bool) → meta_named metas (word 2 line) ≡ Some meta → bad ≡ has_bad_value_in reader line meta → bad ≡ option_map_or (has_bad_value_in reader line) (meta_named metas (word 2 line)) false
bad_value_in reader metas line meta bad named same =
    same ∙ sym (ap (λ (o : Option MetaData). option_map_or (has_bad_value_in reader line) o false) named)
