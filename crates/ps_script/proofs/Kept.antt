-- No line adds a data set or takes one away.
use Rattle.std.proofs.Common.{◌≡◌, ℕ, List, length, Option, Some, None, refl}
use Rattle.std.specs.Prelude.{slice_get}
use Rattle.std.proofs.Math.ListN.{length-set}
use Rattle.dataset_meta.specs.declared.field.Field.{Field}
use Rattle.dataset_meta.specs.Metas.{MetaData, grown}
use Rattle.ps_config.specs.declared.parts.Config.{Config}
use Rattle.ps_script.specs.declared.verbs.Verb.{Verb}
use Rattle.ps_script.specs.declared.verbs.Verb.TheVariants as verb
use Rattle.ps_script.specs.Texts.{word}
use Rattle.ps_script.specs.Verbs.{verb_of}
use Rattle.ps_script.specs.Names.{set_named}
use Rattle.ps_script.specs.Past.{Done, field_of, grown_at, grown_by, metas_after, done_with, after}

grown_at_kept : (metas : List MetaData) (set : ℕ) (field : Field) (meta : Option MetaData) → length (grown_at metas set field meta) ≡ length metas
grown_at_kept metas set field None = refl
grown_at_kept metas set field (Some meta) = length-set metas set (grown meta field)

grown_by_kept : (metas : List MetaData) (field : Field) (set : Option ℕ) → length (grown_by metas field set) ≡ length metas
grown_by_kept metas field None = refl
grown_by_kept metas field (Some set) = grown_at_kept metas set field (slice_get metas set)

metas_kept : (metas : List MetaData) (line : List ℕ) → length (metas_after metas line) ≡ length metas
unfolding metas_after
metas_kept metas line = grown_by_kept metas (field_of line) (set_named metas (word 1 line))

done_kept : (config : Config) (done : Done) (line : List ℕ) (v : Option Verb) → length (done_with config done line v).metas ≡ length done.metas
done_kept config done line None = refl
done_kept config done line (Some verb.Write) = refl
done_kept config done line (Some verb.Tick) = refl
done_kept config done line (Some verb.Enable) = refl
done_kept config done line (Some verb.Disable) = refl
done_kept config done line (Some verb.Append) = metas_kept done.metas line
done_kept config done line (Some verb.Fate) = refl
done_kept config done line (Some verb.Watch) = refl

pub after_kept : (config : Config) (done : Done) (line : List ℕ) → length (after config done line).metas ≡ length done.metas
unfolding after
after_kept config done line = done_kept config done line (verb_of line)
