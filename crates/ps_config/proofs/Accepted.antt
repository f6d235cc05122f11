-- Accepted tables give a sound configuration.
use Rattle.std.proofs.Common.{◌≡◌, ℕ, List, [], ◌∷◌, Option, Some, None, Result, Ok, Err, IfOk, option_map, refl, sym, ◌∙◌, subst}
use Rattle.std.specs.Option.{option_or}
use Rattle.toml.specs.Data.{Members}
use Rattle.config_tables.specs.declared.fault.Fault.{Fault}
use Rattle.config_tables.specs.declared.fault.Fault.TheVariants.{FrameLarge}
use Rattle.config_tables.specs.declared.key.Key.TheVariants.{Id}
use Rattle.config_tables.specs.declared.place.Place.{Place}
use Rattle.config_tables.specs.Tables.{tables}
use Rattle.ps_config.specs.declared.parts.Config.{Config}
use Rattle.ps_config.specs.declared.read.ConfigEnd.{ConfigEnd}
use Rattle.ps_config.specs.Configs.{config_of, publisher_part}
use Rattle.ps_config.specs.Fields.{publisher_members}
use Rattle.ps_config.specs.FixedSound.{IsFixedSound}
use Rattle.ps_config.specs.Meaning.{PassTables}
use Rattle.ps_config.specs.Reading.{document_of, judged_by, judgement_of, configuration}
use Rattle.ps_config.specs.Refusals.{stands, table_faults, first_at, refusal_by, refusal}
use Rattle.ps_config.specs.Sound.{IsSound}
use Rattle.ps_config.proofs.Distinct.{few_parts, group_ids_distinct, writer_ids_distinct}
use Rattle.ps_config.proofs.FixedSound.{fixed_sound}
use Rattle.ps_config.proofs.Naming.{component_names_distinct, data_set_names_distinct, key_group_names_distinct}
use Rattle.ps_config.proofs.Publishers.{short_at}
use Rattle.ps_config.proofs.Scans.{scan_none, none_stands}
use Rattle.ps_config.proofs.Sound.{metas_are, key_groups_are, groups_are, read_groups_are}
use Rattle.ps_config.proofs.Tables.{at_place, refusal_by-append, told_last}

sound_of : (document : Members) → PassTables (tables document) → first_at FrameLarge (tables document) ≡ None → IsSound (config_of (tables document))
unfolding config_of publisher_part
sound_of document h none =
    let ts = tables document in
    record {
      publisher = short_at Id (publisher_members ts);
      few = few_parts document h;
      metas = metas_are ts h;
      keygroups = key_groups_are document h;
      groups = groups_are document h (scan_none (stands FrameLarge ts) [] ts none);
      readgroups = read_groups_are ts h;
      one_group = group_ids_distinct ts h;
      one_writer = writer_ids_distinct document h;
      one_component = component_names_distinct document h;
      one_data_set = data_set_names_distinct ts h;
      one_key_group = key_group_names_distinct ts h;
    }

-- ---- a document whose tables nothing refuses

first_none : {X : Type 0} (a b : Option X) → option_or a b ≡ None → a ≡ None
first_none None b h = refl
first_none (Some x) b h = h

placed_none : (o : Option Place) → option_map at_place o ≡ None → o ≡ None
placed_none None h = refl
placed_none (Some place) h = cc

-- what holds of each accepted configuration
record IsHeld (config : Config) : Type 0 where
  sound : IsSound config
  fixed : IsFixedSound config

of_tables : (document : Members) → refusal (tables document) ≡ None → IsHeld (config_of (tables document))
of_tables document none =
    let ts = tables document in
    let of_faults : refusal_by table_faults ts ≡ None = first_none (refusal_by table_faults ts) (refusal_by (FrameLarge ∷ []) ts) (sym (refusal_by-append table_faults (FrameLarge ∷ []) ts) ∙ none) in
    let passes : PassTables ts = none_stands table_faults ts of_faults in
    record {
      sound = sound_of document passes (placed_none (first_at FrameLarge ts) (sym (told_last ts of_faults) ∙ none));
      fixed = fixed_sound document passes;
    }

of_refusal : (document : Members) (found : Option (Fault × Place)) (config : Config) → refusal (tables document) ≡ found → judged_by found (tables document) ≡ Ok config → IsHeld config
of_refusal document (Some r) config is e = cc
of_refusal document None config is e = let same : config_of (tables document) ≡ config = cc in subst IsHeld same (of_tables document is)

of_document : (o : Option Members) (config : Config) → judgement_of o ≡ Ok config → IsHeld config
of_document None config e = cc
of_document (Some document) config e = of_refusal document (refusal (tables document)) config refl e

pub sound_configuration : (bytes : List ℕ) (config : Config) → configuration bytes ≡ Ok config → IsSound config
unfolding configuration
sound_configuration bytes config e = (of_document (document_of bytes) config e).sound

pub fixed_configuration : (bytes : List ℕ) (config : Config) → configuration bytes ≡ Ok config → IsFixedSound config
unfolding configuration
fixed_configuration bytes config e = (of_document (document_of bytes) config e).fixed

pub sound_result : (bytes : List ℕ) (r : Result Config ConfigEnd) → IfOk r (λ config. configuration bytes ≡ Ok config) → IfOk r IsSound
sound_result bytes (Ok config) h = sound_configuration bytes config h
sound_result bytes (Err end) h = tt

pub fixed_result : (bytes : List ℕ) (r : Result Config ConfigEnd) → IfOk r (λ config. configuration bytes ≡ Ok config) → IfOk r IsFixedSound
fixed_result bytes (Ok config) h = fixed_configuration bytes config h
fixed_result bytes (Err end) h = tt
