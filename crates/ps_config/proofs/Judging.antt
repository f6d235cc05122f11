-- From what reading a document and judging its tables gave to what the bytes are.
use Rattle.std.proofs.Common.{◌≡◌, ℕ, Bool, true, false, cond, List, Some, None, Ok, Err, option_map, refl, sym, ap, ◌∙◌}
use Rattle.std.specs.Str.{IsUtf8, is_utf8}
use Rattle.std.proofs.lemmas.Str.{IsUtf8-from_is_utf8, is_utf8-from_IsUtf8}
use Rattle.toml.specs.Data.{Members}
use Rattle.toml.specs.Parse.{parse_document}
use Rattle.config_tables.specs.declared.fault.Fault.{Fault}
use Rattle.config_tables.specs.declared.fault.Fault.TheVariants.{BadToml, FrameLarge}
use Rattle.ps_config.specs.declared.parts.Config.{Config}
use Rattle.config_tables.specs.declared.place.Place.{Place}
use Rattle.config_tables.specs.declared.place.Place.TheVariants.{Root}
use Rattle.ps_config.specs.Configs.{config_of}
use Rattle.config_tables.specs.FaultNumbers.{number_of}
use Rattle.config_tables.specs.Paths.{path_text}
use Rattle.ps_config.specs.Reading.{judged_by, judgement_of, configuration}
use Rattle.ps_config.specs.Meaning.{PassTables}
use Rattle.ps_config.specs.Refusals.{table_faults, first_at, refusal_by, refusal}
use Rattle.ps_config.proofs.Scans.{none_stands}
use Rattle.ps_config.proofs.Tables.{told_by_tables, told_last, at_place}
use Rattle.config_tables.specs.Tables.{Located, tables}

-- a refusal of the tables that were listed is one of the document
pub refused_of : (document : Members) (ts : List Located) (fault : Fault) (place : Place) → ts ≡ tables document → Some (fault, place) ≡ refusal ts
    → judgement_of (Some document) ≡ Err (number_of fault, path_text place)
refused_of document ts fault place e r = ap (λ found. judged_by found (tables document)) (sym (r ∙ ap refusal e))

pub accepted_of : (document : Members) (ts : List Located) (config : Config) → ts ≡ tables document → None ≡ refusal ts → config ≡ config_of ts
    → judgement_of (Some document) ≡ Ok config
accepted_of document ts config e r c = ap (λ found. judged_by found (tables document)) (sym (r ∙ ap refusal e)) ∙ ap Ok (sym (c ∙ ap config_of e))

not_parsed : (bytes : List ℕ) (b : Bool) → is_utf8 bytes ≡ b → (IsUtf8 bytes → parse_document bytes ≡ None) → cond b (parse_document bytes) None ≡ None
not_parsed bytes true e none = none (IsUtf8-from_is_utf8 bytes e)
not_parsed bytes false e none = refl

pub no_document : (bytes : List ℕ) → (IsUtf8 bytes → parse_document bytes ≡ None) → configuration bytes ≡ Err (number_of BadToml, path_text Root)
unfolding configuration
no_document bytes none = ap judgement_of (not_parsed bytes (is_utf8 bytes) refl none)

pub a_document : (bytes : List ℕ) (document : Members) → IsUtf8 bytes → parse_document bytes ≡ Some document → configuration bytes ≡ judgement_of (Some document)
unfolding configuration
a_document bytes document utf8 e = rw (is_utf8-from_IsUtf8 bytes utf8, e)

-- what the tables refuse, the document refuses
pub refused_by_tables : (document : Members) (ts : List Located) (fault : Fault) (place : Place) → ts ≡ tables document → Some (fault, place) ≡ refusal_by table_faults ts
    → judgement_of (Some document) ≡ Err (number_of fault, path_text place)
refused_by_tables document ts fault place e r = refused_of document ts fault place e (sym (told_by_tables ts (fault, place) (sym r)))

-- and so it does what lacks room
pub refused_as_large : (document : Members) (ts : List Located) (place : Place) → ts ≡ tables document → None ≡ refusal_by table_faults ts → Some place ≡ first_at FrameLarge ts
    → judgement_of (Some document) ≡ Err (number_of FrameLarge, path_text place)
refused_as_large document ts place e none found = refused_of document ts FrameLarge place e (sym (told_last ts (sym none) ∙ ap (option_map at_place) (sym found)))

pub accepted_config : (document : Members) (ts : List Located) (config : Config) → ts ≡ tables document → None ≡ refusal_by table_faults ts → None ≡ first_at FrameLarge ts → config ≡ config_of ts
    → judgement_of (Some document) ≡ Ok config
accepted_config document ts config e none room is = accepted_of document ts config e (sym (told_last ts (sym none) ∙ ap (option_map at_place) (sym room))) is

pub passing_tables : (ts : List Located) → None ≡ refusal_by table_faults ts → PassTables ts
passing_tables ts none = none_stands table_faults ts (sym none)
