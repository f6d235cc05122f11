-- Accepted configuration: the configuration that a document is, or the number and the path of what refuses it.
use Rattle.std.specs.Prelude.{◌≡◌, ℕ, List, Option, Some, None, Result, Ok, Err, ⊤, if◌then◌else◌}
use Rattle.std.specs.Str.{is_utf8}
use Rattle.toml.specs.Data.{Members}
use Rattle.toml.specs.Parse.{parse_document}
use Rattle.config_tables.specs.declared.fault.Fault.{Fault}
use Rattle.config_tables.specs.declared.fault.Fault.TheVariants.{BadToml}
use Rattle.ps_config.specs.declared.parts.Config.{Config}
use Rattle.config_tables.specs.declared.place.Place.{Place}
use Rattle.config_tables.specs.declared.place.Place.TheVariants.{Root}
use Rattle.ps_config.specs.declared.read.ConfigEnd.{ConfigEnd}
use Rattle.ps_config.specs.declared.read.ConfigEnd.TheVariants.{Refused, Memory}
use Rattle.ps_config.specs.Configs.{config_of}
use Rattle.config_tables.specs.FaultNumbers.{number_of}
use Rattle.config_tables.specs.Paths.{path_text}
use Rattle.ps_config.specs.Refusals.{refusal}
use Rattle.config_tables.specs.Tables.{tables, Located}

abbrev pub Judgement : Type 0
Judgement = Result Config (ℕ × List ℕ)

abbrev pub refused_at : Fault × Place → Judgement
refused_at r = Err (number_of r.0, path_text r.1)

-- the table that the bytes are, by TOML's own grammar
abbrev pub document_of : List ℕ → Option Members
document_of bytes = if is_utf8 bytes then parse_document bytes else None

abbrev pub judged_by : Option (Fault × Place) → List Located → Judgement
judged_by (Some r) ts = refused_at r
judged_by None ts = Ok (config_of ts)

abbrev pub judgement_of : Option Members → Judgement
judgement_of None = refused_at (BadToml, Root)
judgement_of (Some document) = judged_by (refusal (tables document)) (tables document)

-- accepted, or refused
unfoldable pub configuration : List ℕ → Judgement
configuration bytes = judgement_of (document_of bytes)

-- what an end other than a configuration says
abbrev pub IsEnd : Judgement → ConfigEnd → Type 0
IsEnd judgement Memory = ⊤
IsEnd judgement (Refused code path) = judgement ≡ Err (code, path)
