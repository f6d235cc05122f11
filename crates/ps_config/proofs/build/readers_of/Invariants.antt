use Rattle.std.proofs.Common.{◌≡◌, ◌++◌, map, drop}
use Rattle.config_tables.specs.declared.place.Part.TheVariants.{ReadGroup}
use Rattle.ps_config.specs.Configs.{reader_of}
use Rattle.ps_config.specs.Fields.{elements_of}
use Rattle.config_tables.specs.Seen.{seen}
use Rattle.ps_config.proofs.build.readers_of.Given as goal

-- the parts so far, and those of the tables that are left
abbrev pub invariant-loop-placed : goal.invariant-loop-placed
invariant-loop-placed l =
    l.parts.items ++ map (reader_of (map seen l.tables)) (elements_of ReadGroup l.index (map seen (drop l.placed-index l.tables))) ≡ map (reader_of (map seen l.tables)) (elements_of ReadGroup l.index (map seen l.tables))
