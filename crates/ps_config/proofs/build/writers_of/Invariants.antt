use Rattle.std.proofs.Common.{◌≡◌, ◌++◌, map, drop}
use Rattle.config_tables.specs.declared.place.Part.TheVariants.{Group}
use Rattle.ps_config.specs.Configs.{writer_of}
use Rattle.ps_config.specs.Fields.{elements_of}
use Rattle.config_tables.specs.Seen.{seen}
use Rattle.ps_config.proofs.build.writers_of.Given as goal

-- the parts so far, and those of the tables that are left
abbrev pub invariant-loop-placed : goal.invariant-loop-placed
invariant-loop-placed l =
    l.parts.items ++ map (writer_of (map seen l.tables)) (elements_of Group l.index (map seen (drop l.placed-index l.tables))) ≡ map (writer_of (map seen l.tables)) (elements_of Group l.index (map seen l.tables))
