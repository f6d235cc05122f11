use Rattle.std.proofs.Common.{◌≡◌, ◌++◌, map, drop}
use Rattle.config_tables.specs.declared.place.Part.TheVariants.{DataSet}
use Rattle.ps_config.specs.Configs.{data_set_of}
use Rattle.ps_config.specs.Fields.{outer_tables}
use Rattle.config_tables.specs.Seen.{seen}
use Rattle.ps_config.proofs.build.data_sets_of.Given as goal

-- the parts so far, and those of the tables that are left
abbrev pub invariant-loop-placed : goal.invariant-loop-placed
invariant-loop-placed l =
    l.parts.items ++ map (data_set_of (map seen l.tables)) (outer_tables DataSet (map seen (drop l.placed-index l.tables))) ≡ map (data_set_of (map seen l.tables)) (outer_tables DataSet (map seen l.tables))
