use Rattle.std.proofs.Common.{◌≡◌, ◌++◌, map, drop}
use Rattle.config_tables.specs.declared.place.Part.TheVariants.{Group}
use Rattle.ps_config.specs.Configs.{group_of}
use Rattle.ps_config.specs.Fields.{outer_tables}
use Rattle.config_tables.specs.Seen.{seen}
use Rattle.ps_config.proofs.build.groups_of.Given as goal

-- the parts so far, and those of the tables that are left
abbrev pub invariant-loop-placed : goal.invariant-loop-placed
invariant-loop-placed l =
    l.parts.items ++ map (group_of (map seen l.tables)) (outer_tables Group (map seen (drop l.placed-index l.tables))) ≡ map (group_of (map seen l.tables)) (outer_tables Group (map seen l.tables))
