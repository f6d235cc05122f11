use Rattle.std.proofs.Common.{◌≡◌, ◌++◌, map, drop}
use Rattle.config_tables.specs.declared.place.Part.TheVariants.{ReadGroup}
use Rattle.ps_config.specs.Configs.{read_group_of}
use Rattle.ps_config.specs.Fields.{outer_tables}
use Rattle.config_tables.specs.Seen.{seen}
use Rattle.ps_config.proofs.build.read_groups_of.Given as goal

-- the parts so far, and those of the tables that are left
abbrev pub invariant-loop-placed : goal.invariant-loop-placed
invariant-loop-placed l =
    l.parts.items ++ map (read_group_of (map seen l.tables)) (outer_tables ReadGroup (map seen (drop l.placed-index l.tables))) ≡ map (read_group_of (map seen l.tables)) (outer_tables ReadGroup (map seen l.tables))
