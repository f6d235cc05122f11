use Rattle.std.proofs.Common.{◌≡◌, ◌++◌, map, drop}
use Rattle.ps_config.specs.Fields.{fields_of}
use Rattle.config_tables.specs.Seen.{seen}
use Rattle.ps_config.proofs.build.fields_of.Given as goal

-- the fields so far, and those of the tables that are left
abbrev pub invariant-loop-placed : goal.invariant-loop-placed
invariant-loop-placed l = l.fields.items ++ fields_of (map seen (drop l.placed-index l.tables)) l.index ≡ fields_of (map seen l.tables) l.index
