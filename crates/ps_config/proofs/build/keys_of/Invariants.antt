use Rattle.std.proofs.Common.{◌≡◌, ◌++◌, map, drop}
use Rattle.config_tables.specs.declared.place.Part.TheVariants.{KeyGroup}
use Rattle.ps_config.specs.Configs.{key_of}
use Rattle.ps_config.specs.Fields.{elements_of}
use Rattle.config_tables.specs.Seen.{seen}
use Rattle.ps_config.proofs.build.keys_of.Given as goal

-- the parts so far, and those of the tables that are left
abbrev pub invariant-loop-placed : goal.invariant-loop-placed
invariant-loop-placed l =
    l.parts.items ++ map (key_of) (elements_of KeyGroup l.index (map seen (drop l.placed-index l.tables))) ≡ map (key_of) (elements_of KeyGroup l.index (map seen l.tables))
