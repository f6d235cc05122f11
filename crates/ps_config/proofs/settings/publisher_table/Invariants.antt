use Rattle.std.proofs.Common.{◌≡◌, map, drop}
use Rattle.ps_config.specs.Fields.{publisher_members}
use Rattle.config_tables.specs.Seen.{seen}
use Rattle.ps_config.proofs.settings.publisher_table.Given as goal

abbrev pub invariant-loop-placed : goal.invariant-loop-placed
invariant-loop-placed l = publisher_members (map seen (drop l.placed-index l.tables)) ≡ publisher_members (map seen l.tables)
