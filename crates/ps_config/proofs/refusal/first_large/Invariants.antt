use Rattle.std.proofs.Common.{◌≡◌, map, take, drop}
use Rattle.config_tables.specs.declared.fault.Fault.TheVariants.{FrameLarge}
use Rattle.config_tables.specs.declared.place.Part.TheVariants.{Group}
use Rattle.config_tables.specs.Seen.{seen}
use Rattle.ps_config.specs.Configs.{group_of}
use Rattle.ps_config.specs.Fields.{outer_tables}
use Rattle.ps_config.specs.Refusals.{stands, first_from, first_at}
use Rattle.ps_config.proofs.refusal.first_large.Given as goal

-- it stands at none of the tables so far, and the groups that are left are those of the tables that are left
abbrev pub invariant-loop-placed : goal.invariant-loop-placed
invariant-loop-placed l = record {
  none : first_from (stands FrameLarge (map seen l.tables)) (map seen (take l.placed-index l.tables)) (map seen (drop l.placed-index l.tables)) ≡ first_at FrameLarge (map seen l.tables);
  left : drop l.index l.groups ≡ map (group_of (map seen l.tables)) (outer_tables Group (map seen (drop l.placed-index l.tables)));
}
