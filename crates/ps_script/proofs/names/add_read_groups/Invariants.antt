use Rattle.std.proofs.Common.{◌≡◌, ◌++◌, flat_map, drop}
use Rattle.ps_config.specs.Sound.{read_group_names}
use Rattle.ps_script.proofs.names.add_read_groups.Given as goal

-- the names so far, and those of the groups that are left
abbrev pub invariant-loop-group : goal.invariant-loop-group
invariant-loop-group l = l.names.items ++ flat_map read_group_names (drop l.group-index l.groups) ≡ l.fn.names.items ++ flat_map read_group_names l.groups
