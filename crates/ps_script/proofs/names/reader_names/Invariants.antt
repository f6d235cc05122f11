use Rattle.std.proofs.Common.{◌≡◌, ◌++◌, map, flat_map, drop}
use Rattle.ps_script.proofs.names.reader_names.Given as goal

-- the names so far, and those of the groups that are left
abbrev pub invariant-loop-group : goal.invariant-loop-group
invariant-loop-group l =
    l.names.items ++ flat_map (λ group. map (λ reader. reader.name) group.reader) (drop l.group-index l.group-items)
    ≡ flat_map (λ group. map (λ reader. reader.name) group.reader) l.group-items
