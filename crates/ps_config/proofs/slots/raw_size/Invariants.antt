use Rattle.std.proofs.Common.{◌≡◌, ◌+◌, ◌*◌, ◌≤◌, map, drop}
use Rattle.fixed_layout.specs.Spelling.{raw_size}
use Rattle.config_tables.specs.Seen.{seen}
use Rattle.ps_config.specs.Fields.{fields_of}
use Rattle.ps_config.proofs.slots.raw_size.Given as goal

-- the fields so far, and those of the tables that are left
abbrev pub invariant-loop-placed : goal.invariant-loop-placed
invariant-loop-placed l = record {
  whole : l.size + raw_size (fields_of (map seen (drop l.placed-index l.tables)) l.index) ≡ raw_size (fields_of (map seen l.tables) l.index);
  bound : l.size ≤ 70000 * l.placed-index;
}
