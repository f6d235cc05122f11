use Rattle.std.proofs.Common.{◌≡◌, ◌+◌, ◌*◌, ◌≤◌, map, drop, length, sum_by}
use Rattle.dataset_meta.specs.Fields.{width_of}
use Rattle.ps_config.specs.Fields.{fields_of}
use Rattle.config_tables.specs.Seen.{seen}
use Rattle.ps_config.proofs.faults.words_of.Given as goal

-- the fields so far, and those of the tables that are left
abbrev pub invariant-loop-placed : goal.invariant-loop-placed
invariant-loop-placed l = record {
  words : l.words + sum_by width_of (fields_of (map seen (drop l.placed-index l.tables)) l.index) ≡ sum_by width_of (fields_of (map seen l.tables) l.index);
  count : l.count + length (fields_of (map seen (drop l.placed-index l.tables)) l.index) ≡ length (fields_of (map seen l.tables) l.index);
  bound : l.words ≤ 70000 * l.placed-index;
  few : l.count ≤ l.placed-index;
}
