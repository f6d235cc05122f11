use Rattle.std.proofs.Common.{◌≡◌, map, drop}
use Rattle.config_tables.specs.Seen.{seen}
use Rattle.ps_config.specs.Refusals.{table_faults, refusal_by}
use Rattle.ps_config.proofs.refusal.table_refusal.Given as goal

-- none of the faults so far stands
abbrev pub invariant-loop-fault : goal.invariant-loop-fault
invariant-loop-fault l = refusal_by (drop l.fault-index l.fault-items) (map seen l.tables) ≡ refusal_by table_faults (map seen l.tables)
