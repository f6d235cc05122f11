use Rattle.std.proofs.Common.{◌≡◌, map, take, drop}
use Rattle.ps_config.specs.Refusals.{stands, first_from, first_at}
use Rattle.config_tables.specs.Seen.{seen}
use Rattle.ps_config.proofs.refusal.first_at.Given as goal

-- it stands at none of the tables so far
abbrev pub invariant-loop-index : goal.invariant-loop-index
invariant-loop-index l =
    first_from (stands l.fault (map seen l.tables)) (map seen (take l.index l.tables)) (map seen (drop l.index l.tables)) ≡ first_at l.fault (map seen l.tables)
