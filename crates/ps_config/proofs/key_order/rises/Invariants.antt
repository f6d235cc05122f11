use Rattle.std.proofs.Common.{◌≡◌, map, drop}
use Rattle.config_tables.specs.declared.place.Part.TheVariants.{KeyGroup}
use Rattle.ps_config.specs.Faults.{rises, rises_from}
use Rattle.ps_config.specs.Fields.{elements_of}
use Rattle.config_tables.specs.Values.{number_at}
use Rattle.config_tables.specs.Seen.{seen}
use Rattle.ps_config.proofs.key_order.rises.Given as goal

-- the numbers so far rise
abbrev pub invariant-loop-placed : goal.invariant-loop-placed
invariant-loop-placed l =
    rises_from l.last (map (λ k. number_at l.key l.most 0 k.members) (elements_of KeyGroup l.index (map seen (drop l.placed-index l.tables))))
    ≡ rises (map (λ k. number_at l.key l.most 0 k.members) (elements_of KeyGroup l.index (map seen l.tables)))
