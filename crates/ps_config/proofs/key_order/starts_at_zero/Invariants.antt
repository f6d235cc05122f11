use Rattle.std.proofs.Common.{◌≡◌, ◌^◌, map, drop}
use Rattle.config_tables.specs.declared.key.Key.TheVariants as key
use Rattle.config_tables.specs.declared.place.Part.TheVariants.{KeyGroup}
use Rattle.ps_config.specs.Faults.{starts_at_zero}
use Rattle.ps_config.specs.Fields.{elements_of}
use Rattle.config_tables.specs.Values.{number_at}
use Rattle.config_tables.specs.Seen.{seen}
use Rattle.ps_config.proofs.key_order.starts_at_zero.Given as goal

-- no key so far
abbrev pub invariant-loop-placed : goal.invariant-loop-placed
invariant-loop-placed l =
    starts_at_zero (map (λ k. number_at key.From (2 ^ 40) 0 k.members) (elements_of KeyGroup l.index (map seen (drop l.placed-index l.tables))))
    ≡ starts_at_zero (map (λ k. number_at key.From (2 ^ 40) 0 k.members) (elements_of KeyGroup l.index (map seen l.tables)))
