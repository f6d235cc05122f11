use Rattle.std.proofs.Common.{◌≡◌, ◌&&◌, map, drop, find}
use Rattle.std.specs.Str.{bytes_eq}
use Rattle.config_tables.specs.declared.place.Part.TheVariants.{DataSet}
use Rattle.ps_config.specs.Fields.{name_of}
use Rattle.config_tables.specs.Places.{is_outer}
use Rattle.config_tables.specs.Seen.{seen}
use Rattle.ps_config.proofs.slots.set_named.Given as goal

-- none of the tables so far
abbrev pub invariant-loop-other : goal.invariant-loop-other
invariant-loop-other l =
    find (λ s. is_outer DataSet s.place && bytes_eq l.name (name_of s)) (map seen (drop l.other-index l.tables))
    ≡ find (λ s. is_outer DataSet s.place && bytes_eq l.name (name_of s)) (map seen l.tables)
