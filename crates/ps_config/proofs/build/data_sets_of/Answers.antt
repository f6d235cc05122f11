use Rattle.std.proofs.Common.{◌+◌, map, take, drop, sym, ◌∙◌, arith}
use Rattle.config_tables.specs.Places.{index_of}
use Rattle.config_tables.specs.Seen.{seen}
use Rattle.ps_config.proofs.Sums.{seen_split, outer_is}
use Rattle.ps_config.proofs.build.data_sets_of.Goals as goal

pub data_set_of-requires : goal.data_set_of-requires
data_set_of-requires c =
    let ts = c.args.tables.now in
    let i = c.loop-placed.placed-index in
    let t = c.placed-item.result in
    c.requires (map seen (take i ts)) (seen t) (map seen (drop (i + 1) ts)) (seen_split ts i t (omega arith) c.placed-item.is) (index_of t.place)
    (outer_is t.place (sym c.is_outer.ensures ∙ c.if-is_outer.true))
