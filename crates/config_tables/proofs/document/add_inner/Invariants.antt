use Rattle.std.proofs.Common.{◌≡◌, ◌++◌, map, drop}
use Rattle.toml.specs.View.{table_view, items_view}
use Rattle.config_tables.specs.declared.place.Place.TheVariants.{Inner}
use Rattle.config_tables.specs.Tables.{inner_tables, located, tables_from}
use Rattle.config_tables.specs.Seen.{seen}
use Rattle.config_tables.proofs.document.add_inner.Given as goal

-- the tables so far and those of the items that are left
abbrev pub invariant-loop-index : goal.invariant-loop-index
invariant-loop-index l =
    map seen l.tables.items ++ map (λ inner. located (Inner l.part l.outer inner.0) (table_view l.element) inner.1) (tables_from l.index (items_view (drop l.index l.value-items)))
    ≡ map seen l.fn.tables.items ++ inner_tables l.part l.outer (table_view l.element)
