use Rattle.std.proofs.Common.{◌≡◌, ◌++◌, map, drop}
use Rattle.toml.specs.View.{table_view, items_view}
use Rattle.config_tables.specs.Tables.{tables_with, tables_of, tables_from}
use Rattle.config_tables.specs.Seen.{seen}
use Rattle.config_tables.proofs.document.add_outer.Given as goal

-- the tables so far and those of the elements that are left
abbrev pub invariant-loop-index : goal.invariant-loop-index
invariant-loop-index l =
    map seen l.tables.items ++ tables_with l.part (table_view l.document) (tables_from l.index (items_view (drop l.index l.value-items)))
    ≡ map seen l.fn.tables.items ++ tables_of l.part (table_view l.document)
