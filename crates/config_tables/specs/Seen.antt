-- A table of the code, as the definitions see it.
use Rattle.toml.specs.View.{table_view}
use Rattle.config_tables.specs.declared.document.Placed.{Placed}
use Rattle.config_tables.specs.Tables.{Located}

abbrev pub seen : Placed → Located
seen placed = record { place = placed.place; outer = table_view placed.outer.now; members = table_view placed.table.now }
