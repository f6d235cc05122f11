use Rattle.std.proofs.Common.{◌≡◌, ◌&&◌, List, [], ◌∷◌, is_some, refl, ap, ◌∙◌}
use Rattle.std.specs.List.{list_all}
use Rattle.toml.specs.Data.{as_table}
use Rattle.toml.specs.View.{view, items_view}
use Rattle.toml.specs.declared.value.Value.{Value}
use Rattle.config_tables.specs.Values.{are_tables}
use Rattle.config_tables.proofs.values.are_tables.Goals as goal

tables_among : (items : List Value) → list_all (λ item. is_some (as_table (view item))) items ≡ are_tables (items_view items)
tables_among [] = refl
tables_among (item ∷ items) = ap (λ rest. is_some (as_table (view item)) && rest) (tables_among items)

pub returns : goal.returns
returns c = c.holds_tables.ensures ∙ tables_among c.deref.result.now ∙ ap (λ xs. are_tables (items_view xs)) c.deref.ensures.value
