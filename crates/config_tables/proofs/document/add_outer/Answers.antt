use Rattle.std.proofs.Common.{◌++◌, ◌+◌, map, drop, ap, sym, ◌∙◌, arith}
use Rattle.toml.specs.View.{table_view, items_view}
use Rattle.config_tables.specs.Tables.{tables_from, tables_with, inner_tables}
use Rattle.config_tables.specs.Seen.{seen}
use Rattle.config_tables.proofs.Elements.{next_table, next_other, element_more}
use Rattle.config_tables.proofs.document.add_outer.Goals as goal
use Rattle.config_tables.proofs.document.add_outer.Goals.{in-Some+in_ok-push+in_ok-add_inner, in_default}

pub loop-index-preserved : goal.loop-index-preserved
loop-index-preserved c =
    let items = c.items_at-value-items.result.now in
    let index = c.loop-index.index in
    let part = c.args.part in
    let document = table_view c.args.document.now in
    let more = tables_with part document (tables_from (index + 1) (items_view (drop (index + 1) items))) in
    elim c.match-as_table.branch [
      | in-Some+in_ok-push+in_ok-add_inner w ↦
          let members = table_view w.in-Some.table.now in
          let next = next_table items index c.value-item.result members (omega arith) c.value-item.is w.in-Some.ensures in
          let found = w.in_ok-add_inner.ensures ∙ ap (λ xs. map seen xs ++ inner_tables part index members) w.in_ok-push.ensures.items in
          ap (λ v. map seen v.items ++ more) w.tables-is ∙ element_more c.loop-index.tables.items _ (inner_tables part index members) more _ found
          ∙ ap (λ xs. map seen c.loop-index.tables.items ++ tables_with part document xs) (sym next) ∙ c.loop-index.invariant
      | in_default w ↦
          let next = next_other items index c.value-item.result (omega arith) c.value-item.is w.in_default.ensures in
          ap (λ v. map seen v.items ++ more) w.tables-is ∙ ap (λ xs. map seen c.loop-index.tables.items ++ tables_with part document xs) (sym next) ∙ c.loop-index.invariant
    ]
