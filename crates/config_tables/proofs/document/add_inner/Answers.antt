use Rattle.std.proofs.Common.{◌++◌, ℕ, ◌+◌, map, drop, ap, sym, ◌∙◌, arith}
use Rattle.toml.specs.Data.{Members}
use Rattle.toml.specs.View.{table_view, items_view}
use Rattle.config_tables.specs.declared.place.Place.TheVariants.{Inner}
use Rattle.config_tables.specs.Tables.{located, tables_from}
use Rattle.config_tables.specs.Seen.{seen}
use Rattle.config_tables.proofs.Elements.{next_table, next_other, one_more}
use Rattle.config_tables.proofs.document.add_inner.Goals as goal
use Rattle.config_tables.proofs.document.add_inner.Goals.{in-Some+in_ok-push, in_default}

pub loop-index-preserved : goal.loop-index-preserved
loop-index-preserved c =
    let items = c.items_at-value-items.result.now in
    let index = c.loop-index.index in
    let f = λ (inner : ℕ × Members). located (Inner c.args.part c.args.outer inner.0) (table_view c.args.element.now) inner.1 in
    let more = map f (tables_from (index + 1) (items_view (drop (index + 1) items))) in
    elim c.match-as_table.branch [
      | in-Some+in_ok-push w ↦
          let next = next_table items index c.value-item.result (table_view w.in-Some.table.now) (omega arith) c.value-item.is w.in-Some.ensures in
          ap (λ v. map seen v.items ++ more) w.tables-is ∙ ap (λ xs. map seen xs ++ more) w.in_ok-push.ensures.items ∙ one_more c.loop-index.tables.items _ more
          ∙ ap (λ xs. map seen c.loop-index.tables.items ++ map f xs) (sym next) ∙ c.loop-index.invariant
      | in_default w ↦
          let next = next_other items index c.value-item.result (omega arith) c.value-item.is w.in_default.ensures in
          ap (λ v. map seen v.items ++ more) w.tables-is ∙ ap (λ xs. map seen c.loop-index.tables.items ++ map f xs) (sym next) ∙ c.loop-index.invariant
    ]
