use Rattle.std.proofs.Common.{◌+◌, ◌∷◌, [], List, length, length-append, take, refl, sym, subst, ap, ◌∙◌, arith}
use Rattle.std.specs.List.{AllZip}
use Rattle.writer_group.specs.declared.sampled.Sampled.{Sampled}
use Rattle.writer_group.specs.Standing.{AreRowsOf}
use Rattle.writer_group.proofs.SetupLaws.{zip-more}
use Rattle.device.specs.Sides.{IsOpeningRow}
use Rattle.device.proofs.RowLists.{IsRowAt, of-meta, rows-more}
use Rattle.device.proofs.making.rows_of.Goals as goal

pub loop-meta-preserved : goal.loop-meta-preserved
loop-meta-preserved c =
    let metas = c.args.metas.now in
    let rows = c.loop-meta.rows.items in
    let x : Sampled = record { row = c.opening_of-row.result; version = 0 } in
    let is = of-meta metas c.loop-meta.meta-index c.meta-item.result x (omega (arith, c.loop-meta-test.true)) c.meta-item.is c.opening_of-row.ensures.belongs in
    record {
      rows = subst (λ (l : List Sampled). AreRowsOf metas l) (sym c.in_ok-push.ensures.items)
          (rows-more metas 0 rows x c.loop-meta.invariant.rows (subst (IsRowAt metas x) (omega (arith, c.loop-meta.invariant.count)) is));
      opening = subst (AllZip IsOpeningRow (take (c.loop-meta.meta-index + 1) metas)) (sym c.in_ok-push.ensures.items)
          (zip-more IsOpeningRow metas rows c.loop-meta.meta-index c.meta-item.result x (omega arith) c.meta-item.is c.loop-meta.invariant.opening (record { row = c.opening_of-row.ensures.row; version_is = refl }));
      count = ap length c.in_ok-push.ensures.items ∙ length-append rows (x ∷ []) ∙ ap (λ n. n + 1) c.loop-meta.invariant.count;
    }
