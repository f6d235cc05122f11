use Rattle.std.proofs.Common.{◌<◌, [], length, get_or, refl, subst, sym, arith}
use Rattle.std.proofs.lemmas.Bool.{OnFalse_at, OnFalse_from}
use Rattle.dataset_meta.specs.Metas.{MetaData}
use Rattle.row_words.specs.Belonging.{Belongs}
use Rattle.writer_group.specs.declared.sampled.Sampled.{Sampled}
use Rattle.device.specs.Sides.{IsStatusMisfit, MayHaveStatus}
use Rattle.device.proofs.Places.{holds-at}
use Rattle.device.proofs.RowLists.{row-of, set-row, of-meta}
use Rattle.device.proofs.rows.set_status_in.Goals as goal

pub set_status_row-requires : goal.set_status_row-requires
set_status_row-requires c =
    let i = c.from-index.result in
    let meta = c.index-metas-index.result in
    let none : Sampled = record { row = record { words = [] }; version = 0 } in
    subst (λ (m : MetaData). Belongs m (get_or c.args.rows.now i none).row.words) (sym c.index-metas-index.is)
    (row-of c.args.metas.now c.args.rows.now i none c.requires.rows (omega (arith, c.requires.count, c.if-index-metas.false)) meta)

pub returns-clause-rows : goal.returns-clause-rows
returns-clause-rows c =
    let i = c.from-index.result in
    let meta = c.index-metas-index.result in
    set-row c.args.metas.now c.args.rows.now i c.set_status_row.new.sampled c.requires.rows
    (of-meta c.args.metas.now i meta c.set_status_row.new.sampled (omega (arith, c.if-index-metas.false)) c.index-metas-index.is c.set_status_row.ensures.belongs)

pub returns-then-index-metas-clause-misfit : goal.returns-then-index-metas-clause-misfit
returns-then-index-metas-clause-misfit c = λ within. absurd (omega (arith, within, c.if-index-metas.true, c.from-index.ensures))

pub returns-clause-misfit : goal.returns-clause-misfit
returns-clause-misfit c =
    let metas = c.args.metas.now in
    let low : c.from-index.result < length metas = omega (arith, c.if-index-metas.false) in
    OnFalse_from c.set_status_row.result (IsStatusMisfit c.args.metas.now c.args.set c.args.field c.args.status) (λ no within.
    holds-at (λ (m : MetaData). ¬ MayHaveStatus m c.args.field c.args.status) metas metas c.from-index.result c.args.set c.index-metas-index.result refl c.from-index.ensures low c.index-metas-index.is
    (OnFalse_at no c.set_status_row.ensures.misfit))
