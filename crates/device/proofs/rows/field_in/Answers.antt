use Rattle.std.proofs.Common.{[], get_or, subst, sym, arith}
use Rattle.dataset_meta.specs.Metas.{MetaData}
use Rattle.row_words.specs.Belonging.{Belongs}
use Rattle.writer_group.specs.declared.sampled.Sampled.{Sampled}
use Rattle.device.proofs.RowLists.{row-of}
use Rattle.device.proofs.rows.field_in.Goals as goal

pub field_of-requires : goal.field_of-requires
field_of-requires c =
    let i = c.from-index.result in
    let meta = c.index-metas-index.result in
    let none : Sampled = record { row = record { words = [] }; version = 0 } in
    subst (λ (m : MetaData). Belongs m (get_or c.args.rows.now i none).row.words) (sym c.index-metas-index.is)
    (row-of c.args.metas.now c.args.rows.now i none c.requires.rows (omega (arith, c.requires.count, c.if-index-metas.false)) meta)
