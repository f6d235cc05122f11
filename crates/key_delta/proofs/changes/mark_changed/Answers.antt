use Rattle.std.proofs.Common.{ℕ, ◌<◌, List, length, ap, ◌∙◌, arith}
use Rattle.dataset_meta.proofs.RowLaws.{length_row}
use Rattle.dataset_meta.specs.DataValues.{DataValue}
use Rattle.dataset_meta.specs.Rows.{put_in}
use Rattle.row_words.specs.Belonging.{row_in}
use Rattle.row_words.specs.Patches.{patch_in}
use Rattle.row_words.proofs.FieldLaws.{stands}
use Rattle.key_delta.proofs.Differences.{tested, put_more, upto_more}
use Rattle.key_delta.proofs.changes.mark_changed.Goals as goal

pub returns-then-differs_at-clause-marked : goal.returns-then-differs_at-clause-marked
returns-then-differs_at-clause-marked c =
    let meta = c.args.meta.now in
    let fields = meta.fields in
    let index = c.args.index in
    let s = stands meta c.args.old.now.words index c.requires.old c.requires.index in
    let t = stands meta c.args.new.now.words index c.requires.new c.requires.index in
    let in_old : index < length (row_in fields c.args.old.now.words) = omega (arith, c.requires.index, length_row meta.quality fields (row_in fields c.args.old.now.words) c.requires.old.row) in
    let in_new : index < length (row_in fields c.args.new.now.words) = omega (arith, c.requires.index, length_row meta.quality fields (row_in fields c.args.new.now.words) c.requires.new.row) in
    let test = tested c.differs_at.result (row_in fields c.args.old.now.words) (row_in fields c.args.new.now.words) index s t c.differs_at.ensures in
    c.mark.ensures.put t.x
    ∙ ap (λ (x : DataValue). put_in (patch_in fields c.args.patch.now) index x) (t.here t.x)
    ∙ ap (λ (patch : List (ℕ × DataValue)). put_in patch index t.x) c.requires.marked
    ∙ put_more _ _ index s.x t.x c.differs_at.result in_old in_new s.read t.read test c.if-differs_at.true

pub returns-else-differs_at-clause-marked : goal.returns-else-differs_at-clause-marked
returns-else-differs_at-clause-marked c =
    let meta = c.args.meta.now in
    let fields = meta.fields in
    let index = c.args.index in
    let s = stands meta c.args.old.now.words index c.requires.old c.requires.index in
    let t = stands meta c.args.new.now.words index c.requires.new c.requires.index in
    let in_old : index < length (row_in fields c.args.old.now.words) = omega (arith, c.requires.index, length_row meta.quality fields (row_in fields c.args.old.now.words) c.requires.old.row) in
    let in_new : index < length (row_in fields c.args.new.now.words) = omega (arith, c.requires.index, length_row meta.quality fields (row_in fields c.args.new.now.words) c.requires.new.row) in
    let test = tested c.differs_at.result (row_in fields c.args.old.now.words) (row_in fields c.args.new.now.words) index s t c.differs_at.ensures in
    c.requires.marked ∙ upto_more _ _ index s.x t.x c.differs_at.result in_old in_new s.read t.read test c.if-differs_at.false
