use Rattle.std.proofs.Common.{◌≡◌, refl, sym, ◌≤◌, length, ◌∙◌, arith}
use Rattle.dataset_meta.proofs.RowLaws.{length_row}
use Rattle.row_words.specs.Belonging.{row_in}
use Rattle.key_delta.proofs.Differences.{upto_all}
use Rattle.key_delta.proofs.changes.mark_changes.Goals as goal

pub mark_changed-requires-clause-marked : goal.mark_changed-requires-clause-marked
mark_changed-requires-clause-marked c = c.loop-index.invariant.marked ∙ sym c.passed-next.ensures.same

pub returns-then-next-count-clause-differ : goal.returns-then-next-count-clause-differ
returns-then-next-count-clause-differ c =
    let meta = c.args.meta.now in
    let fields = meta.fields in
    let count : length c.fields-count.result.now ≡ length fields = rw c.fields-count.ensures.fields refl in
    let all : length fields ≤ c.passed-next.result = omega (arith, count, c.if-next-count.true) in
    c.loop-index.invariant.marked
    ∙ sym c.passed-next.ensures.same
    ∙ upto_all _ _ c.passed-next.result (omega (arith, all, length_row meta.quality fields (row_in fields c.args.old.now.words) c.requires.old.row))
    (omega (arith, all, length_row meta.quality fields (row_in fields c.args.new.now.words) c.requires.new.row))

pub returns-clause-differ : goal.returns-clause-differ
returns-clause-differ c =
    let meta = c.args.meta.now in
    let fields = meta.fields in
    let all = rw c.fields-count.ensures.fields at c.loop-index-test.false in
    c.loop-index.invariant.marked
    ∙ upto_all _ _ c.loop-index.index (omega (arith, all, length_row meta.quality fields (row_in fields c.args.old.now.words) c.requires.old.row))
    (omega (arith, all, length_row meta.quality fields (row_in fields c.args.new.now.words) c.requires.new.row))
