use Rattle.std.proofs.Common.{length, rules, ◌∙◌, arith}
use Rattle.row_words.proofs.LayLaws.{laid_more, laid_all, words_laid}
use Rattle.row_words.proofs.Marks.{lowest}
use Rattle.row_words.proofs.patch.Patch.lay.Goals as goal

pub copy_field-requires-clause-index : goal.copy_field-requires-clause-index
copy_field-requires-clause-index c = (lowest c.loop-left.left (length c.args.meta.now.fields) c.loop-left-test.true (search rules) c.loop-left.invariant.marks).within

pub loop-left-smaller : goal.loop-left-smaller
loop-left-smaller c = (lowest c.loop-left.left (length c.args.meta.now.fields) c.loop-left-test.true (search rules) c.loop-left.invariant.marks).fewer

pub loop-left-preserved : goal.loop-left-preserved
loop-left-preserved c =
    let fields = c.args.meta.now.fields in
    let first = lowest c.loop-left.left (length fields) c.loop-left-test.true (search rules) c.loop-left.invariant.marks in
    record {
      marks = omega (arith, first.fewer, c.loop-left.invariant.marks);
      belongs = c.copy_field.ensures.belongs;
      laid = laid_more c.args.meta.now c.args.self.now c.loop-left.left c.loop-left.row.words c.copy_field.new.to.words c.requires.of first c.copy_field.ensures.copied ∙ c.loop-left.invariant.laid;
    }

pub returns-clause-patched : goal.returns-clause-patched
returns-clause-patched c =
    laid_all c.args.meta.now.fields c.args.self.now c.args.row.now.words c.loop-left.row.words c.loop-left.left c.loop-left-test.false c.loop-left.invariant.laid

pub returns-clause-words : goal.returns-clause-words
returns-clause-words c =
    words_laid c.args.meta.now c.args.self.now c.args.row.now.words c.loop-left.row.words c.loop-left.invariant.belongs
    (laid_all c.args.meta.now.fields c.args.self.now c.args.row.now.words c.loop-left.row.words c.loop-left.left c.loop-left-test.false c.loop-left.invariant.laid)
