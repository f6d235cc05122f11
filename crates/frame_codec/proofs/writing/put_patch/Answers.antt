use Rattle.std.proofs.Common.{◌<◌, ◌^◌, ℕ, length, rules, sym, subst, arith}
use Rattle.row_words.specs.Belonging.{row_in}
use Rattle.row_words.specs.Patches.{marked_from, patch_in}
use Rattle.frame_codec.specs.Spelling.{changes_bytes}
use Rattle.frame_codec.proofs.Laid.{length-row_in}
use Rattle.row_words.proofs.Marks.{lowest}
use Rattle.frame_codec.proofs.Marks.{none-laid, change-room, change-laid, changes-laid}
use Rattle.frame_codec.proofs.writing.put_patch.Goals as goal

pub put_change-requires-clause-index : goal.put_change-requires-clause-index
put_change-requires-clause-index c =
    let row = row_in c.args.meta.now.fields c.args.patch.now.row.words in
    let first = lowest c.loop-left.left (length row) c.loop-left-test.true (search rules) c.loop-left.invariant.marks in
    omega (arith, first.within, length-row_in c.args.meta.now.fields c.args.patch.now.row.words)

pub put_change-requires-clause-room : goal.put_change-requires-clause-room
unfolding patch_in
put_change-requires-clause-room c =
    let row = row_in c.args.meta.now.fields c.args.patch.now.row.words in
    let first = lowest c.loop-left.left (length row) c.loop-left-test.true (search rules) c.loop-left.invariant.marks in
    change-room c.args.meta.now.quality row c.loop-left.left c.args.pen.now c.loop-left.pen (changes_bytes c.args.meta.now.quality (marked_from 0 c.args.patch.now.mask row)) first c.loop-left.invariant.laid c.requires.room

pub loop-left-init : goal.loop-left-init
loop-left-init c =
    let row = row_in c.args.meta.now.fields c.args.patch.now.row.words in
    record {
      marks = subst (λ (n : ℕ). c.args.patch.now.mask < 2 ^ n) (sym (length-row_in c.args.meta.now.fields c.args.patch.now.row.words)) c.requires.of.marks;
      laid = none-laid c.args.pen.now _;
    }

pub loop-left-smaller : goal.loop-left-smaller
loop-left-smaller c =
    let row = row_in c.args.meta.now.fields c.args.patch.now.row.words in
    (lowest c.loop-left.left (length row) c.loop-left-test.true (search rules) c.loop-left.invariant.marks).fewer

pub loop-left-preserved : goal.loop-left-preserved
loop-left-preserved c =
    let row = row_in c.args.meta.now.fields c.args.patch.now.row.words in
    let first = lowest c.loop-left.left (length row) c.loop-left-test.true (search rules) c.loop-left.invariant.marks in
    record {
      marks = omega (arith, first.fewer, c.loop-left.invariant.marks);
      laid = change-laid c.args.meta.now.quality row c.loop-left.left c.args.pen.now c.loop-left.pen c.put_change.new.pen (changes_bytes c.args.meta.now.quality (marked_from 0 c.args.patch.now.mask row)) first c.loop-left.invariant.laid c.put_change.ensures;
    }

pub returns : goal.returns
unfolding patch_in
returns c =
    let row = row_in c.args.meta.now.fields c.args.patch.now.row.words in
    changes-laid c.args.meta.now.quality row c.loop-left.left c.args.pen.now c.loop-left.pen (changes_bytes c.args.meta.now.quality (marked_from 0 c.args.patch.now.mask row)) c.loop-left-test.false c.loop-left.invariant.laid
