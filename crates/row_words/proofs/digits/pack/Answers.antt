use Rattle.std.proofs.Common.{refl, arith, ap, ◌∙◌}
use Rattle.row_words.specs.Digits.{from_digits}
use Rattle.row_words.specs.Words.{packed}
use Rattle.row_words.proofs.Loops.{filled_more, front_is, back_is}
use Rattle.row_words.proofs.digits.pack.Goals as goal

pub loop-word-init : goal.loop-word-init
unfolding packed
loop-word-init c = record { filled = refl; left = refl }

pub loop-word-preserved : goal.loop-word-preserved
unfolding packed
loop-word-preserved c =
    let cut = rw c.min.ensures at c.split_at.ensures in
    record {
      filled = filled_more 256 8 c.loop-word.words c.args.bytes.now c.loop-word.word-index _ (omega arith) c.loop-word.invariant.filled
          (c.word_of.ensures ∙ ap (from_digits 256) (front_is 8 c.loop-word.word-index c.args.bytes.now c.loop-word.rest.now _ c.loop-word.invariant.left cut.front));
      left = back_is 8 c.loop-word.word-index c.args.bytes.now c.loop-word.rest.now _ c.loop-word.invariant.left cut.back;
    }
