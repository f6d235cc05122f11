use Rattle.std.proofs.Common.{arith, ap, ◌∙◌, ◌*◌, List, map}
use Rattle.row_words.specs.Digits.{from_digits}
use Rattle.dataset_meta.specs.declared.field.Field.{Field}
use Rattle.row_words.specs.Shapes.{code_of}
use Rattle.row_words.proofs.Loops.{filled_more, front_is, back_is, mapped_part}
use Rattle.row_words.proofs.meta_shape.write_codes.Goals as goal

pub loop-word-preserved : goal.loop-word-preserved
loop-word-preserved c =
    let cut = rw c.min.ensures at c.split_at.ensures in
    let front = front_is 4 c.loop-word.word-index c.args.fields.now c.loop-word.rest.now _ c.loop-word.invariant.left cut.front in
    record {
      filled = filled_more 65536 4 c.loop-word.words _ c.loop-word.word-index _ (omega arith) c.loop-word.invariant.filled
          (c.codes_of.ensures.codes ∙ ap (λ (fields : List Field). from_digits 65536 (map (code_of c.args.quality) fields)) front ∙ ap (from_digits 65536) (mapped_part (code_of c.args.quality) 4 (4 * c.loop-word.word-index) c.args.fields.now));
      left = back_is 4 c.loop-word.word-index c.args.fields.now c.loop-word.rest.now _ c.loop-word.invariant.left cut.back;
    }
