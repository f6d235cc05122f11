use Rattle.std.proofs.Common.{refl, arith, ◌∙◌}
use Rattle.row_words.specs.Words.{unpacked}
use Rattle.row_words.proofs.Loops.{unpacked_more}
use Rattle.row_words.proofs.digits.unpack.Goals as goal

pub loop-index-init : goal.loop-index-init
unfolding unpacked
loop-index-init c = refl

pub loop-index-preserved : goal.loop-index-preserved
loop-index-preserved c =
    unpacked_more c.loop-index.bytes c.copy_from_slice.new.self c.args.words.now c.loop-index.index (omega arith) (omega arith) c.loop-index.invariant
    (omega arith) (c.copy_from_slice.ensures.after ∙ c.to_le_bytes.ensures)
